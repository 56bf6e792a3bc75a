use Rattle.std.proofs.Common.{◌≡◌, refl, sym, ap, ◌∙◌, true≢false}
use Rattle.cvc_law.specs.declared.device.Device.{Device}
use Rattle.cvc_law.specs.Conduction.{target}
use Rattle.cvc_law.specs.Reach.{device_at, target_place}
use Rattle.cvc_core.specs.declared.actor.Intent.TheVariants.{Widen}
use Rattle.cvc_core.specs.Store.{machine_of}
use Rattle.cvc_core.proofs.Trying.{none_runs, run_refused, run_done, run_ready, run_target_within, index_is, widen_effect}
use Rattle.cvc_core.proofs.store.Store.try_widen.Goals as goal

pub returns-in_default : goal.returns-in_default
returns-in_default c = none_runs c.args.circuit.now (machine_of c.args.self.now) c.args.k (Widen c.args.slot) tt c.in_default.ensures

pub may_widen-requires : goal.may_widen-requires
may_widen-requires c = run_ready c.args.circuit.now (machine_of c.args.self.now) c.args.k c.in-Some.run' c.requires c.in-Some.ensures

pub returns-then-not-may_widen : goal.returns-then-not-may_widen
returns-then-not-may_widen c = run_refused c.args.circuit.now (machine_of c.args.self.now) c.args.k (Widen c.args.slot) c.in-Some.run' c.in-Some.ensures (λ h. true≢false (sym (c.if-not-may_widen.ensures.1 h)))

pub returns : goal.returns
returns c =
    let r = c.in-Some.run' in
    let place : c.target_place-bound.result ≡ target_place (device_at c.args.circuit.now r.device.0) c.args.slot = c.target_place-bound.ensures.place ∙ ap (λ (e : Device). target_place e c.args.slot) c.device-device.ensures.same in
    run_done c.args.circuit.now (machine_of c.args.self.now) _ c.args.k (Widen c.args.slot) r c.in-Some.ensures (c.if-not-may_widen.ensures.0 refl)
    (rw (c.from.ensures, c.given.ensures) (widen_effect c.args.circuit.now (machine_of c.args.self.now) c.args.k c.args.slot c.target_place-bound.result c.index-before.result.now c.offer-reach.result c.max.result c.target-net.result r c.new_debt-owes.result
    (c.target-net.ensures.net ∙ ap (λ (e : Device). target e c.args.slot) c.device-device.ensures.same) place
    (index_is c.args.self.now.bounds.items _ c.target_place-bound.result c.index-before.result.now (run_target_within c.args.circuit.now (machine_of c.args.self.now) c.args.k r c.requires c.in-Some.ensures c.args.slot) place c.index-before.ensures)
    c.offer-reach.ensures c.max.ensures c.new_debt-owes.ensures))
