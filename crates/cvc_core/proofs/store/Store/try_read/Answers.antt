use Rattle.std.proofs.Common.{◌≡◌, ◌<◌, length, arith, refl, sym, true≢false, ap, ◌∙◌}
use Rattle.cvc_law.specs.declared.device.Device.{Device}
use Rattle.cvc_law.specs.Reach.{device_at, read_place}
use Rattle.cvc_core.specs.declared.actor.Intent.TheVariants.{Read}
use Rattle.cvc_core.specs.Store.{machine_of}
use Rattle.cvc_core.proofs.Trying.{none_runs, run_refused, run_done, run_ready, run_read_within, index_is, read_effect}
use Rattle.cvc_core.proofs.store.Store.try_read.Goals as goal

pub returns-in_default : goal.returns-in_default
returns-in_default c = none_runs c.args.circuit.now (machine_of c.args.self.now) c.args.k (Read c.args.read) tt c.in_default.ensures

pub may_read-requires : goal.may_read-requires
may_read-requires c = run_ready c.args.circuit.now (machine_of c.args.self.now) c.args.k c.in-Some.run' c.requires c.in-Some.ensures

pub returns-then-not-may_read : goal.returns-then-not-may_read
returns-then-not-may_read c = run_refused c.args.circuit.now (machine_of c.args.self.now) c.args.k (Read c.args.read) c.in-Some.run' c.in-Some.ensures (λ h. true≢false (sym (c.if-not-may_read.ensures.1 h)))

pub returns : goal.returns
returns c = run_done c.args.circuit.now (machine_of c.args.self.now) _ c.args.k (Read c.args.read) c.in-Some.run' c.in-Some.ensures (c.if-not-may_read.ensures.0 refl)
    (rw (c.from.ensures, c.loaded.ensures) (read_effect c.args.circuit.now (machine_of c.args.self.now) c.args.k c.args.read c.index-reach.result.now c.in-Some.run'
    (index_is c.args.self.now.bounds.items _ c.read_place.result c.index-reach.result.now (run_read_within c.args.circuit.now (machine_of c.args.self.now) c.args.k c.in-Some.run' c.requires c.in-Some.ensures c.args.read) (c.read_place.ensures.place ∙ ap (λ (e : Device). read_place e c.args.read) c.device-device.ensures.same) c.index-reach.ensures)))

pub index-reach-requires : goal.index-reach-requires
index-reach-requires c =
    let within : read_place (device_at c.args.circuit.now c.in-Some.run'.device.0) c.args.read < length c.args.self.now.bounds.items = run_read_within c.args.circuit.now (machine_of c.args.self.now) c.args.k c.in-Some.run' c.requires c.in-Some.ensures c.args.read in
    let place : c.read_place.result ≡ read_place (device_at c.args.circuit.now c.in-Some.run'.device.0) c.args.read = c.read_place.ensures.place ∙ ap (λ (e : Device). read_place e c.args.read) c.device-device.ensures.same in
    omega arith
