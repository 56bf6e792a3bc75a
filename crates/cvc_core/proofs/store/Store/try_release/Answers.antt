use Rattle.std.proofs.Common.{refl, sym, true≢false}
use Rattle.cvc_core.specs.declared.actor.Intent.TheVariants.{Release}
use Rattle.cvc_core.specs.Store.{machine_of}
use Rattle.cvc_core.proofs.Trying.{none_runs, run_refused, run_done, run_ready, run_device_marked}
use Rattle.cvc_core.proofs.MarkWords.{release_effect}
use Rattle.cvc_core.proofs.store.Store.try_release.Goals as goal

pub returns-in_default : goal.returns-in_default
returns-in_default c = none_runs c.args.circuit.now (machine_of c.args.self.now) c.args.k Release tt c.in_default.ensures

pub may_release-requires : goal.may_release-requires
may_release-requires c = run_ready c.args.circuit.now (machine_of c.args.self.now) c.args.k c.in-Some.run' c.requires c.in-Some.ensures

pub returns-then-not-may_release : goal.returns-then-not-may_release
returns-then-not-may_release c = run_refused c.args.circuit.now (machine_of c.args.self.now) c.args.k Release c.in-Some.run' c.in-Some.ensures (λ h. true≢false (sym (c.if-not-may_release.ensures.1 h)))

pub mark-mark-requires : goal.mark-mark-requires
mark-mark-requires c = run_device_marked c.args.circuit.now (machine_of c.args.self.now) c.args.k c.in-Some.run' c.requires c.in-Some.ensures

pub returns : goal.returns
returns c = run_done c.args.circuit.now (machine_of c.args.self.now) _ c.args.k Release c.in-Some.run' c.in-Some.ensures (c.if-not-may_release.ensures.0 refl)
    (rw c.from.ensures (release_effect c.args.circuit.now c.args.self.now.bounds.items c.args.self.now.marks.items c.args.self.now.count c.args.self.now.actors.items c.args.k c.in-Some.run' c.mark-mark.result c.mark-mark.ensures))
