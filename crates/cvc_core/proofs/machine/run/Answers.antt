use Rattle.std.proofs.Common.{le_refl, length}
use Rattle.std.proofs.lemmas.Option.{slice_get_past}
use Rattle.cvc_core.specs.declared.event.Event.TheVariants.{Load}
use Rattle.cvc_core.proofs.Listed.{run_more, done}
use Rattle.cvc_core.proofs.machine.run.Goals as goal

pub loop-i-preserved : goal.loop-i-preserved
loop-i-preserved c =
    let both = run_more c.args.circuit.now c.args.state.now.machine c.args.events.now c.loop-i.i (Load 0 0) c.loop-i.state c.step.new.state c.loop-i-test.true c.loop-i.invariant.enabled c.loop-i.invariant.state_is
    (c.step.ensures.enabled.0 c.if-is_err.ensures.negation) (done c.step.result _ c.if-is_err.ensures.negation c.step.ensures.effect) in
    record { enabled = both.0; state_is = both.1; sound = c.step.ensures.sound }

pub returns-clause-stopped : goal.returns-clause-stopped
returns-clause-stopped c e is enabled = cc (slice_get_past c.args.events.now (length c.args.events.now) (le_refl (length c.args.events.now)))
