use Rattle.cvc_core.proofs.Listed.{tried_on, sound_measured}
use Rattle.cvc_core.proofs.machine.step.Goals as goal

pub invariant_of-state : goal.invariant_of-state
invariant_of-state c = sound_measured c.args.circuit.now _ (tried_on c.args.circuit.now _ c.args.state.now _ c.args.event c.try_event.result c.state.view_is c.requires c.try_event.ensures)

pub returns-clause-sound : goal.returns-clause-sound
returns-clause-sound c = tried_on c.args.circuit.now _ c.args.state.now _ c.args.event c.try_event.result c.state.view_is c.requires c.try_event.ensures
