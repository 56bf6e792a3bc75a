use Rattle.std.proofs.Common.{◌∙◌, [], ◌∷◌, Bool, ap, subst, sym}
use Rattle.std.specs.Prelude.{if◌then◌else◌}
use Rattle.cvc_core.specs.declared.actor.Actor.TheVariants.{Running}
use Rattle.cvc_core.specs.State.{run_of, debt_of}
use Rattle.cvc_core.specs.Steps.{next_debt}
use Rattle.cvc_field.specs.Runs.{Goes, with_debt}
use Rattle.cvc_field.proofs.Giving.{mark_set, queues_it, may_queue}
use Rattle.cvc_field.proofs.field.Field.mark.Goals as goal

pub returns-clause-actor : goal.returns-clause-actor
returns-clause-actor c = mark_set c.args.self.now.circuit.now c.args.d.0 c.args.seat.now.me.0 c.set_queued-found.new.seat.me.0 c.set_queued-found.result c.requires.seat.2 c.set_queued-found.ensures.step c.requires.owing
    ∙ ap (λ (b : Bool). Running (with_debt (next_debt c.args.self.now.circuit.now (debt_of (run_of c.args.seat.now.me.0.actor).owes)) b (run_of c.args.seat.now.me.0.actor))) (sym c.says_queued.ensures)

pub returns-clause-goes : goal.returns-clause-goes
returns-clause-goes c = subst (λ (b : Bool). Goes c.args.seat.now.me.0 c.set_queued-found.new.seat.me.0 (if b then [] else c.args.d ∷ [])) (sym c.says_queued.ensures) c.set_queued-found.ensures.goes

pub set_queued-found-requires-clause-device : goal.set_queued-found-requires-clause-device
set_queued-found-requires-clause-device c = (c.requires.device, queues_it c.args.self.now.circuit.now c.args.d.0 c.args.seat.now.me.0.actor c.requires.owing)

pub set_queued-found-requires-clause-allowed : goal.set_queued-found-requires-clause-allowed
set_queued-found-requires-clause-allowed c = may_queue c.args.self.now.circuit.now c.args.d.0 c.args.seat.now.me.0.actor c.requires.owing
