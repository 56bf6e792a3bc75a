use Rattle.cvc_field.proofs.Stepping.{asks}
use Rattle.std.proofs.Common.{ap, ◌∙◌, ◌+◌, ◌<◌, ℕ, subst}
use Rattle.cvc_law.specs.Network.{devices}
use Rattle.cvc_law.specs.Reach.{width}
use Rattle.cvc_field.proofs.Meaning.{queues}
use Rattle.cvc_core.specs.declared.actor.Intent.TheVariants.{Queue}
use Rattle.cvc_field.proofs.Going.{goes_step, queued_news}
use Rattle.cvc_field.proofs.field.Field.set_queued.Goals as goal

pub fetch_or_as-requires-clause-moves : goal.fetch_or_as-requires-clause-moves
fetch_or_as-requires-clause-moves c = asks c.args.self.now c.args.seat.now c.requires.seat _ _ _
    (queues c.args.self.now.circuit.now c.args.self.now.table.shared.key.hands c.args.seat.now.me.0 _ (c.mark_word-word.ensures.0 ∙ ap (λ (d : ℕ). 1 + width c.args.self.now.circuit.now + d) c.requires.device.1) (subst (λ (d : ℕ). d < devices c.args.self.now.circuit.now) c.requires.device.1 c.requires.device.0) c.requires.allowed)

pub returns-clause-goes : goal.returns-clause-goes
returns-clause-goes c = goes_step c.args.self.now.circuit.now Queue c.args.seat.now.me.0 c.fetch_or_as.new.seat.me.0 c.fetch_or_as.result _ c.requires.seat.2 tt c.requires.allowed c.fetch_or_as.ensures.step
    (queued_news c.args.self.now.circuit.now c.args.seat.now.me.0 c.args.d c.fetch_or_as.result c.requires.seat.2 c.requires.device.1)
