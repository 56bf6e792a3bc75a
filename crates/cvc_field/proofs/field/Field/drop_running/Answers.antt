use Rattle.cvc_field.proofs.Stepping.{asks}
use Rattle.std.proofs.Common.{refl, [], ap, ◌∙◌, ◌+◌, ◌<◌, ℕ, subst}
use Rattle.cvc_law.specs.Network.{devices}
use Rattle.cvc_law.specs.Reach.{width}
use Rattle.cvc_field.proofs.Meaning.{drops}
use Rattle.cvc_core.specs.declared.actor.Intent.TheVariants.{Release}
use Rattle.cvc_field.proofs.Going.{goes_step}
use Rattle.cvc_field.proofs.field.Field.drop_running.Goals as goal

pub fetch_and_as-requires-clause-moves : goal.fetch_and_as-requires-clause-moves
fetch_and_as-requires-clause-moves c = asks c.args.self.now c.args.seat.now c.requires.seat _ _ _
    (drops c.args.self.now.circuit.now c.args.self.now.table.shared.key.hands c.args.seat.now.me.0 _ (c.mark_word-word.ensures.0 ∙ ap (λ (d : ℕ). 1 + width c.args.self.now.circuit.now + d) c.requires.device.1) (subst (λ (d : ℕ). d < devices c.args.self.now.circuit.now) c.requires.device.1 c.requires.device.0) c.requires.allowed)

pub returns-clause-goes : goal.returns-clause-goes
returns-clause-goes c = goes_step c.args.self.now.circuit.now Release c.args.seat.now.me.0 c.fetch_and_as.new.seat.me.0 c.fetch_and_as.result [] c.requires.seat.2 tt c.requires.allowed c.fetch_and_as.ensures.step refl
