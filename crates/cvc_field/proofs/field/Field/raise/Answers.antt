use Rattle.cvc_field.proofs.Stepping.{asks}
use Rattle.std.proofs.Common.{refl, [], ap, ◌∙◌, ◌+◌, ◌<◌, ℕ, subst}
use Rattle.cvc_law.specs.Reach.{width}
use Rattle.cvc_field.proofs.Meaning.{raises, told_widen}
use Rattle.cvc_core.specs.declared.actor.Intent.TheVariants.{Widen}
use Rattle.cvc_field.proofs.Going.{goes_step}
use Rattle.cvc_field.proofs.field.Field.raise.Goals as goal

pub fetch_max_as-requires-clause-moves : goal.fetch_max_as-requires-clause-moves
fetch_max_as-requires-clause-moves c = asks c.args.self.now c.args.seat.now c.requires.seat _ _ _
    (raises c.args.self.now.circuit.now c.args.self.now.table.shared.key.hands c.args.seat.now.me.0 c.args.slot _ c.args.operand (c.bound_word-word.ensures.0 ∙ ap (λ (b : ℕ). 1 + b) c.requires.bound.1) (subst (λ (b : ℕ). b < width c.args.self.now.circuit.now) c.requires.bound.1 c.requires.bound.0) c.requires.bound.2 c.requires.operand.1 c.requires.operand.0 c.requires.allowed)

pub returns-clause-word : goal.returns-clause-word
returns-clause-word c = told_widen c.args.self.now.circuit.now c.args.seat.now.me.0 c.args.slot c.args.bound c.fetch_max_as.result c.requires.seat.2 c.requires.bound.1 c.fetch_max_as.ensures.told

pub returns-clause-goes : goal.returns-clause-goes
returns-clause-goes c = goes_step c.args.self.now.circuit.now (Widen c.args.slot) c.args.seat.now.me.0 c.fetch_max_as.new.seat.me.0 c.fetch_max_as.result [] c.requires.seat.2 tt c.requires.allowed c.fetch_max_as.ensures.step refl
