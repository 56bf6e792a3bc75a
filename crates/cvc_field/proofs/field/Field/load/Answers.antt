use Rattle.cvc_field.proofs.Stepping.{asks}
use Rattle.std.proofs.Common.{refl, [], ap, ◌∙◌, ◌+◌, ◌<◌, ℕ, subst}
use Rattle.cvc_law.specs.Reach.{width}
use Rattle.cvc_field.proofs.Meaning.{loads, told_read}
use Rattle.cvc_core.specs.declared.actor.Intent.TheVariants.{Read}
use Rattle.cvc_field.proofs.Going.{goes_step}
use Rattle.cvc_field.proofs.field.Field.load.Goals as goal

pub load_as-requires-clause-moves : goal.load_as-requires-clause-moves
load_as-requires-clause-moves c = asks c.args.self.now c.args.seat.now c.requires.seat _ _ _
    (loads c.args.self.now.circuit.now c.args.self.now.table.shared.key.hands c.args.seat.now.me.0 c.args.read _ (c.bound_word-word.ensures.0 ∙ ap (λ (b : ℕ). 1 + b) c.requires.bound.1) (subst (λ (b : ℕ). b < width c.args.self.now.circuit.now) c.requires.bound.1 c.requires.bound.0) c.requires.allowed)

pub returns-clause-word : goal.returns-clause-word
returns-clause-word c = told_read c.args.self.now.circuit.now c.args.seat.now.me.0 c.args.read c.args.bound c.load_as.result c.requires.seat.2 c.requires.bound.1 c.load_as.ensures.told

pub returns-clause-goes : goal.returns-clause-goes
returns-clause-goes c = goes_step c.args.self.now.circuit.now (Read c.args.read) c.args.seat.now.me.0 c.load_as.new.seat.me.0 c.load_as.result [] c.requires.seat.2 tt c.requires.allowed c.load_as.ensures.step refl
