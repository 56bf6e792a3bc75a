use Rattle.cvc_field.proofs.Stepping.{asks}
use Rattle.std.proofs.Common.{refl, []}
use Rattle.cvc_field.proofs.Meaning.{subtracts}
use Rattle.cvc_core.specs.declared.actor.Intent.TheVariants.{GiveCredit}
use Rattle.cvc_field.proofs.Going.{goes_step}
use Rattle.cvc_field.proofs.field.Field.subtract.Goals as goal

pub fetch_sub_as-requires-clause-moves : goal.fetch_sub_as-requires-clause-moves
fetch_sub_as-requires-clause-moves c = asks c.args.self.now c.args.seat.now c.requires.seat _ _ _
    (subtracts c.args.self.now.circuit.now c.args.self.now.table.shared.key.hands c.args.seat.now.me.0 c.nets-circuit.ensures.circuit c.args.self.now.few_hands c.requires.allowed)

pub returns-clause-goes : goal.returns-clause-goes
returns-clause-goes c = goes_step c.args.self.now.circuit.now GiveCredit c.args.seat.now.me.0 c.fetch_sub_as.new.seat.me.0 c.fetch_sub_as.result [] c.requires.seat.2 tt c.requires.allowed c.fetch_sub_as.ensures.step refl
