use Rattle.cvc_field.proofs.Stepping.{asks}
use Rattle.cvc_field.proofs.Meaning.{counts}
use Rattle.cvc_field.proofs.field.Field.read_count.Goals as goal

pub load_as-requires-clause-moves : goal.load_as-requires-clause-moves
load_as-requires-clause-moves c = asks c.args.self.now c.args.seat.now c.requires.seat _ _ _ (counts c.args.self.now.circuit.now c.args.self.now.table.shared.key.hands c.args.seat.now.me.0 c.requires.idle)
