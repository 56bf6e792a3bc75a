use Rattle.cvc_field.proofs.Stepping.{asks}
use Rattle.cvc_field.proofs.Meaning.{looks}
use Rattle.cvc_field.proofs.field.Field.look.Goals as goal

pub load_as-requires-clause-moves : goal.load_as-requires-clause-moves
load_as-requires-clause-moves c = asks c.args.self.now c.args.seat.now c.requires.seat _ _ _
    (looks c.args.self.now.circuit.now c.args.self.now.table.shared.key.hands c.args.seat.now.me.0 c.args.d _ c.mark_word-word.ensures.0 c.requires.device c.requires.idle)
