use Rattle.cvc_field.proofs.Stepping.{asks}
use Rattle.cvc_field.proofs.Meaning.{takes}
use Rattle.cvc_field.proofs.field.Field.take.Goals as goal

pub compare_exchange_as-requires-clause-moves : goal.compare_exchange_as-requires-clause-moves
compare_exchange_as-requires-clause-moves c = asks c.args.self.now c.args.seat.now c.requires.seat _ _ _
    (takes c.args.self.now.circuit.now c.args.self.now.table.shared.key.hands c.args.seat.now.me.0 c.args.d _ c.mark_word-word.ensures.0 c.requires.device c.requires.idle)
