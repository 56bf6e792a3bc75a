use Rattle.cvc_field.proofs.Stepping.{still_seated}
use Rattle.cvc_field.proofs.field.Field.compare_exchange_as.Goals as goal

pub returns-clause-seat : goal.returns-clause-seat
returns-clause-seat g c = still_seated c.args.self.now c.args.seat.now c.compare_exchange.new.seat _ _ c.requires.seat c.compare_exchange.ensures.0 c.compare_exchange.ensures.2.0
