use Rattle.cvc_field.proofs.Stepping.{still_seated}
use Rattle.cvc_field.proofs.field.Field.fetch_sub_as.Goals as goal

pub returns-clause-seat : goal.returns-clause-seat
returns-clause-seat g c = still_seated c.args.self.now c.args.seat.now c.fetch_sub.new.seat _ _ c.requires.seat c.fetch_sub.ensures.0 c.fetch_sub.ensures.2.0
