use Rattle.cvc_field.proofs.Stepping.{still_seated}
use Rattle.cvc_field.proofs.field.Field.fetch_and_as.Goals as goal

pub returns-clause-seat : goal.returns-clause-seat
returns-clause-seat g c = still_seated c.args.self.now c.args.seat.now c.fetch_and.new.seat _ _ c.requires.seat c.fetch_and.ensures.0 c.fetch_and.ensures.2.0
