use Rattle.cvc_field.proofs.Stepping.{still_seated}
use Rattle.cvc_field.proofs.field.Field.load_as.Goals as goal

pub returns-clause-seat : goal.returns-clause-seat
returns-clause-seat g c = still_seated c.args.self.now c.args.seat.now c.load.new.seat _ _ c.requires.seat c.load.ensures.0 c.load.ensures.2.0
