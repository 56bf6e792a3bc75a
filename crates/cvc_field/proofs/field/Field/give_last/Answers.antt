use Rattle.cvc_field.proofs.Giving.{gave_back, may_give_back}
use Rattle.cvc_field.proofs.field.Field.give_last.Goals as goal

pub subtract-requires-clause-allowed : goal.subtract-requires-clause-allowed
subtract-requires-clause-allowed c = may_give_back c.args.self.now.circuit.now 0 c.args.seat.now.me.0.actor c.requires.idle

pub returns-clause-idle : goal.returns-clause-idle
returns-clause-idle c = gave_back c.args.self.now.circuit.now 0 c.args.seat.now.me.0 c.subtract.new.seat.me.0 c.subtract.result c.requires.seat.2 c.subtract.ensures.step c.requires.idle
