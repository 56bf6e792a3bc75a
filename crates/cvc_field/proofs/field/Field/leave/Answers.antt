use Rattle.cvc_field.proofs.Giving.{left_it, may_leave, leaves_it}
use Rattle.cvc_field.proofs.field.Field.leave.Goals as goal

pub drop_running-requires-clause-device : goal.drop_running-requires-clause-device
drop_running-requires-clause-device c = (c.requires.device, leaves_it c.args.self.now.circuit.now c.args.d c.requires.giving.0 c.args.spare c.args.seat.now.me.0.actor c.requires.giving.1)

pub drop_running-requires-clause-allowed : goal.drop_running-requires-clause-allowed
drop_running-requires-clause-allowed c = may_leave c.args.self.now.circuit.now c.args.d c.requires.giving.0 c.args.spare c.args.seat.now.me.0.actor c.requires.giving.1

pub returns-clause-idle : goal.returns-clause-idle
returns-clause-idle c = left_it c.args.self.now.circuit.now c.args.d c.requires.giving.0 c.args.spare c.args.seat.now.me.0 c.drop_running.new.seat.me.0 c.drop_running.result c.requires.seat.2 c.drop_running.ensures.step c.requires.giving.1
