use Rattle.cvc_serial.proofs.Settles.{was_widened, onward_pushed}
use Rattle.cvc_serial.proofs.engine.Engine.try_slot.Goals as goal

pub returns-in_ok-push : goal.returns-in_ok-push
returns-in_ok-push c = let n = c.args.circuit.now in
    onward_pushed n c.args.self.now c.widen.new.self c.in-Some.bound c.push.new.self (was_widened n c.args.d.0 c.args.slot c.args.self.now c.widen.new.self c.in_ok-bound.field-0 c.in-Some.bound c.in_ok-bound.ensures c.in-Some.is)
    c.in_ok-push.ensures.permutation
