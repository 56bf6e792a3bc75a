use Rattle.cvc_core.specs.Store.{machine_of}
use Rattle.cvc_core.proofs.Dispatching.{lower_tried, lower_refused}
use Rattle.cvc_core.proofs.store.Store.try_lower.Goals as goal

pub returns-then-slot-ne0 : goal.returns-then-slot-ne0
returns-then-slot-ne0 c = lower_refused c.args.circuit.now (machine_of c.args.self.now) c.args.k c.args.slot c.if-slot-ne0.true

pub returns : goal.returns
returns c = lower_tried c.args.circuit.now (machine_of c.args.self.now) (machine_of c.try_widen.new.self) c.args.k c.args.slot c.try_widen.result c.if-slot-ne0.false c.try_widen.ensures
