use Rattle.cvc_core.specs.Store.{machine_of}
use Rattle.cvc_core.proofs.Dispatching.{raise_tried, raise_refused}
use Rattle.cvc_core.proofs.store.Store.try_raise.Goals as goal

pub returns-then-slot-ne1 : goal.returns-then-slot-ne1
returns-then-slot-ne1 c = raise_refused c.args.circuit.now (machine_of c.args.self.now) c.args.k c.args.slot c.if-slot-ne1.true

pub returns : goal.returns
returns c = raise_tried c.args.circuit.now (machine_of c.args.self.now) (machine_of c.try_widen.new.self) c.args.k c.args.slot c.try_widen.result c.if-slot-ne1.false c.try_widen.ensures
