use Rattle.cvc_core.proofs.Offering.{low_offer, high_offer}
use Rattle.cvc_core.proofs.offers.offer.Goals as goal

pub returns-then-slot-eq0 : goal.returns-then-slot-eq0
returns-then-slot-eq0 c = low_offer c.args.circuit.now c.args.run.now c.requires.ready c.args.slot c.low_reach.result c.given-value.result c.ceiling.result c.requires.slot c.if-slot-eq0.true c.ceiling.ensures.ceiling c.given-value.ensures c.low_reach.ensures

pub returns-else-slot-eq0 : goal.returns-else-slot-eq0
returns-else-slot-eq0 c = high_offer c.args.circuit.now c.args.run.now c.requires.ready c.args.slot c.high_reach.result c.given-value.result c.floor.result c.requires.slot c.if-slot-eq0.false c.floor.ensures.floor c.given-value.ensures c.high_reach.ensures
