use Rattle.cvc_cdl.proofs.Lookups.{connection_more, connection_wrong, connections_all}
use Rattle.cvc_cdl.proofs.library.connects.Goals as goal

pub returns-then-not-contains : goal.returns-then-not-contains
returns-then-not-contains c =
    connection_wrong c.args.ports.now c.args.pairs.now c.loop-pair.pair-index c.args.names.now c.requires c.loop-pair-test.true c.pair-item.result c.pair-item.is c.bytes.result.now c.bytes.ensures
    c.contains.result c.contains.ensures c.if-not-contains.true

pub loop-pair-preserved : goal.loop-pair-preserved
loop-pair-preserved c =
    connection_more c.args.ports.now c.args.pairs.now c.loop-pair.pair-index c.args.names.now c.requires c.loop-pair-test.true c.pair-item.result c.pair-item.is c.bytes.result.now c.bytes.ensures
    c.contains.result c.contains.ensures c.loop-pair.invariant c.if-not-contains.false

pub returns : goal.returns
returns c = connections_all c.args.ports.now c.args.pairs.now c.loop-pair.pair-index c.loop-pair.auto.pair-index-end c.loop-pair-test.false c.loop-pair.invariant
