use Rattle.cvc_cdl.proofs.Lookups.{ports_more, ports_none, ports_whole}
use Rattle.cvc_cdl.proofs.library.names_of.Goals as goal

pub loop-port-init : goal.loop-port-init
loop-port-init c = ports_none c.new-names.result c.new-names.ensures

pub loop-port-preserved : goal.loop-port-preserved
loop-port-preserved c =
    ports_more c.args.ports.now c.loop-port.port-index c.loop-port.names c.insert.new.self c.port-item.result c.bytes.result.now c.in_ok-insert.field-0 c.loop-port-test.true c.port-item.is c.bytes.ensures c.loop-port.invariant
    c.in_ok-insert.ensures.free c.in_ok-insert.ensures.added c.in_ok-insert.ensures.same

pub returns : goal.returns
returns c = ports_whole c.args.ports.now c.loop-port.port-index c.loop-port.names c.loop-port.auto.port-index-end c.loop-port-test.false c.loop-port.invariant
