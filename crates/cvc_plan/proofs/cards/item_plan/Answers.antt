use Rattle.cvc_plan.proofs.Planned.{device_item}
use Rattle.cvc_plan.proofs.cards.item_plan.Goals as goal

pub returns-in-Device-clause-plan : goal.returns-in-Device-clause-plan
returns-in-Device-clause-plan c =
    device_item c.args.netlist.now c.device_plan.new.cards c.args.cards.now.names c.args.globals c.args.ports.now c.args.item.now c.in-Device.card c.device_plan.result c.in-Device.is c.requires.globals c.device_plan.ensures.plan
