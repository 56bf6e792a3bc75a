use Rattle.std.proofs.Common.{[], ap, ◌∙◌}
use Rattle.std.proofs.lemmas.List.{get_or_default}
use Rattle.cvc_names.specs.Names.{with_name}
use Rattle.cvc_plan.proofs.Planned.{next_name}
use Rattle.cvc_plan.proofs.pins.port_names.Goals as goal

pub loop-port-preserved : goal.loop-port-preserved
loop-port-preserved c =
    let ports = c.args.ports.now in
    c.in_ok-number.ensures.names ∙ ap (λ ns. with_name ns c.bytes.result.now) c.loop-port.invariant
    ∙ next_name ports c.loop-port.port-index c.bytes.result.now c.requires c.loop-port-test.true (c.bytes.ensures ∙ c.port-item.is ∙ get_or_default ports c.loop-port.port-index c.port-item.result [] c.loop-port-test.true)
