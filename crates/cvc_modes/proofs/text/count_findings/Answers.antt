use Rattle.std.proofs.Common.{ap, length, arith}
use Rattle.cvc_modes.proofs.Totals.{findings_are_few}
use Rattle.cvc_modes.proofs.text.count_findings.Goals as goal

pub prove-unreachable-requires : goal.prove-unreachable-requires
prove-unreachable-requires c =
    let few = findings_are_few c.args.mode.now.circuit c.args.mode.now.family in
    let all = ap length c.requires in
    omega (arith, few, all, c.if-prove.true, c.from.ensures, c.devices.ensures.count, c.len-count.ensures)
