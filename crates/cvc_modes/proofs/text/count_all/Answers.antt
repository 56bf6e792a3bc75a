use Rattle.std.proofs.Common.{arith}
use Rattle.cvc_modes.proofs.Totals.{total_more}
use Rattle.cvc_modes.proofs.text.count_all.Goals as goal

pub loop-mode-preserved : goal.loop-mode-preserved
loop-mode-preserved c =
    let more = total_more c.args.modes.now c.loop-mode.mode-index c.mode-item.result _ c.mode-item.is c.loop-mode-test.true in
    record {
      count = omega (arith, more, c.loop-mode.invariant.count, c.count_findings-count.ensures.count);
      few = omega (arith, c.loop-mode.invariant.few, c.count_findings-count.ensures.few);
    }
