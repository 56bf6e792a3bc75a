use Rattle.std.proofs.Common.{refl}
use Rattle.std.proofs.lemmas.Result.{err_from_is_err_and}
use Rattle.cvc_text.proofs.Putting.{item_put, item_stopped}
use Rattle.cvc_report.specs.Counts.{count_line}
use Rattle.cvc_report.proofs.summary.put_counts.Goals as goal

pub returns-in_err-put_count : goal.returns-in_err-put_count
returns-in_err-put_count g c =
    let p = err_from_is_err_and c.from_residual.result c.from_residual.ensures.1 in
    rw p.1 (item_stopped (count_line c.args.findings.now) c.args.rules.now c.loop-rule.rule-index _ _ _ p.0 _ _ _ refl c.loop-rule-test.true c.loop-rule.invariant c.in_err-put_count.ensures)

pub loop-rule-preserved : goal.loop-rule-preserved
loop-rule-preserved g c = item_put (count_line c.args.findings.now) c.args.rules.now c.loop-rule.rule-index _ _ _ _ _ _ refl c.loop-rule-test.true c.loop-rule.invariant c.in_ok-put_count.ensures
