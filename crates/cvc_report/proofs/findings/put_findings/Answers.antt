use Rattle.std.proofs.Common.{refl}
use Rattle.std.proofs.lemmas.Result.{err_from_is_err_and}
use Rattle.cvc_text.proofs.Putting.{item_put, item_stopped, nothing_put}
use Rattle.cvc_report.specs.Report.{finding_line}
use Rattle.cvc_report.proofs.findings.put_findings.Goals as goal

pub returns-in_err-put_finding : goal.returns-in_err-put_finding
returns-in_err-put_finding g c =
    let p = err_from_is_err_and c.from_residual.result c.from_residual.ensures.1 in
    rw p.1 (item_stopped (finding_line c.args.circuit.now c.args.flat.now.list) c.args.findings.now c.loop-finding.finding-index _ _ _ p.0 _ _ _ refl c.loop-finding-test.true c.loop-finding.invariant c.in_err-put_finding.ensures)

pub loop-finding-preserved : goal.loop-finding-preserved
loop-finding-preserved g c = item_put (finding_line c.args.circuit.now c.args.flat.now.list) c.args.findings.now c.loop-finding.finding-index _ _ _ _ _ _ refl c.loop-finding-test.true c.loop-finding.invariant c.in_ok-put_finding.ensures

pub loop-finding-init : goal.loop-finding-init
loop-finding-init g c = nothing_put _
