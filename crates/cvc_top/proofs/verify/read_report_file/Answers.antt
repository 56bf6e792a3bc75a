use Rattle.std.proofs.Common.{ap, ◌∙◌, arith, length}
use Rattle.cvc_top.specs.Certificates.{line_past}
use Rattle.cvc_top.proofs.Verifying.{report_read, report_refused}
use Rattle.cvc_top.proofs.verify.read_report_file.Goals as goal

pub returns-then-bytes-le-LIMIT-clause-report : goal.returns-then-bytes-le-LIMIT-clause-report
returns-then-bytes-le-LIMIT-clause-report g c =
    report_read (g.S.Shelf.files c.args.shelf.now) c.args.name.now c.in_ok-text.text c.in_ok-text.ensures.bytes (omega (arith, c.if-bytes-le-LIMIT.true, ap length c.bytes.ensures))

pub returns-clause-report : goal.returns-clause-report
returns-clause-report g c =
    rw c.stop_about.ensures
    (report_refused (g.S.Shelf.files c.args.shelf.now) c.args.name.now c.in_ok-text.text c.in_ok-text.ensures.bytes c.line_past_limit.result (c.line_past_limit.ensures ∙ ap line_past c.bytes-2.ensures)
    (omega (arith, c.if-bytes-le-LIMIT.false, ap length c.bytes.ensures)))
