use Rattle.std.proofs.Common.{ℕ, List, subst, ◌∙◌}
use Rattle.cvc_base.specs.declared.finding.Finding.{Finding}
use Rattle.cvc_io.specs.Bytes.{WritesText}
use Rattle.cvc_text.proofs.Putting.{put_flushed}
use Rattle.cvc_report.specs.Report.{report_with}
use Rattle.cvc_report.proofs.Listed.{of_devices}
use Rattle.cvc_report.proofs.report.write_report.Goals as goal

pub put_report-requires-clause-devices : goal.put_report-requires-clause-devices
put_report-requires-clause-devices g c = of_devices c.args.circuit.now c.args.family.now c.as_slice.result.now (c.as_slice.ensures ∙ c.requires.found)

pub returns-clause-written : goal.returns-clause-written
returns-clause-written g c =
    let text : List Finding → List ℕ = report_with c.args.circuit.now c.args.flat.now.list c.args.family.now c.args.with_nets in
    let P : List Finding → Type 0 = λ found. WritesText (g.K.Sink.written c.args.sink.now) (g.K.Sink.written c.flush.new.sink) c.flush.result (text found) in
    subst P (c.as_slice.ensures ∙ c.requires.found) (put_flushed _ c.flush.result _ _ _ (text c.as_slice.result.now) c.new-text.ensures c.in_ok-put_report.ensures c.flush.ensures.written)
