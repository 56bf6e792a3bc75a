use Rattle.std.proofs.Common.{take}
use Rattle.std.specs.List.{flat_map}
use Rattle.cvc_text.specs.Putting.{HasPut, stand}
use Rattle.cvc_report.specs.Report.{finding_line}
use Rattle.cvc_report.proofs.findings.put_findings.Given as goal

abbrev pub invariant-loop-finding : goal.invariant-loop-finding
invariant-loop-finding g l = HasPut (stand (g.K.Sink.written l.fn.sink) l.fn.text (g.K.Sink.faults l.fn.sink)) (stand (g.K.Sink.written l.sink) l.text (g.K.Sink.faults l.sink))
    (flat_map (finding_line l.circuit l.flat.list) (take l.finding-index l.findings))
