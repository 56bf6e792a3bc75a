use Rattle.std.proofs.Common.{take}
use Rattle.std.specs.List.{flat_map}
use Rattle.cvc_text.specs.Putting.{HasPut, stand}
use Rattle.cvc_report.specs.Counts.{count_line}
use Rattle.cvc_report.proofs.summary.put_counts.Given as goal

abbrev pub invariant-loop-rule : goal.invariant-loop-rule
invariant-loop-rule g l = HasPut (stand (g.K.Sink.written l.fn.sink) l.fn.text (g.K.Sink.faults l.fn.sink)) (stand (g.K.Sink.written l.sink) l.text (g.K.Sink.faults l.sink))
    (flat_map (count_line l.findings) (take l.rule-index l.rules))
