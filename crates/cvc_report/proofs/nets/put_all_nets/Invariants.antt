use Rattle.cvc_text.specs.Putting.{HasPut, stand}
use Rattle.cvc_report.specs.Report.{net_lines_below}
use Rattle.cvc_report.proofs.nets.put_all_nets.Given as goal

abbrev pub invariant-loop-n : goal.invariant-loop-n
invariant-loop-n g l = HasPut (stand (g.K.Sink.written l.fn.sink) l.fn.text (g.K.Sink.faults l.fn.sink)) (stand (g.K.Sink.written l.sink) l.text (g.K.Sink.faults l.sink))
    (net_lines_below l.circuit l.flat.list l.family l.n)
