use Rattle.std.proofs.Common.{take}
use Rattle.std.specs.List.{flat_map}
use Rattle.cvc_text.specs.Putting.{HasPut, stand}
use Rattle.cvc_chain.specs.Text.{log_line}
use Rattle.cvc_chain.proofs.text.put_lines.Given as goal

abbrev pub invariant-loop-line : goal.invariant-loop-line
invariant-loop-line g l = HasPut (stand (g.K.Sink.written l.fn.sink) l.fn.text (g.K.Sink.faults l.fn.sink)) (stand (g.K.Sink.written l.sink) l.text (g.K.Sink.faults l.sink))
    (flat_map log_line (take l.line-index l.log))
