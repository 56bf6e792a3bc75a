use Rattle.std.proofs.Common.{take}
use Rattle.std.specs.List.{flat_map}
use Rattle.cvc_text.specs.Putting.{HasPut, stand}
use Rattle.cvc_expect.specs.Text.{missed_line}
use Rattle.cvc_expect.proofs.text.put_each.Given as goal

abbrev pub invariant-loop-missed : goal.invariant-loop-missed
invariant-loop-missed g l = HasPut (stand (g.K.Sink.written l.fn.sink) l.fn.text (g.K.Sink.faults l.fn.sink)) (stand (g.K.Sink.written l.sink) l.text (g.K.Sink.faults l.sink))
    (flat_map (missed_line l.expected) (take l.missed-index l.list))
