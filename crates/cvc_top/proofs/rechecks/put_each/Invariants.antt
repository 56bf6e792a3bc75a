use Rattle.std.proofs.Common.{[], take}
use Rattle.std.specs.List.{flat_map}
use Rattle.cvc_text.specs.Putting.{HasPut, stand}
use Rattle.cvc_top.specs.Rechecks.{recheck_line}
use Rattle.cvc_top.proofs.rechecks.put_each.Given as goal

abbrev pub invariant-loop-recheck : goal.invariant-loop-recheck
invariant-loop-recheck g l = HasPut (stand (g.K.Sink.written l.fn.sink) [] (g.K.Sink.faults l.fn.sink)) (stand (g.K.Sink.written l.sink) [] (g.K.Sink.faults l.sink))
    (flat_map recheck_line (take l.recheck-index l.rechecks))
