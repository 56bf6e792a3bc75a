use Rattle.std.proofs.Common.{[], take}
use Rattle.std.specs.List.{flat_map, zip}
use Rattle.cvc_text.specs.Putting.{HasPut, stand}
use Rattle.cvc_modes.specs.Text.{mode_text}
use Rattle.cvc_modes.proofs.text.put_each.Given as goal

abbrev pub invariant-loop-place : goal.invariant-loop-place
invariant-loop-place g l = HasPut (stand (g.K.Sink.written l.fn.sink) [] (g.K.Sink.faults l.fn.sink)) (stand (g.K.Sink.written l.sink) [] (g.K.Sink.faults l.sink))
    (flat_map (mode_text l.flat.list) (take l.place (zip l.rows l.modes)))
