use Rattle.std.proofs.Common.{take}
use Rattle.std.specs.List.{flat_map}
use Rattle.cvc_text.specs.Putting.{HasPut, stand}
use Rattle.cvc_text.proofs.buffer.TextBuffer.put_pieces.Given as goal

abbrev pub invariant-loop-piece : goal.invariant-loop-piece
invariant-loop-piece g l = HasPut (stand (g.K.Sink.written l.fn.sink) l.fn.self (g.K.Sink.faults l.fn.sink)) (stand (g.K.Sink.written l.sink) l.self (g.K.Sink.faults l.sink))
    (flat_map (λ w. w.now) (take l.piece-index l.pieces))
