use Rattle.std.proofs.Common.{take, ◌∷◌}
use Rattle.std.specs.List.{flat_map}
use Rattle.cvc_text.specs.Printed.{word_text}
use Rattle.cvc_text.specs.Putting.{HasPut, stand}
use Rattle.cvc_text.proofs.buffer.TextBuffer.put_words.Given as goal

abbrev pub invariant-loop-word : goal.invariant-loop-word
invariant-loop-word g l = HasPut (stand (g.K.Sink.written l.fn.sink) l.fn.self (g.K.Sink.faults l.fn.sink)) (stand (g.K.Sink.written l.sink) l.self (g.K.Sink.faults l.sink))
    (flat_map (λ w. 32 ∷ word_text w) (take l.word-index l.words))
