use Rattle.std.proofs.Common.{◌≡◌, ◌∷◌, ◌++◌, take, replicate}
use Rattle.cvc_law.specs.Network.{devices}
use Rattle.cvc_field.specs.Words.{word_row}
use Rattle.cvc_field.proofs.opening.start_words.Given as goal

abbrev pub invariant-loop-n : goal.invariant-loop-n
invariant-loop-n l = l.words.items ≡ devices l.circuit ∷ word_row (take l.n l.circuit.fixed)

abbrev pub invariant-loop : goal.invariant-loop
invariant-loop l = l.words.items ≡ devices l.circuit ∷ (word_row l.circuit.fixed ++ replicate l.counter 1)
