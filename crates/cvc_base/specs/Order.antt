-- One step after another, in the order in which they are written: what a step says is handed to the next one, and the first refusal is that of them all. Every
-- order of faults, of cards, rows, words, files and commands, is written so, step by step in a `do` or with the operator.
use Rattle.std.specs.Prelude.{Result, Ok, Err}

infixl 10 ◌>>=◌
abbrev pub ◌>>=◌ : {A B E : Type 0} → Result A E → (A → Result B E) → Result B E
(Ok x) >>= next = next x
(Err refused) >>= next = Err refused
