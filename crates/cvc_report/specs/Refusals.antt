-- The one line of a refusal.
use Rattle.std.specs.Prelude.{ℕ, List, [], ◌∷◌, ◌++◌, codes, decimal}
use Rattle.cvc_base.specs.declared.fault.Fault.{Fault}
use Rattle.cvc_base.specs.Words.{word_of}
use Rattle.cvc_text.specs.Lines.{line}
use Rattle.cvc_report.specs.Printed.{file_word}

-- of a line of the subject that these words name, with the word of its cause
abbrev pub line_refusal : List (List ℕ) → ℕ → List ℕ → List ℕ
line_refusal subject number word = line (codes "refused" ∷ subject ++ codes "line" ∷ decimal number ∷ word ∷ [])

-- of an input file
abbrev pub refusal : Fault → List ℕ
refusal x = line_refusal (file_word x.place.file ∷ []) x.place.line (word_of x.cause)

-- of the words of the command line
abbrev pub word_refusal : List ℕ → List ℕ
word_refusal word = line (codes "refused" ∷ codes "words" ∷ word ∷ [])
