-- How words are printed. Numbers are plain decimals, with `-` where negative; an unknown bound is `?`.
use Rattle.std.specs.Prelude.{ℕ, ℤ, List, Option, Some, None, codes, decimal}
use Rattle.std.specs.Fmt.{signed_decimal}
use Rattle.std.specs.List.{flat_map}
use Rattle.cvc_text.specs.declared.word.Word.{Word}
use Rattle.cvc_text.specs.declared.word.Word.TheVariants.{Text, Name, Number, Signed, Bound}

abbrev pub bound_text : Option ℤ → List ℕ
bound_text None = codes "?"
bound_text (Some v) = signed_decimal v

abbrev pub word_text : Word → List ℕ
word_text (Text text) = text.now
word_text (Name pieces) = flat_map (λ piece. piece.now) pieces.now
word_text (Number n) = decimal n
word_text (Signed n) = signed_decimal n
word_text (Bound bound) = bound_text bound
