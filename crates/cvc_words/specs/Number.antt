-- The number that a word writes: decimal digits without a leading zero, or `0` alone, from the least to the greatest that is taken.
use Rattle.std.specs.Prelude.{ℕ, Bool, false, ◌==◌, ◌&&◌, not, nat_le, List, ◌∷◌, length, Result, Ok, Err, if◌then◌else◌}
use Rattle.std.specs.List.{list_all}
use Rattle.std.specs.Char.{is_ascii_digit}
use Rattle.std.specs.Str.Parse.{digits_value}
use Rattle.cvc_words.specs.declared.fault.WordFault.{WordFault}
use Rattle.cvc_words.specs.declared.fault.WordFault.TheVariants.{BadNumber}

-- a zero that more bytes follow
abbrev pub has_leading_zero : List ℕ → Bool
has_leading_zero (first ∷ second ∷ others) = first == 48
has_leading_zero _ = false

abbrev pub is_number : List ℕ → Bool
is_number text = not (length text == 0) && list_all is_ascii_digit text && not (has_leading_zero text)

abbrev pub is_within : ℕ → ℕ → ℕ → Bool
is_within least greatest n = nat_le least n && nat_le n greatest

-- the number that the word writes
unfoldable pub number_within : ℕ → ℕ → List ℕ → Result ℕ WordFault
number_within least greatest text = if is_number text && is_within least greatest (digits_value 10 text) then Ok (digits_value 10 text) else Err BadNumber
