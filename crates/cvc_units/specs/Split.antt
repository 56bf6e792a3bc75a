-- How a text that is a number splits into its pieces: an optional sign; digits, a point and a fraction; an optional exponent;
-- letters up to the end. `IsSplit` says of a text and of pieces that the text is those pieces put together, and that each has its
-- form. The law `splits_in_one_way` says that a text has at most one split, and that `split_of` finds it.
use Rattle.std.specs.Prelude.{◌≡◌, ℕ, ◌+◌, ◌<◌, Bool, ◌||◌, ◌&&◌, ◌==◌, if◌then◌else◌, List, [], ◌∷◌, ◌++◌, length, drop, Option, Some, None, IsTrue, codes, nat_lt}
use Rattle.std.specs.List.{list_all, take_while}
use Rattle.std.specs.Char.{is_ascii_digit, is_ascii_alphabetic}

-- the letter `e`, a sign and digits; all empty where a number has no exponent
pub record Exponent : Type 0 where
  pub mark : List ℕ
  pub sign : List ℕ
  pub digits : List ℕ

-- the pieces of a number, in the order in which they stand
pub record Split : Type 0 where
  pub sign : List ℕ
  pub digits : List ℕ
  pub point : List ℕ
  pub fraction : List ℕ
  pub exponent : Exponent
  pub letters : List ℕ

-- the pieces put together again
abbrev pub exponent_text : Exponent → List ℕ
exponent_text e = e.mark ++ (e.sign ++ e.digits)

abbrev pub text_of : Split → List ℕ
text_of p = p.sign ++ (p.digits ++ (p.point ++ (p.fraction ++ (exponent_text p.exponent ++ p.letters))))

-- ---- the forms of the pieces

-- each byte is a digit; an ASCII letter
abbrev pub are_digits : List ℕ → Bool
are_digits text = list_all is_ascii_digit text

abbrev pub are_letters : List ℕ → Bool
are_letters text = list_all is_ascii_alphabetic text

pub data IsSign : List ℕ → Type 0 where
  no_sign : IsSign []
  plus : IsSign (codes "+")
  minus : IsSign (codes "-")

-- digits without a point; or a point with a digit before or after it
pub data IsDecimal : List ℕ → List ℕ → List ℕ → Type 0 where
  without_point : {digits : List ℕ} → 0 < length digits → IsDecimal digits [] []
  with_point : {digits fraction : List ℕ} → 0 < length digits + length fraction → IsDecimal digits (codes ".") fraction

pub data IsMark : List ℕ → Type 0 where
  small_e : IsMark (codes "e")
  capital_e : IsMark (codes "E")

-- no exponent; or an `e`, a sign or none, and digits
pub data IsExponent : List ℕ → List ℕ → List ℕ → Type 0 where
  no_exponent : IsExponent [] [] []
  an_exponent : {mark sign digits : List ℕ} → IsMark mark → IsSign sign → 0 < length digits → IsExponent mark sign digits

-- the text splits so
pub record IsSplit (text : List ℕ) (p : Split) : Type 0 where
  pub whole : text ≡ text_of p
  pub sign : IsSign p.sign
  pub digits : IsTrue (are_digits p.digits)
  pub fraction : IsTrue (are_digits p.fraction)
  pub decimal : IsDecimal p.digits p.point p.fraction
  pub exponent : IsExponent p.exponent.mark p.exponent.sign p.exponent.digits
  pub exponent_digits : IsTrue (are_digits p.exponent.digits)
  pub letters : IsTrue (are_letters p.letters)

-- ---- finding the pieces: each is the longest at the front of what is left

-- the first byte where it passes the test
abbrev pub byte_at : (ℕ → Bool) → List ℕ → List ℕ
byte_at test [] = []
byte_at test (c ∷ _) = if test c then c ∷ [] else []

-- a `+` or a `-`
abbrev pub sign_at : List ℕ → List ℕ
sign_at text = byte_at (λ c. c == 43 || c == 45) text

-- a `.`
abbrev pub point_at : List ℕ → List ℕ
point_at text = byte_at (λ c. c == 46) text

-- an `e` or an `E`
abbrev pub mark_at : List ℕ → List ℕ
mark_at text = byte_at (λ c. c == 101 || c == 69) text

abbrev pub digits_at : List ℕ → List ℕ
digits_at text = take_while is_ascii_digit text

-- what is left of a text after its front
abbrev pub after : List ℕ → List ℕ → List ℕ
after front text = drop (length front) text

abbrev pub is_any : List ℕ → Bool
is_any text = nat_lt 0 (length text)

-- an `e` that no digits follow begins no exponent
abbrev pub exponent_if_any : Exponent → Exponent
exponent_if_any e = if is_any e.mark && is_any e.digits then e else record { mark = []; sign = []; digits = [] }

unfoldable pub exponent_at : List ℕ → Exponent
exponent_at text =
    let mark = mark_at text in
    let sign = sign_at (after mark text) in
    exponent_if_any (record { mark = mark; sign = sign; digits = digits_at (after sign (after mark text)) })

abbrev pub split_if_number : Split → Option Split
split_if_number p = if is_any (p.digits ++ p.fraction) && are_letters p.letters then Some p else None

unfoldable pub split_of : List ℕ → Option Split
split_of text =
    let unsigned = after (sign_at text) text in
    let digits = digits_at unsigned in
    let at_point = after digits unsigned in
    let at_fraction = after (point_at at_point) at_point in
    let fraction = digits_at at_fraction in
    let at_exponent = after fraction at_fraction in
    let exponent = exponent_at at_exponent in
    split_if_number (record {
      sign = sign_at text;
      digits = digits;
      point = point_at at_point;
      fraction = fraction;
      exponent = exponent;
      letters = after (exponent_text exponent) at_exponent;
    })
