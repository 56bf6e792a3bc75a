-- The number of a text, in units of ten to the power -24, and its millivolts where the text is a voltage in volts. A number is all
-- its digits as one whole number, times a power of ten: the places of the fraction, the exponent and the letters decide the power
-- alone. The value is a quotient of two whole numbers, so it is compared by multiplying out, and nothing is dropped before its
-- whole units are counted.
use Rattle.std.specs.Prelude.{ℕ, ◌+◌, ◌*◌, ◌/◌, ◌%◌, ◌^◌, Bool, false, ◌==◌, if◌then◌else◌, List, [], ◌∷◌, ◌++◌, length, Option, Some, None, Result, Ok, Err, ℤ, pos, neg_ℤ, codes, nat_eq, nat_lt, nat_le}
use Rattle.std.specs.List.{starts_with}
use Rattle.std.specs.Str.{str_to_ascii_lowercase}
use Rattle.std.specs.Str.Parse.{digits_value}
use Rattle.cvc_units.specs.declared.fault.NumFault.{NumFault}
use Rattle.cvc_units.specs.declared.fault.NumFault.TheVariants.{Shape, TooLarge, TooFine}
use Rattle.cvc_units.specs.Split.{Exponent, Split, split_of}

-- ten to the power `up`, divided by ten to the power `down`
pub record Power : Type 0 where
  pub up : ℕ
  pub down : ℕ

abbrev pub raised : ℕ → Power
raised n = record { up = n; down = 0 }

abbrev pub lowered : ℕ → Power
lowered n = record { up = 0; down = n }

-- ---- letters

-- what the letters may begin with, without regard to case, and the power of ten that it stands for, if it stands for one
abbrev pub scales : List (List ℕ × Option Power)
scales =
    (codes "meg", Some (raised 6))
    ∷ (codes "mil", None)
    ∷ (codes "a", None)
    ∷ (codes "x", None)
    ∷ (codes "f", Some (lowered 15))
    ∷ (codes "p", Some (lowered 12))
    ∷ (codes "n", Some (lowered 9))
    ∷ (codes "u", Some (lowered 6))
    ∷ (codes "m", Some (lowered 3))
    ∷ (codes "k", Some (raised 3))
    ∷ (codes "g", Some (raised 9))
    ∷ (codes "t", Some (raised 12))
    ∷ []

-- the first row that fits decides; where none does, the letters scale by one
abbrev pub first_fit : List ℕ → List (List ℕ × Option Power) → Option Power
first_fit letters [] = Some (raised 0)
first_fit letters (row ∷ rows) = if starts_with nat_eq letters row.0 then row.1 else first_fit letters rows

unfoldable pub scale_of : List ℕ → Option Power
scale_of letters = first_fit (str_to_ascii_lowercase letters) scales

-- ---- the value of a split

-- a value in units of ten to the power -24: the quotient `over / under`
pub record Scaled : Type 0 where
  pub over : ℕ
  pub under : ℕ

abbrev pub is_minus : List ℕ → Bool
is_minus [] = false
is_minus (c ∷ _) = c == 45

abbrev pub exponent_scale : Bool → ℕ → Power
exponent_scale negative size = if negative then lowered size else raised size

abbrev pub exponent_power : Exponent → Power
exponent_power e = exponent_scale (is_minus e.sign) (digits_value 10 e.digits)

-- the digits and the fraction as one whole number
abbrev pub all_digits : Split → ℕ
all_digits p = digits_value 10 (p.digits ++ p.fraction)

-- those digits with the places of the fraction, the exponent and the scale, in units
abbrev pub scaled : Split → Power → Scaled
scaled p scale = record {
  over = all_digits p * 10 ^ (24 + (exponent_power p.exponent).up + scale.up);
  under = 10 ^ (length p.fraction + (exponent_power p.exponent).down + scale.down);
}

-- at least the limit; more than the limit; its whole units
abbrev pub reaches : Scaled → ℕ → Bool
reaches v limit = nat_le (limit * v.under) v.over

abbrev pub exceeds : Scaled → ℕ → Bool
exceeds v limit = nat_lt (limit * v.under) v.over

abbrev pub count_of : Scaled → ℕ
count_of v = v.over / v.under

-- too large from ten to the power 12 on, which is ten to the power 36 units
abbrev pub limited : Scaled → Result Scaled NumFault
limited v = if reaches v (10 ^ 36) then Err TooLarge else Ok v

-- the value of a split with that scale; none where its letters are refused
abbrev pub value_at : Split → Option Power → Result Scaled NumFault
value_at p None = Err Shape
value_at p (Some scale) = limited (scaled p scale)

abbrev pub value_of : Split → Result Scaled NumFault
value_of p = value_at p (scale_of p.letters)

-- ---- the two answers

abbrev pub signed : Bool → ℕ → ℤ
signed negative n = if negative then neg_ℤ (pos n) else pos n

-- the count, with the sign
abbrev pub number_from : Bool → Result Scaled NumFault → Result ℤ NumFault
number_from negative (Err e) = Err e
number_from negative (Ok v) = Ok (signed negative (count_of v))

-- A millivolt is ten to the power 21 units, and 1000 volts are ten to the power 27. More than 1000 volts is too large, by however
-- little; then a count of units that is no whole number of millivolts is too fine.
abbrev pub millivolts_from : Bool → Result Scaled NumFault → Result ℤ NumFault
millivolts_from negative (Err e) = Err e
millivolts_from negative (Ok v) =
    if exceeds v (10 ^ 27) then Err TooLarge
    else (if count_of v % 10 ^ 21 == 0 then Ok (signed negative (count_of v / 10 ^ 21)) else Err TooFine)

abbrev pub number_of_split : Split → Result ℤ NumFault
number_of_split p = number_from (is_minus p.sign) (value_of p)

abbrev pub millivolts_of_split : Split → Result ℤ NumFault
millivolts_of_split p = millivolts_from (is_minus p.sign) (value_of p)

-- Shape where there is no split
abbrev pub of_split : (Split → Result ℤ NumFault) → Option Split → Result ℤ NumFault
of_split answer None = Err Shape
of_split answer (Some p) = answer p

-- the number of a text
unfoldable pub number_of : List ℕ → Result ℤ NumFault
number_of text = of_split number_of_split (split_of text)

-- the millivolts of a text that is read as volts
unfoldable pub millivolts_of : List ℕ → Result ℤ NumFault
millivolts_of text = of_split millivolts_of_split (split_of text)
