-- What the private steps of a reading promise: which parts of a split the code keeps, and what it keeps of a value.
use Rattle.std.specs.Prelude.{◌≡◌, ℕ, ◌+◌, ◌*◌, ◌^◌, ◌<◌, ◌≤◌, ◌↔◌, Bool, List, ◌++◌, length, Option, Some, None, Result, Ok, Err, IsTrue}
use Rattle.std.specs.Str.Parse.{digits_value}
use Rattle.cvc_units.specs.declared.pieces.Pieces.{Pieces}
use Rattle.cvc_units.specs.declared.fault.NumFault.TheVariants.{Shape, TooLarge}
use Rattle.cvc_units.specs.Split.{Split, are_digits}
use Rattle.cvc_units.specs.declared.power.Power.{Power as HeldPower}
use Rattle.cvc_units.specs.declared.magnitude.Magnitude.{Magnitude}
use Rattle.cvc_units.specs.declared.fault.NumFault.{NumFault}
use Rattle.cvc_units.specs.Number.{is_minus, Power, Scaled, count_of, exponent_scale, limited, scale_of}

-- the parts that decide the number
pub record Parts : Type 0 where
  pub negative : Bool
  pub digits : List ℕ
  pub fraction : List ℕ
  pub exponent_negative : Bool
  pub exponent : List ℕ
  pub letters : List ℕ

-- of what the code holds, and of a split
abbrev pub held : Pieces → Parts
held p = record {
  negative = p.negative;
  digits = p.digits.now;
  fraction = p.fraction.now;
  exponent_negative = p.exponent.negative;
  exponent = p.exponent.digits.now;
  letters = p.letters.now;
}

abbrev pub parts_of : Split → Parts
parts_of p = record {
  negative = is_minus p.sign;
  digits = p.digits;
  fraction = p.fraction;
  exponent_negative = is_minus p.exponent.sign;
  exponent = p.exponent.digits;
  letters = p.letters;
}

-- the digits among them are digits, and no more than memory has bytes
pub record AreWellFormed (p : Parts) : Type 0 where
  pub digits : IsTrue (are_digits p.digits)
  pub fraction : IsTrue (are_digits p.fraction)
  pub exponent : IsTrue (are_digits p.exponent)
  pub digits_len : length p.digits < 2 ^ 64
  pub fraction_len : length p.fraction < 2 ^ 64

-- the value of a split, from the parts that decide it
abbrev pub scaled_parts : Parts → Power → Power → Scaled
scaled_parts p exponent scale = record {
  over = digits_value 10 (p.digits ++ p.fraction) * 10 ^ (24 + exponent.up + scale.up);
  under = 10 ^ (length p.fraction + exponent.down + scale.down);
}

abbrev pub value_with : Parts → Option Power → Result Scaled NumFault
value_with p None = Err Shape
value_with p (Some scale) = limited (scaled_parts p (exponent_scale p.exponent_negative (digits_value 10 p.exponent)) scale)

abbrev pub value_of_parts : Parts → Result Scaled NumFault
value_of_parts p = value_with p (scale_of p.letters)

abbrev pub power_of : HeldPower → Power
power_of p = record { up = p.up; down = p.down }

-- D times a power of ten
abbrev pub scaled_by : ℕ → HeldPower → Scaled
scaled_by d p = record { over = d * 10 ^ p.up; under = 10 ^ p.down }

-- the total, or too large from the limit on
abbrev pub CountsTo : Result ℕ NumFault → ℕ → Type 0
CountsTo (Ok n) total = (n ≡ total) × (n < 10 ^ 36)
CountsTo (Err e) total = (e ≡ TooLarge) × (10 ^ 36 ≤ total)

-- the code's magnitude is the count of the value, and it is whole where nothing was dropped from the value
pub record IsMagnitude (m : Magnitude) (v : Scaled) : Type 0 where
  pub count : m.count ≡ count_of v
  pub small : m.count < 10 ^ 36
  pub proper : 0 < v.under
  pub whole : IsTrue m.is_whole ↔ (m.count * v.under ≡ v.over)

-- the code answers what the definition does
abbrev pub Measures : Result Magnitude NumFault → Result Scaled NumFault → Type 0
Measures (Ok m) (Ok v) = IsMagnitude m v
Measures (Err e) (Err f) = e ≡ f
Measures (Ok m) (Err f) = ⊥
Measures (Err e) (Ok v) = ⊥
