-- What an item `KEY=VALUE` of a row sets. The keys of the row's kind are read without regard to case. The value of Vth is one voltage, or two with
-- one `:` between them, split at the first `:`; the value of every other key is one voltage that is not negative, and a `:` is part of its text. One
-- voltage of Vth stands for two that are equal.
use Rattle.std.specs.Prelude.{ℕ, ◌+◌, ◌==◌, Bool, if◌then◌else◌, List, [], ◌∷◌, take, drop, find, Option, Some, None, is_some, option_map, Result, Ok, Err, ℤ, pos, int_lt, codes}
use Rattle.std.specs.List.{position_from}
use Rattle.std.specs.Str.{bytes_eq, str_eq_ignore_ascii_case}
use Rattle.cvc_base.specs.declared.cause.Cause.{Cause}
use Rattle.cvc_base.specs.declared.cause.Cause.TheVariants.{BadRow, UnknownKey, Negative}
use Rattle.cvc_base.specs.declared.device.Kind.{Kind}
use Rattle.cvc_base.specs.declared.device.Kind.TheVariants.{Nmos, Pmos, Resistor, Diode, Capacitor, Inductor, Bipolar}
use Rattle.cvc_rows.specs.Tokens.{voltage_of}
use Rattle.cvc_base.specs.Order.{◌>>=◌}

-- ## Keys

abbrev pub mos_keys : List (List ℕ)
mos_keys = codes "vth" ∷ codes "vj" ∷ codes "vgs" ∷ codes "vgd" ∷ codes "vds" ∷ codes "vbs" ∷ codes "vbd" ∷ codes "vbg" ∷ []

abbrev pub keys_of : Kind → List (List ℕ)
keys_of Nmos = mos_keys
keys_of Pmos = mos_keys
keys_of Resistor = []
keys_of Diode = codes "vf" ∷ []
keys_of Capacitor = []
keys_of Inductor = []
keys_of Bipolar = []

-- the key of a kind that a text names, in lower case
abbrev pub key_of : Kind → List ℕ → Option (List ℕ)
key_of kind text = find (str_eq_ignore_ascii_case text) (keys_of kind)

-- ## Values

abbrev pub twice : ℤ → ℤ × ℤ
twice v = (v, v)

abbrev pub both_voltages : List ℕ → List ℕ → Result (ℤ × ℤ) Cause
both_voltages first second = do
  v ← voltage_of first
  w ← voltage_of second
  Ok (v, w)

-- the voltages of a text with its first `:` at this place, if it has one
abbrev pub thresholds_at : Option ℕ → List ℕ → Result (ℤ × ℤ) Cause
thresholds_at None text = voltage_of text >>= λ v. Ok (twice v)
thresholds_at (Some place) text = both_voltages (take place text) (drop (place + 1) text)

abbrev pub is_colon : ℕ → Bool
is_colon b = b == 58

-- the voltages of Vth
abbrev pub thresholds_in : List ℕ → Result (ℤ × ℤ) Cause
thresholds_in text = thresholds_at (position_from is_colon 0 text) text

abbrev pub unless_negative : ℤ → Result ℤ Cause
unless_negative v = if int_lt v (pos 0) then Err Negative else Ok v

-- the voltage of every other key
abbrev pub limit_in : List ℕ → Result ℤ Cause
limit_in text = voltage_of text >>= unless_negative

-- the voltages that a value gives a key
abbrev pub voltages_under : List ℕ → List ℕ → Result (ℤ × ℤ) Cause
voltages_under key value = if bytes_eq key (codes "vth") then thresholds_in value else (limit_in value >>= λ v. Ok (twice v))

-- ## Settings

-- a key in lower case, with the two voltages of its value
pub record Setting : Type 0 where
  pub key : List ℕ
  pub voltages : ℤ × ℤ

abbrev pub has_key : List ℕ → Setting → Bool
has_key key setting = bytes_eq setting.key key

-- what the settings say of a key
abbrev pub voltages_for : List ℕ → List Setting → Option (ℤ × ℤ)
voltages_for key settings = option_map (λ setting. setting.voltages) (find (has_key key) settings)

abbrev pub voltage_for : List ℕ → List Setting → Option ℤ
voltage_for key settings = option_map (λ voltages. voltages.0) (voltages_for key settings)

-- one setting more: UnknownKey where the key is none of the kind, BadRow where it was given, and then the fault of its value
abbrev pub with_key : List Setting → Option (List ℕ) → List ℕ → Result (List Setting) Cause
with_key settings None value = Err UnknownKey
with_key settings (Some key) value =
    if is_some (find (has_key key) settings) then Err BadRow
    else (voltages_under key value >>= λ voltages. Ok (record { key = key; voltages = voltages } ∷ settings))

unfoldable pub with_setting : Kind → List Setting → List ℕ → List ℕ → Result (List Setting) Cause
with_setting kind settings key value = with_key settings (key_of kind key) value
