-- The row of a line, or its first fault: BadRow where the line has fewer than two tokens, then UnknownKind, then the first fault of an item from the
-- left, then MissingVth where a MOS has no threshold. An item's fault is BadRow where it is no item or its number is none, else that of what it sets.
-- The two voltages of Vth are the corners of a MOS: as written for nmos, by their magnitudes for pmos.
use Rattle.std.specs.Prelude.{ℕ, Bool, true, false, List, [], ◌∷◌, ◌++◌, Option, Some, None, unwrap_or, option_map, Result, Ok, Err, ℤ, pos, unsigned_abs, codes}
use Rattle.std.specs.Int.{int_min, int_max}
use Rattle.cvc_base.specs.declared.cause.Cause.{Cause}
use Rattle.cvc_base.specs.declared.cause.Cause.TheVariants.{BadRow, UnknownKind, MissingVth}
use Rattle.cvc_base.specs.declared.device.Kind.{Kind}
use Rattle.cvc_base.specs.declared.device.Kind.TheVariants.{Nmos, Pmos}
use Rattle.cvc_base.specs.declared.device.Volts.{Volts}
use Rattle.cvc_base.specs.declared.line.Line.{Line}
use Rattle.cvc_units.specs.declared.fault.NumFault.{NumFault}
use Rattle.cvc_units.specs.Number.{number_of}
use Rattle.cvc_rows.specs.Tokens.{texts_of}
use Rattle.cvc_model.specs.declared.row.ModelRow.{ModelRow}
use Rattle.cvc_model.specs.declared.row.Test.{Test}
use Rattle.cvc_model.specs.Words.{kind_of}
use Rattle.cvc_model.specs.Items.{Item, Sets, IsLess, IsAtLeast, item_in}
use Rattle.cvc_model.specs.Settings.{Setting, with_setting, voltages_for, voltage_for}
use Rattle.cvc_base.specs.Order.{◌>>=◌}

-- ## What the items say

-- what the items of a row say so far: the settings, the last one first, and the tests in order
pub record Content : Type 0 where
  pub settings : List Setting
  pub tests : List Test

abbrev pub with_test : Content → List ℕ → Bool → Result ℤ NumFault → Result Content Cause
with_test content param less (Ok n) = Ok (record content { tests = content.tests ++ record { param = param; less = less; number = n } ∷ [] })
with_test content param less (Err e) = Err BadRow

abbrev pub with_settings : Content → Result (List Setting) Cause → Result Content Cause
with_settings content settings = settings >>= λ more. Ok (record content { settings = more })

abbrev pub with_item : Kind → Content → Option Item → Result Content Cause
with_item kind content None = Err BadRow
with_item kind content (Some (Sets key value)) = with_settings content (with_setting kind content.settings key value)
with_item kind content (Some (IsLess param number)) = with_test content param true (number_of number)
with_item kind content (Some (IsAtLeast param number)) = with_test content param false (number_of number)

-- one item more
unfoldable pub with_text : Kind → Content → List ℕ → Result Content Cause
with_text kind content text = with_item kind content (item_in text)

-- several items more, from the left
unfoldable pub with_texts : Kind → Content → List (List ℕ) → Result Content Cause
with_texts kind content [] = Ok content
with_texts kind content (text ∷ texts) = do
  next ← with_text kind content text
  with_texts kind next texts

abbrev pub no_content : Content
no_content = record { settings = []; tests = [] }

-- ## Voltages of the model

-- how far a voltage is from 0
abbrev pub magnitude_of : ℤ → ℤ
magnitude_of z = pos (unsigned_abs z)

-- the lesser of two voltages, and the greater
abbrev pub in_order : ℤ → ℤ → ℤ × ℤ
in_order v w = (int_min v w, int_max v w)

-- the threshold of the corner that conducts most, and of the one that conducts least; 0 for a kind that has none
abbrev pub corners_of : Kind → Option (ℤ × ℤ) → Option (ℤ × ℤ)
corners_of Nmos vth = option_map (λ v. in_order v.0 v.1) vth
corners_of Pmos vth = option_map (λ v. in_order (magnitude_of v.0) (magnitude_of v.1)) vth
corners_of _ vth = Some (pos 0, pos 0)

abbrev pub volts_with : List Setting → Option (ℤ × ℤ) → Result Volts Cause
volts_with settings None = Err MissingVth
volts_with settings (Some corners) = Ok (record {
  threshold = corners.0;
  weak = corners.1;
  drop = unwrap_or (voltage_for (codes "vf") settings) (pos 0);
  junction = unwrap_or (voltage_for (codes "vj") settings) (pos 0);
  vgs = voltage_for (codes "vgs") settings;
  vgd = voltage_for (codes "vgd") settings;
  vds = voltage_for (codes "vds") settings;
  vbs = voltage_for (codes "vbs") settings;
  vbd = voltage_for (codes "vbd") settings;
  vbg = voltage_for (codes "vbg") settings;
})

abbrev pub volts_of : Kind → List Setting → Result Volts Cause
volts_of kind settings = volts_with settings (corners_of kind (voltages_for (codes "vth") settings))

-- ## Whole rows

abbrev pub row_from : ℕ → List ℕ → Kind → Content → Result ModelRow Cause
row_from number name kind content =
    volts_of kind content.settings >>= λ volts. Ok (record { name = name; kind = kind; volts = volts; tests = content.tests; line = number })

abbrev pub row_with : ℕ → List ℕ → Option Kind → List (List ℕ) → Result ModelRow Cause
row_with number name None texts = Err UnknownKind
row_with number name (Some kind) texts = with_texts kind no_content texts >>= row_from number name kind

-- the row of these tokens
unfoldable pub row_in : ℕ → List (List ℕ) → Result ModelRow Cause
row_in number [] = Err BadRow
row_in number (name ∷ []) = Err BadRow
row_in number (name ∷ word ∷ texts) = row_with number name (kind_of word) texts

abbrev pub row_of : Line → Result ModelRow Cause
row_of line = row_in line.first (texts_of line.tokens)
