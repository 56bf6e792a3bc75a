-- The voltages of a row by the number of its tokens and its word.
use Rattle.std.proofs.Common.{◌≡◌, ℕ, ◌<◌, ◌≤◌, Bool, true, false, List, [], ◌∷◌, length, codes, Result, Err, if◌then◌else◌, refl, sym, ap, ◌∙◌, arith}
use Rattle.std.specs.Str.{str_eq_ignore_ascii_case}
use Rattle.cvc_base.specs.declared.cause.Cause.{Cause}
use Rattle.cvc_base.specs.declared.cause.Cause.TheVariants.{BadRow}
use Rattle.cvc_base.specs.declared.line.Token.{Token}
use Rattle.cvc_rows.specs.Tokens.{texts_of, voltage_of}
use Rattle.cvc_power.specs.declared.row.Span.{Span}
use Rattle.cvc_power.specs.Rows.{exactly, between, span_of}

-- what the code compared and read, and what it is
module _ (ts : List Token) (word : Token) (w : List ℕ) (read : w ≡ word.text) (b : Bool) where
  module _ (only : Token) (are : ts ≡ word ∷ only ∷ []) (tested : b ≡ str_eq_ignore_ascii_case w (codes "power")) where
    by_power : (t : Bool) → b ≡ t → span_of (texts_of ts) ≡ (if t then exactly (voltage_of only.text) else Err BadRow)
    unfolding span_of
    by_power t e = ap (λ us. span_of (texts_of us)) are
        ∙ ap (λ u. if u then exactly (voltage_of only.text) else Err BadRow) (ap (λ v. str_eq_ignore_ascii_case v (codes "power")) (sym read) ∙ sym tested ∙ e)

    pub is_power : b ≡ true → (t : List ℕ) → t ≡ only.text → (r : Result Span Cause) → r ≡ exactly (voltage_of t) → r ≡ span_of (texts_of ts)
    is_power holds t e r f = f ∙ ap (λ v. exactly (voltage_of v)) e ∙ sym (by_power true holds)

    pub no_power : b ≡ false → Err BadRow ≡ span_of (texts_of ts)
    no_power fails = sym (by_power false fails)

  module _ (min max : Token) (are : ts ≡ word ∷ min ∷ max ∷ []) (tested : b ≡ str_eq_ignore_ascii_case w (codes "input")) where
    by_input : (t : Bool) → b ≡ t → span_of (texts_of ts) ≡ (if t then between (voltage_of min.text) (voltage_of max.text) else Err BadRow)
    unfolding span_of
    by_input t e = ap (λ us. span_of (texts_of us)) are
        ∙ ap (λ u. if u then between (voltage_of min.text) (voltage_of max.text) else Err BadRow) (ap (λ v. str_eq_ignore_ascii_case v (codes "input")) (sym read) ∙ sym tested ∙ e)

    pub is_input : b ≡ true → (s t : List ℕ) → s ≡ min.text → t ≡ max.text → (r : Result Span Cause) → r ≡ between (voltage_of s) (voltage_of t) → r ≡ span_of (texts_of ts)
    is_input holds s t e g r f = f ∙ (λ i. between (voltage_of (e i)) (voltage_of (g i))) ∙ sym (by_input true holds)

    pub no_input : b ≡ false → Err BadRow ≡ span_of (texts_of ts)
    no_input fails = sym (by_input false fails)

pub too_few : (ts : List Token) → length ts < 2 → Err BadRow ≡ span_of (texts_of ts)
unfolding span_of
too_few [] h = refl
too_few (a ∷ []) h = refl
too_few (a ∷ b ∷ ts) h = absurd (omega arith)

pub too_many : (ts : List Token) → 4 ≤ length ts → Err BadRow ≡ span_of (texts_of ts)
unfolding span_of
too_many [] h = refl
too_many (a ∷ []) h = refl
too_many (a ∷ b ∷ []) h = absurd (omega arith)
too_many (a ∷ b ∷ d ∷ []) h = absurd (omega arith)
too_many (a ∷ b ∷ d ∷ g ∷ ts) h = refl
