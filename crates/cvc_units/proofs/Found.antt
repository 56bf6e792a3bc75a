-- What `split_of` finds is a split of the text.
use Rattle.std.proofs.Common.{◌≡◌, ℕ, ◌<◌, Bool, true, false, cond, eqb, IsTrue, List, [], ◌∷◌, ◌++◌, length, refl, sym, ap, ◌∙◌, subst, inl, inr, arith, ◌&&◌, append_assoc, Some, None, length-append}
use Rattle.std.proofs.lemmas.Bool.{false≢true, and_parts, eqb-true, or_cases, ltb-true}
use Rattle.cvc_units.specs.Split.{Exponent, Split, IsSign, IsMark, IsDecimal, IsExponent, IsSplit, are_digits, are_letters, sign_at, point_at, mark_at, digits_at, after, is_any, exponent_text, exponent_at, split_of}
use Rattle.cvc_units.specs.Split.{no_sign, plus, minus, without_point, with_point, small_e, capital_e, no_exponent, an_exponent}
use Rattle.cvc_units.proofs.Digits.{front_is_digits}
use Rattle.cvc_units.proofs.Fronts.{after_front, is_sign, is_point, is_mark, no_digits, byte_and_after, digits_and_after, digits_end, byte_cases}
use Rattle.cvc_units.proofs.Splitting.{found, found_exponent, exponent_is, split_is}

sign_is_sign : (text : List ℕ) → IsSign (sign_at text)
sign_is_sign text =
    elim (byte_cases is_sign text) [
      | inl e ↦ subst IsSign (sym e) no_sign
      | inr w ↦ subst IsSign (sym w.1) (of_byte w.0 w.2)
    ]
  where
    of_byte : (c : ℕ) → is_sign c ≡ true → IsSign (c ∷ [])
    of_byte c e = elim (or_cases (eqb c 43) (eqb c 45) e) [
      | inl p ↦ subst (λ x. IsSign (x ∷ [])) (sym (eqb-true c 43 p)) plus
      | inr m ↦ subst (λ x. IsSign (x ∷ [])) (sym (eqb-true c 45 m)) minus
    ]

mark_is_mark : (text : List ℕ) → IsTrue (is_any (mark_at text)) → IsMark (mark_at text)
mark_is_mark text some_byte =
    elim (byte_cases is_mark text) [
      | inl e ↦ absurd (false≢true (sym (ap is_any e) ∙ some_byte))
      | inr w ↦ subst IsMark (sym w.1) (of_byte w.0 w.2)
    ]
  where
    of_byte : (c : ℕ) → is_mark c ≡ true → IsMark (c ∷ [])
    of_byte c e = elim (or_cases (eqb c 101) (eqb c 69) e) [
      | inl p ↦ subst (λ x. IsMark (x ∷ [])) (sym (eqb-true c 101 p)) small_e
      | inr m ↦ subst (λ x. IsMark (x ∷ [])) (sym (eqb-true c 69 m)) capital_e
    ]

-- what an exponent that is found is
record IsFoundExponent (text : List ℕ) (e : Exponent) : Type 0 where
  form : IsExponent e.mark e.sign e.digits
  digits : IsTrue (are_digits e.digits)
  whole : exponent_text e ++ after (exponent_text e) text ≡ text

-- a first part, and a second part of what follows the first, are a first part together
two_fronts : (first second text : List ℕ) → first ++ after first text ≡ text → second ++ after second (after first text) ≡ after first text → (first ++ second) ++ after (first ++ second) text ≡ text
two_fronts first second text e d =
    let rest = after second (after first text) in
    let both = first ++ second in
    let whole : text ≡ both ++ rest = sym e ∙ ap (λ x. first ++ x) (sym d) ∙ sym (append_assoc first second rest) in
    ap (λ t. both ++ after both t) whole ∙ ap (λ t. both ++ t) (after_front both rest) ∙ sym whole

some_bytes : (text : List ℕ) → IsTrue (is_any text) → 0 < length text
some_bytes text h = ltb-true 0 (length text) h

exponent_by : (text : List ℕ) (b : Bool) → (is_any (mark_at text) && is_any (found_exponent text).digits) ≡ b → IsFoundExponent text (cond b (found_exponent text) (record { mark = []; sign = []; digits = [] }))
exponent_by text true h =
    let mark = mark_at text in
    let at_sign = after mark text in
    let sign = sign_at at_sign in
    let at_digits = after sign at_sign in
    let digits = digits_at at_digits in
    let both = and_parts (is_any mark) (is_any digits) h in
    record {
      form = an_exponent (mark_is_mark text both.0) (sign_is_sign at_sign) (some_bytes digits both.1);
      digits = front_is_digits at_digits;
      whole = two_fronts mark (sign ++ digits) text (byte_and_after is_mark text) (two_fronts sign digits at_sign (byte_and_after is_sign at_sign) (digits_and_after at_digits));
    }
exponent_by text false h = record { form = no_exponent; digits = refl; whole = refl }

exponent_is_found : (text : List ℕ) → IsFoundExponent text (exponent_at text)
exponent_is_found text = subst (IsFoundExponent text) (sym (exponent_is text)) (exponent_by text (is_any (mark_at text) && is_any (found_exponent text).digits) refl)

-- the digits, the point and the fraction that are found are a decimal
decimal_is_found : (unsigned : List ℕ) →
    let digits = digits_at unsigned in
    let at_point = after digits unsigned in
    let fraction = digits_at (after (point_at at_point) at_point) in
    IsTrue (is_any (digits ++ fraction)) → IsDecimal digits (point_at at_point) fraction
decimal_is_found unsigned h =
    let digits = digits_at unsigned in
    let at_point = after digits unsigned in
    elim (byte_cases is_point at_point) [
      | inl e ↦
          let none : digits_at (after (point_at at_point) at_point) ≡ [] = ap (λ x. digits_at (after x at_point)) e ∙ no_digits at_point (digits_end unsigned) in
          subst (λ f. IsDecimal digits (point_at at_point) f) (sym none) (subst (λ x. IsDecimal digits x []) (sym e) (without_point (only digits (subst (λ f. IsTrue (is_any (digits ++ f))) none h))))
      | inr w ↦
          let fraction = digits_at (after (point_at at_point) at_point) in
          let point : point_at at_point ≡ 46 ∷ [] = w.1 ∙ ap (λ c. c ∷ []) (eqb-true w.0 46 w.2) in
          subst (λ x. IsDecimal digits x fraction) (sym point) (with_point (omega (arith, some_bytes (digits ++ fraction) h, length-append digits fraction)))
    ]
  where
    only : (digits : List ℕ) → IsTrue (is_any (digits ++ [])) → 0 < length digits
    only digits h = omega (arith, some_bytes (digits ++ []) h, length-append digits [])

found_is_split : (text : List ℕ) → IsTrue (is_any ((found text).digits ++ (found text).fraction)) → IsTrue (are_letters (found text).letters) → IsSplit text (found text)
found_is_split text some_digit letters =
    let unsigned = after (sign_at text) text in
    let digits = digits_at unsigned in
    let at_point = after digits unsigned in
    let at_fraction = after (point_at at_point) at_point in
    let fraction = digits_at at_fraction in
    let at_exponent = after fraction at_fraction in
    let exponent = exponent_is_found at_exponent in
    record {
      whole =
          sym (byte_and_after is_sign text) ∙ ap (λ t. sign_at text ++ t)
          (sym (digits_and_after unsigned) ∙ ap (λ t. digits ++ t)
          (sym (byte_and_after is_point at_point) ∙ ap (λ t. point_at at_point ++ t)
          (sym (digits_and_after at_fraction) ∙ ap (λ t. fraction ++ t) (sym exponent.whole))));
      sign = sign_is_sign text;
      digits = front_is_digits unsigned;
      fraction = front_is_digits at_fraction;
      decimal = decimal_is_found unsigned some_digit;
      exponent = exponent.form;
      exponent_digits = exponent.digits;
      letters = letters;
    }

split_by : (text : List ℕ) (p : Split) (b : Bool) → (is_any ((found text).digits ++ (found text).fraction) && are_letters (found text).letters) ≡ b → cond b (Some (found text)) None ≡ Some p → IsSplit text p
split_by text p true h e =
    let both = and_parts (is_any ((found text).digits ++ (found text).fraction)) (are_letters (found text).letters) h in
    let same : found text ≡ p = cc in
    subst (IsSplit text) same (found_is_split text both.0 both.1)
split_by text p false h e = cc

-- what is found is a split of the text
pub finds_only : (text : List ℕ) (p : Split) → split_of text ≡ Some p → IsSplit text p
finds_only text p e = split_by text p (is_any ((found text).digits ++ (found text).fraction) && are_letters (found text).letters) refl (sym (split_is text) ∙ e)
