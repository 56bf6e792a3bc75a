-- The two answers of a text, by its split.
use Rattle.std.proofs.Common.{◌≡◌, ℕ, zero, suc, ◌+◌, ◌*◌, ◌/◌, ◌%◌, ◌<◌, ◌≤◌, ◌^◌, Bool, true, false, cond, eqb, List, Option, Some, None, Result, Ok, Err, refl, sym, ap, subst, arith, IfOk, ◌≢◌}
use Rattle.std.specs.Prelude.{ℤ, unsigned_abs}
use Rattle.cvc_units.specs.declared.fault.NumFault.{NumFault}
use Rattle.cvc_units.specs.declared.fault.NumFault.TheVariants.{Shape, TooLarge, TooFine}
use Rattle.cvc_units.specs.Split.{Split, IsSplit, split_of}
use Rattle.cvc_units.specs.Number.{Scaled, Power, scaled, scale_of, value_at, reaches, exceeds, count_of, signed, is_minus, number_from, millivolts_from, number_of, number_of_split, millivolts_of, millivolts_of_split, of_split}
use Rattle.std.proofs.lemmas.Bool.{ltb-false, leb-false}
use Rattle.std.proofs.lemmas.Nat.{div_below}
use Rattle.cvc_units.proofs.Tens.{ten_pos}
use Rattle.cvc_units.proofs.Splitting.{finds}
use Rattle.cvc_units.proofs.Found.{finds_only}

pub number_by_split : (text : List ℕ) (p : Split) → IsSplit text p → number_of text ≡ number_of_split p
unfolding number_of
number_by_split text p h = ap (of_split number_of_split) (finds text p h)

pub millivolts_by_split : (text : List ℕ) (p : Split) → IsSplit text p → millivolts_of text ≡ millivolts_of_split p
unfolding millivolts_of
millivolts_by_split text p h = ap (of_split millivolts_of_split) (finds text p h)

no_split_by : (text : List ℕ) (answer : Split → Result ℤ NumFault) (o : Option Split) → split_of text ≡ o → ((p : Split) → IsSplit text p → ⊥) → of_split answer o ≡ Err Shape
no_split_by text answer None e none = refl
no_split_by text answer (Some p) e none = absurd (none p (finds_only text p e))

pub number_without : (text : List ℕ) → ((p : Split) → IsSplit text p → ⊥) → number_of text ≡ Err Shape
unfolding number_of
number_without text none = no_split_by text number_of_split (split_of text) refl none

pub millivolts_without : (text : List ℕ) → ((p : Split) → IsSplit text p → ⊥) → millivolts_of text ≡ Err Shape
unfolding millivolts_of
millivolts_without text none = no_split_by text millivolts_of_split (split_of text) refl none

-- ---- how large an answer can be

abs_of : (negative : Bool) (n : ℕ) → unsigned_abs (signed negative n) ≡ n
abs_of true zero = refl
abs_of true (suc n) = refl
abs_of false n = refl

number_below : (v : Scaled) → 0 < v.under → reaches v (10 ^ 36) ≡ false → count_of v < 10 ^ 36
number_below v proper no_reach = div_below v.over v.under (10 ^ 36) proper (leb-false (10 ^ 36 * v.under) v.over no_reach)

volts_below : (v : Scaled) → 0 < v.under → exceeds v (10 ^ 27) ≡ false → count_of v / 10 ^ 21 ≤ 1000000
volts_below v proper no_excess =
    let most : v.over ≤ 10 ^ 27 * v.under = ltb-false (10 ^ 27 * v.under) v.over no_excess in
    let count : count_of v < 10 ^ 27 + 1 = div_below v.over v.under (10 ^ 27 + 1) proper (omega arith) in
    let volts : count_of v / 10 ^ 21 < 1000001 = div_below (count_of v) (10 ^ 21) 1000001 (omega arith) (omega arith) in
    omega arith

IsSmallNumber : Result ℤ NumFault → Type 0
IsSmallNumber r = IfOk r (λ n. unsigned_abs n < 10 ^ 36) × (r ≢ Err TooFine)

number_by : (negative : Bool) (v : Scaled) (b : Bool) → 0 < v.under → reaches v (10 ^ 36) ≡ b → IsSmallNumber (number_from negative (cond b (Err TooLarge) (Ok v)))
unfolding IsSmallNumber
number_by negative v true proper e = (tt, λ q. cc)
number_by negative v false proper e = (subst (λ n. n < 10 ^ 36) (sym (abs_of negative (count_of v))) (number_below v proper e), λ q. cc)

abbrev IsSmallVoltage : Result ℤ NumFault → Type 0
IsSmallVoltage r = IfOk r (λ v. unsigned_abs v ≤ 1000000)

fine_by : (negative : Bool) (n : ℕ) (b : Bool) → n ≤ 1000000 → IsSmallVoltage (cond b (Ok (signed negative n)) (Err TooFine))
fine_by negative n true h = subst (λ k. k ≤ 1000000) (sym (abs_of negative n)) h
fine_by negative n false h = tt

volts_by : (negative : Bool) (v : Scaled) (b : Bool) → 0 < v.under → exceeds v (10 ^ 27) ≡ b → IsSmallVoltage (cond b (Err TooLarge) (cond (eqb (count_of v % 10 ^ 21) 0) (Ok (signed negative (count_of v / 10 ^ 21))) (Err TooFine)))
volts_by negative v true proper e = tt
volts_by negative v false proper e = fine_by negative (count_of v / 10 ^ 21) (eqb (count_of v % 10 ^ 21) 0) (volts_below v proper e)

limited_volts : (negative : Bool) (v : Scaled) (b : Bool) → 0 < v.under → IsSmallVoltage (millivolts_from negative (cond b (Err TooLarge) (Ok v)))
limited_volts negative v true proper = tt
limited_volts negative v false proper = volts_by negative v (exceeds v (10 ^ 27)) proper refl

number_at_scale : (p : Split) (scale : Option Power) → IsSmallNumber (number_from (is_minus p.sign) (value_at p scale))
unfolding IsSmallNumber
number_at_scale p None = (tt, λ q. cc)
number_at_scale p (Some scale) = number_by (is_minus p.sign) (scaled p scale) (reaches (scaled p scale) (10 ^ 36)) (ten_pos _) refl

volts_at_scale : (p : Split) (scale : Option Power) → IsSmallVoltage (millivolts_from (is_minus p.sign) (value_at p scale))
volts_at_scale p None = tt
volts_at_scale p (Some scale) = limited_volts (is_minus p.sign) (scaled p scale) (reaches (scaled p scale) (10 ^ 36)) (ten_pos _)

number_small_by : (o : Option Split) → IsSmallNumber (of_split number_of_split o)
unfolding IsSmallNumber
number_small_by None = (tt, λ q. cc)
number_small_by (Some p) = number_at_scale p (scale_of p.letters)

volts_small_by : (o : Option Split) → IsSmallVoltage (of_split millivolts_of_split o)
volts_small_by None = tt
volts_small_by (Some p) = volts_at_scale p (scale_of p.letters)

pub number_is_small : (text : List ℕ) → IfOk (number_of text) (λ n. unsigned_abs n < 10 ^ 36) × (number_of text ≢ Err TooFine)
unfolding number_of IsSmallNumber
number_is_small text = number_small_by (split_of text)

pub voltage_is_small : (text : List ℕ) → IfOk (millivolts_of text) (λ v. unsigned_abs v ≤ 1000000)
unfolding millivolts_of
voltage_is_small text = volts_small_by (split_of text)
