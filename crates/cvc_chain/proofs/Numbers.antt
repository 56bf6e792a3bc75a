-- Words that are numbers are just what is written of them.
use Rattle.std.proofs.Common.{◌≡◌, ℕ, zero, suc, ◌<◌, ◌≤◌, ◌^◌, Bool, true, false, List, [], ◌∷◌, length, get_or, Option, Some, None, refl, sym, ap, ◌∙◌, arith, rules}
use Rattle.std.specs.Prelude.{◌==◌, ◌&&◌, not, nat_lt, ℤ, pos, negsuc, neg_ℤ, ◌≤ℤ◌, decimal, if◌then◌else◌}
use Rattle.std.specs.Fmt.{signed_decimal}
use Rattle.std.specs.Char.{is_ascii_digit}
use Rattle.std.specs.List.{All, list_all}
use Rattle.std.specs.Str.Parse.{digits_value}
use Rattle.std.proofs.lemmas.Bool.{and_parts, eqb-false, eqb-true, lt-ltb, ltb-true, ne_eqb}
use Rattle.std.proofs.lemmas.Bool.Decides.{nat_tests}
use Rattle.std.proofs.lemmas.Fmt.{decimal-digits_value, decimal_digit, decimal_nonempty, digits_decimal, digits_value-decimal, first_decimal}
use Rattle.std.proofs.lemmas.Int.{ints}
use Rattle.std.proofs.lemmas.List.Elements.{All-cons}
use Rattle.std.proofs.lemmas.List.Sums.{AllPass-from_list_all}
use Rattle.std.proofs.lemmas.Str.Parse.{IsNumeralModel, IsDigitsTest, numerals_by_value}
use Rattle.cvc_words.specs.Number.{has_leading_zero}
use Rattle.cvc_chain.specs.Reading.{above_zero, below_zero, is_blank, is_line_feed, number_below, voltage_of}

tells : IsDigitsTest (λ ds. list_all is_ascii_digit ds ≡ true)
tells = search rules

own : IsNumeralModel (λ ds. list_all is_ascii_digit ds ≡ true) (digits_value 10)
own = numerals_by_value _ tells

-- the tests that a word has passed which is a number
record IsPassed (is_empty is_digits has_zero is_below : Bool) (n m : ℕ) : Type 0 where
  some : is_empty ≡ false
  digits : is_digits ≡ true
  plain : has_zero ≡ false
  below : is_below ≡ true
  value : n ≡ m

by_tests : (empty digits leads below : Bool) (n m : ℕ) → (if (not empty && digits && not leads) && below then Some n else None) ≡ Some m
    → IsPassed empty digits leads below n m
by_tests false true false true n m e = record { some = refl; digits = refl; plain = refl; below = refl; value = cc }
by_tests true digits leads below n m e = cc
by_tests false false leads below n m e = cc
by_tests false true true below n m e = cc
by_tests false true false false n m e = cc

-- a zero that leads stands alone
leading : (ds : List ℕ) → (length ds == 0) ≡ false → has_leading_zero ds ≡ false → get_or ds 0 0 ≡ 48 → length ds ≡ 1
leading [] some plain h = cc
leading (x ∷ []) some plain h = refl
leading (x ∷ y ∷ ys) some plain h = absurd (eqb-false x 48 plain h)

pub written : (end n : ℕ) (word : List ℕ) → end ≤ 2 ^ 64 → number_below end word ≡ Some n → (word ≡ decimal n) × (n < end)
written end n word le e =
    let t = by_tests (length word == 0) (list_all is_ascii_digit word) (has_leading_zero word) (nat_lt (digits_value 10 word) end) (digits_value 10 word) n e in
    let small : digits_value 10 word < end = ltb-true (digits_value 10 word) end t.below in
    let some : 0 < length word = (let off = eqb-false (length word) 0 t.some in omega (arith, off)) in
    let same : decimal (digits_value 10 word) ≡ word = decimal-digits_value own word t.digits some (leading word t.some t.plain) (omega (arith, small, le)) in
    (sym same ∙ ap decimal t.value, omega (arith, small, t.value))

-- ## Voltages

-- a word that is what is written of a voltage
pub record IsVoltage (v : ℤ) (word : List ℕ) : Type 0 where
  pub text : word ≡ signed_decimal v
  pub low : neg_ℤ (pos 1000000) ≤ℤ v
  pub high : v ≤ℤ pos 1000000

above : (v : ℤ) (n : ℕ) (word : List ℕ) → number_below 1000001 word ≡ Some n → above_zero (Some n) ≡ Some v → IsVoltage v word
above v n word e is =
    let w = written 1000001 n word (omega arith) e in
    let same : pos n ≡ v = cc in
    rw (← same) (record { text = w.0; low = omega (arith, ints, w.1); high = omega (arith, ints, w.1) })

below_by : (v : ℤ) (n : ℕ) (none : Bool) → n < 1000001 → (n == 0) ≡ none → (if none then None else Some (neg_ℤ (pos n))) ≡ Some v → IsVoltage v (45 ∷ decimal n)
below_by v n true small is e = cc
below_by v zero false small is e = cc
below_by v (suc n) false small is e =
    let same : neg_ℤ (pos (suc n)) ≡ v = cc in
    rw (← same) (record { text = refl; low = omega (arith, ints, small); high = omega (arith, ints, small) })

below : (v : ℤ) (n : ℕ) (digits : List ℕ) → number_below 1000001 digits ≡ Some n → below_zero (Some n) ≡ Some v → IsVoltage v (45 ∷ digits)
below v n digits e is =
    let w = written 1000001 n digits (omega arith) e in
    rw w.0 (below_by v n (n == 0) w.1 refl is)

above_any : (v : ℤ) (o : Option ℕ) (word : List ℕ) → number_below 1000001 word ≡ o → above_zero o ≡ Some v → IsVoltage v word
above_any v None word e is = cc
above_any v (Some n) word e is = above v n word e is

below_any : (v : ℤ) (o : Option ℕ) (digits : List ℕ) → number_below 1000001 digits ≡ o → below_zero o ≡ Some v → IsVoltage v (45 ∷ digits)
below_any v None digits e is = cc
below_any v (Some n) digits e is = below v n digits e is

by_sign : (v : ℤ) (minus : Bool) (first : ℕ) (digits : List ℕ) → (first == 45) ≡ minus
    → (if minus then below_zero (number_below 1000001 digits) else above_zero (number_below 1000001 (first ∷ digits))) ≡ Some v → IsVoltage v (first ∷ digits)
by_sign v true first digits is e = rw (eqb-true first 45 is) (below_any v (number_below 1000001 digits) digits refl e)
by_sign v false first digits is e = above_any v (number_below 1000001 (first ∷ digits)) (first ∷ digits) refl e

-- a word is read as a voltage only where it is what is written of it
pub written_voltage : (v : ℤ) (word : List ℕ) → voltage_of word ≡ Some v → IsVoltage v word
written_voltage v [] e = cc
written_voltage v (first ∷ digits) e = by_sign v (first == 45) first digits refl e

-- ## What is written is read

-- what is written of a number has no zero that leads
plain : (ds : List ℕ) → 48 < get_or ds 0 0 → has_leading_zero ds ≡ false
plain [] h = refl
plain (x ∷ []) h = refl
plain (x ∷ y ∷ ys) h = ne_eqb x 48 (λ e. absurd (omega (arith, e, h)))

unled : (n : ℕ) → n < 2 ^ 64 → has_leading_zero (decimal n) ≡ false
unled zero small = rw (decimal_digit 0 (omega arith)) refl
unled (suc n) small = plain (decimal (suc n)) (first_decimal (suc n) (omega arith) small)

passed : (empty digits leads below : Bool) (n m : ℕ) → IsPassed empty digits leads below n m
    → (if (not empty && digits && not leads) && below then Some n else None) ≡ Some m
passed empty digits leads below n m t = rw (t.some, t.digits, t.plain, t.below, t.value) refl

pub numeral : (end n : ℕ) → end ≤ 2 ^ 64 → n < end → number_below end (decimal n) ≡ Some n
numeral end n le lt =
    let small : n < 2 ^ 64 = omega (arith, le, lt) in
    let value : digits_value 10 (decimal n) ≡ n = digits_value-decimal own n small in
    passed (length (decimal n) == 0) (list_all is_ascii_digit (decimal n)) (has_leading_zero (decimal n)) (nat_lt (digits_value 10 (decimal n)) end) (digits_value 10 (decimal n)) n
    (record {
      some = ne_eqb (length (decimal n)) 0 (λ e. absurd (omega (arith, e, decimal_nonempty n small)));
      digits = digits_decimal own n small;
      plain = unled n small;
      below = lt-ltb (digits_value 10 (decimal n)) end (omega (arith, value, lt));
      value = value;
    })

-- ## The bytes of numbers

-- neither a blank nor LF
abbrev pub IsOther : ℕ → Type 0
IsOther b = (is_blank b ≡ false) × (is_line_feed b ≡ false)

by_digit : (b : ℕ) → is_ascii_digit b ≡ true → 48 ≤ b
by_digit b e = grind (arith, nat_tests)

other_digit : (b : ℕ) → is_ascii_digit b ≡ true → IsOther b
other_digit b e = (ne_eqb b 32 (λ is. absurd (omega (arith, is, by_digit b e))), ne_eqb b 10 (λ is. absurd (omega (arith, is, by_digit b e))))

others : (ds : List ℕ) → list_all is_ascii_digit ds ≡ true → All IsOther ds
others ds e = λ k d lt. other_digit (get_or ds k d) (AllPass-from_list_all is_ascii_digit ds e k d lt)

pub other_numeral : (n : ℕ) → n < 2 ^ 64 → All IsOther (decimal n)
other_numeral n small = others (decimal n) (digits_decimal own n small)

pub other_voltage : (v : ℤ) → neg_ℤ (pos 1000000) ≤ℤ v → v ≤ℤ pos 1000000 → All IsOther (signed_decimal v)
other_voltage (pos n) low high = other_numeral n (omega (arith, ints, high))
other_voltage (negsuc n) low high = All-cons IsOther 45 (decimal (suc n)) (refl, refl) (other_numeral (suc n) (omega (arith, ints, low)))

-- ## Voltages that are written

-- what is written of a number begins with no `-`
unsigned : (n : ℕ) (word : List ℕ) → number_below 1000001 word ≡ Some n → voltage_of word ≡ Some (pos n)
unsigned n [] e = cc
unsigned n (first ∷ digits) e =
    let word = first ∷ digits in
    let t = by_tests (length word == 0) (list_all is_ascii_digit word) (has_leading_zero word) (nat_lt (digits_value 10 word) 1000001) (digits_value 10 word) n e in
    let digit = by_digit first (and_parts (is_ascii_digit first) (list_all is_ascii_digit digits) t.digits).0 in
    rw (ne_eqb first 45 (λ is. absurd (omega (arith, is, digit))), e) refl

pub voltage : (v : ℤ) → neg_ℤ (pos 1000000) ≤ℤ v → v ≤ℤ pos 1000000 → voltage_of (signed_decimal v) ≡ Some v
voltage (pos n) low high = unsigned n (decimal n) (numeral 1000001 n (omega arith) (omega (arith, ints, high)))
voltage (negsuc n) low high = rw (numeral 1000001 (suc n) (omega arith) (omega (arith, ints, low)), ne_eqb (suc n) 0 (λ is. absurd (omega (arith, is)))) refl
