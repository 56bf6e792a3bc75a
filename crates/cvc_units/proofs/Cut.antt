-- What is cut off the digits of a number decides only whether the count is the whole value.
use Rattle.std.proofs.Common.{◌≡◌, ℕ, ◌+◌, ◌-◌, ◌*◌, ◌/◌, ◌^◌, ◌<◌, ◌≤◌, Bool, true, false, cond, eqb, IsTrue, List, [], ◌∷◌, ◌++◌, length, take, drop, refl, sym, ap, ◌∙◌, subst, arith, ◌↔◌, ◌&&◌, Ok, Err, suc, zero, eq-eqb, eqb-true}
use Rattle.std.specs.Char.{digit_value, is_ascii_digit}
use Rattle.std.specs.List.{list_all}
use Rattle.std.proofs.lemmas.Str.{digit_value_digit}
use Rattle.std.specs.Str.Parse.{digits_value}
use Rattle.std.proofs.lemmas.List.Folds.{list_all-append}
use Rattle.std.proofs.lemmas.Bool.{le-leb, lt-leb, false≢true}
use Rattle.std.proofs.lemmas.Nat.{pow-add, div-mul-add}
use Rattle.std.proofs.Math.Nat.{mul-le-mul_right, pow-le-pow_right}
use Rattle.cvc_units.specs.declared.fault.NumFault.TheVariants.{TooLarge}
use Rattle.cvc_units.specs.Split.{are_digits}
use Rattle.cvc_units.specs.Number.{Scaled, limited, reaches}
use Rattle.cvc_units.specs.Reading.{Measures, IsMagnitude}
use Rattle.cvc_units.proofs.Tens.{ten_pos, product_grows, times_less}
use Rattle.cvc_units.proofs.Digits.{value_is_sum, digits_rest, digit_at, and_right}

-- ---- numbers

-- the value is c whole units and e parts
pub record Parted (over under c e : ℕ) : Type 0 where
  pub sum : over ≡ c * under + e
  pub below : e < under

row_under : (a b p : ℕ) → a < p → a * b + b ≤ p * b
row_under a b p h =
    let more : suc a * b ≤ p * b = mul-le-mul_right b h in
    omega arith

-- with at least as many powers that multiply, nothing is cut off
pub up_case : (v up down : ℕ) → down ≤ up → Parted (v * 10 ^ up) (10 ^ down) (v * 10 ^ (up - down)) 0
up_case v up down h = record {
  sum =
      let up_is : up ≡ (up - down) + down = omega arith in
      let power : 10 ^ up ≡ 10 ^ (up - down) * 10 ^ down = ap (λ k. 10 ^ k) up_is ∙ pow-add 10 (up - down) down in
      rw (power) (omega arith);
  below = ten_pos down;
}

-- else the last digits are cut off
pub down_case : (k r m up down : ℕ) → down ≡ m + up → r < 10 ^ m → Parted ((k * 10 ^ m + r) * 10 ^ up) (10 ^ down) k (r * 10 ^ up)
down_case k r m up down e small = record {
  sum = rw (e, pow-add) (omega arith);
  below = rw (e, pow-add) (times_less r (10 ^ m) (10 ^ up) small (ten_pos up));
}

-- or all of them
pub none_case : (v n up down : ℕ) → n + up ≤ down → v < 10 ^ n → Parted (v * 10 ^ up) (10 ^ down) 0 (v * 10 ^ up)
none_case v n up down h small = record {
  sum = omega arith;
  below =
      let less : v * 10 ^ up < 10 ^ n * 10 ^ up = times_less v (10 ^ n) (10 ^ up) small (ten_pos up) in
      let power : 10 ^ (n + up) ≡ 10 ^ n * 10 ^ up = pow-add 10 n up in
      let more : 10 ^ (n + up) ≤ 10 ^ down = pow-le-pow_right (omega arith) h in
      omega arith;
}

-- ---- the code's count against the value

below_limit : (over under c e limit : ℕ) → over ≡ c * under + e → e < under → c < limit → over < limit * under
below_limit over under c e limit sum below small =
    let row : c * under + under ≤ limit * under = row_under c under limit small in
    omega arith

above_limit : (over under c e limit : ℕ) → over ≡ c * under + e → limit ≤ c → limit * under ≤ over
above_limit over under c e limit sum large =
    let more : limit * under ≤ c * under = mul-le-mul_right under large in
    omega arith

pub measured : (v : Scaled) (c e : ℕ) (whole : Bool) → Parted v.over v.under c e → c < 10 ^ 36 → IsTrue whole ↔ (e ≡ 0) → Measures (Ok (record { count = c; is_whole = whole })) (limited v)
measured v c e whole parted small exact =
    let under_limit : v.over < 10 ^ 36 * v.under = below_limit v.over v.under c e (10 ^ 36) parted.sum parted.below small in
    let no : reaches v (10 ^ 36) ≡ false = lt-leb (10 ^ 36 * v.under) v.over under_limit in
    let fine : IsMagnitude (record { count = c; is_whole = whole }) v = record {
      count = sym (ap (λ o. o / v.under) parted.sum ∙ div-mul-add c v.under e parted.below);
      small = small;
      proper = omega (arith, parted.below);
      whole = (λ t. let z : e ≡ 0 = exact.0 t in omega (arith, parted.sum), λ q. exact.1 (omega (arith, parted.sum)));
    } in
    subst (λ b. Measures (Ok (record { count = c; is_whole = whole })) (cond b (Err TooLarge) (Ok v))) (sym no) fine

pub too_large : (v : Scaled) (c e : ℕ) → Parted v.over v.under c e → 10 ^ 36 ≤ c → Measures (Err TooLarge) (limited v)
too_large v c e parted large =
    let yes : reaches v (10 ^ 36) ≡ true = le-leb (10 ^ 36 * v.under) v.over (above_limit v.over v.under c e (10 ^ 36) parted.sum large) in
    subst (λ b. Measures (Err TooLarge) (cond b (Err TooLarge) (Ok v))) (sym yes) refl

-- ---- zeros

nothing_sum : (d p v : ℕ) → d ≡ 0 → v ≡ 0 → (0 * 10 + d) * p + v ≡ 0
nothing_sum d p v ed ev = rw (ed, ev) (omega arith)

no_sum : (d p v : ℕ) → 0 < p → (0 * 10 + d) * p + v ≡ 0 → (d ≡ 0) × (v ≡ 0)
no_sum d p v pos z = let grows : d ≤ d * p = product_grows d p pos in (omega arith, omega arith)

and_left : (a b : Bool) → IsTrue (a && b) → IsTrue a
and_left true b h = refl
and_left false b h = absurd (false≢true h)

both_true : (a b : Bool) → IsTrue a → IsTrue b → IsTrue (a && b)
both_true true b ha hb = hb
both_true false b ha hb = absurd (false≢true ha)

pub zeros_are_nothing : (ds : List ℕ) → IsTrue (are_digits ds) → IsTrue (list_all (λ d. eqb d 48) ds) ↔ (digits_value 10 ds ≡ 0)
zeros_are_nothing [] h = (λ _. refl, λ _. refl)
zeros_are_nothing (c ∷ cs) h =
    let tail = zeros_are_nothing cs (digits_rest c cs h) in
    let sum : digits_value 10 (c ∷ cs) ≡ (0 * 10 + digit_value c) * 10 ^ length cs + digits_value 10 cs = value_is_sum (0 * 10 + digit_value c) cs in
    let digit : digit_value c + 48 ≡ c = digit_value_digit c (digit_at (c ∷ cs) 0 h (omega arith)) in (
      λ t. rw sum (nothing_sum (digit_value c) (10 ^ length cs) (digits_value 10 cs) (omega (arith, digit, eqb-true c 48 (and_left (eqb c 48) _ t))) (tail.0 (and_right (eqb c 48) _ t))),
      λ z. let parts = no_sum (digit_value c) (10 ^ length cs) (digits_value 10 cs) (ten_pos (length cs)) (sym sum ∙ z) in
          both_true (eqb c 48) _ (eq-eqb c 48 (omega (arith, digit, parts.0))) (tail.1 parts.1),
    )

-- ---- two texts as one

pub take_both : (n : ℕ) (xs ys : List ℕ) → take n (xs ++ ys) ≡ take n xs ++ take (n - length xs) ys
take_both zero xs ys = let e : 0 - length xs ≡ 0 = omega arith in rw e refl
take_both (suc n) [] ys = let e : suc n - 0 ≡ suc n = omega arith in rw e refl
take_both (suc n) (x ∷ xs) ys = let e : suc n - suc (length xs) ≡ n - length xs = omega arith in rw e (ap (λ zs. x ∷ zs) (take_both n xs ys))

pub drop_both : (n : ℕ) (xs ys : List ℕ) → drop n (xs ++ ys) ≡ drop n xs ++ drop (n - length xs) ys
drop_both zero xs ys = let e : 0 - length xs ≡ 0 = omega arith in rw e refl
drop_both (suc n) [] ys = let e : suc n - 0 ≡ suc n = omega arith in rw e refl
drop_both (suc n) (x ∷ xs) ys = let e : suc n - suc (length xs) ≡ n - length xs = omega arith in rw e (drop_both n xs ys)

pub digits_take : (n : ℕ) (ds : List ℕ) → IsTrue (are_digits ds) → IsTrue (are_digits (take n ds))
digits_take zero ds h = refl
digits_take (suc n) [] h = refl
digits_take (suc n) (c ∷ cs) h = both_true (is_ascii_digit c) _ (and_left (is_ascii_digit c) _ h) (digits_take n cs (digits_rest c cs h))

pub digits_drop : (n : ℕ) (ds : List ℕ) → IsTrue (are_digits ds) → IsTrue (are_digits (drop n ds))
digits_drop zero ds h = h
digits_drop (suc n) [] h = refl
digits_drop (suc n) (c ∷ cs) h = digits_drop n cs (digits_rest c cs h)

pub and_both : (xs ys : List ℕ) → IsTrue (are_digits xs) → IsTrue (are_digits ys) → IsTrue (are_digits (xs ++ ys))
and_both xs ys hx hy = list_all-append is_ascii_digit xs ys ∙ both_true (are_digits xs) (are_digits ys) hx hy
