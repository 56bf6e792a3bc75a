-- From the digits that are kept and dropped to the value of the number.
use Rattle.std.proofs.Common.{◌≡◌, ℕ, ◌+◌, ◌-◌, ◌*◌, ◌^◌, ◌<◌, ◌≤◌, Bool, eqb, IsTrue, List, ◌++◌, length, take, drop, refl, sym, ap, ◌∙◌, inl, inr, arith, ◌↔◌}
use Rattle.std.specs.List.{list_all}
use Rattle.std.specs.Str.Parse.{digits_value, digits_value_after}
use Rattle.std.proofs.lemmas.List.{take-append-drop, length-drop, length-append}
use Rattle.std.proofs.lemmas.Bool.{cases_lt}
use Rattle.cvc_units.specs.Split.{are_digits}
use Rattle.cvc_units.proofs.Tens.{ten_pos, product_grows}
use Rattle.cvc_units.proofs.Digits.{value_append, value_grows, value_is_sum, value_below}
use Rattle.cvc_units.proofs.Cut.{Parted, up_case, down_case, none_case, digits_drop, zeros_are_nothing, take_both, drop_both, and_both}

-- ---- faults

pub first_large : (limit : ℕ) (front more : List ℕ) (z : ℕ) → limit ≤ digits_value_after 10 0 front → limit ≤ digits_value 10 (front ++ more) * 10 ^ z
first_large limit front more z large =
    omega (arith, value_append 0 front more, value_grows (digits_value_after 10 0 front) more, product_grows (digits_value 10 (front ++ more)) (10 ^ z) (ten_pos z))

pub both_value : (n m : ℕ) (front more : List ℕ) → n ≡ digits_value_after 10 0 front → m ≡ digits_value_after 10 n more → m ≡ digits_value 10 (front ++ more)
both_value n m front more en em = em ∙ ap (λ k. digits_value_after 10 k more) en ∙ sym (value_append 0 front more)

-- ---- the cut

same_case : (v k r up down : ℕ) → v ≡ k * 10 ^ 0 + r → r < 10 ^ 0 → down ≤ up → Parted (v * 10 ^ up) (10 ^ down) (k * 10 ^ (up - down)) (r * 10 ^ up)
same_case v k r up down e small h =
    let nothing : r ≡ 0 = omega arith in
    let whole : k ≡ v = omega arith in
    let no_rest : r * 10 ^ up ≡ 0 = rw nothing (omega arith) in
    rw (no_rest, whole) (up_case v up down h)

cut_case : (v k r m up down : ℕ) → v ≡ k * 10 ^ m + r → r < 10 ^ m → down ≡ m + up → up - down ≡ 0 → Parted (v * 10 ^ up) (10 ^ down) (k * 10 ^ (up - down)) (r * 10 ^ up)
cut_case v k r m up down e small d z =
    let one : k * 10 ^ (up - down) ≡ k = rw z (omega arith) in
    rw (one, e) (down_case k r m up down d small)

lost_case : (v k r n up down : ℕ) → v ≡ k * 10 ^ n + r → r < 10 ^ n → k ≡ 0 → n + up ≤ down → Parted (v * 10 ^ up) (10 ^ down) (k * 10 ^ (up - down)) (r * 10 ^ up)
lost_case v k r n up down e small none h =
    let all : v ≡ r = rw (e, none) (omega arith) in
    let no_count : k * 10 ^ (up - down) ≡ 0 = rw none (omega arith) in
    rw (no_count, all) (none_case r n up down h small)

parts : (v k r n m kept up down : ℕ) → v ≡ k * 10 ^ m + r → r < 10 ^ m → m ≡ n - kept → kept ≡ n + up - down → (kept ≡ 0 → k ≡ 0) → Parted (v * 10 ^ up) (10 ^ down) (k * 10 ^ (up - down)) (r * 10 ^ up)
parts v k r n m kept up down e small em ek none =
    elim (cases_lt up down) [
      | inr h ↦
          let z : m ≡ 0 = omega arith in
          same_case v k r up down (rw z at e) (rw z at small) h
      | inl h ↦ elim (cases_lt (n + up) down) [
        | inl g ↦
            let all : m ≡ n = omega arith in
            lost_case v k r n up down (rw all at e) (rw all at small) (none (omega arith)) (omega arith)
        | inr g ↦ cut_case v k r m up down e small (omega arith) (omega arith)
      ]
    ]

nothing_taken : (n : ℕ) (ds : List ℕ) → n ≡ 0 → digits_value 10 (take n ds) ≡ 0
nothing_taken n ds e = rw e refl

cut : (all : List ℕ) (kept up down : ℕ) → IsTrue (are_digits all) → kept ≡ length all + up - down → Parted (digits_value 10 all * 10 ^ up) (10 ^ down) (digits_value 10 (take kept all) * 10 ^ (up - down)) (digits_value 10 (drop kept all) * 10 ^ up)
cut all kept up down h ek =
    let joined : digits_value 10 all ≡ digits_value_after 10 (digits_value 10 (take kept all)) (drop kept all) =
    ap (λ ds. digits_value 10 ds) (sym (take-append-drop kept all)) ∙ value_append 0 (take kept all) (drop kept all) in
    let sum = joined ∙ value_is_sum (digits_value 10 (take kept all)) (drop kept all) in
    parts (digits_value 10 all) (digits_value 10 (take kept all)) (digits_value 10 (drop kept all)) (length all) (length (drop kept all)) kept up down sum
    (value_below (drop kept all) (digits_drop kept all h))
    (length-drop kept all)
    ek
    (nothing_taken kept all)

-- the same of two texts of digits
pub cut_both : (ds fs : List ℕ) (kept up down : ℕ) → IsTrue (are_digits ds) → IsTrue (are_digits fs) → kept ≡ length ds + length fs + up - down →
    Parted (digits_value 10 (ds ++ fs) * 10 ^ up) (10 ^ down) (digits_value 10 (take kept ds ++ take (kept - length ds) fs) * 10 ^ (up - down)) (digits_value 10 (drop kept ds ++ drop (kept - length ds) fs) * 10 ^ up)
cut_both ds fs kept up down hd hf ek =
    rw (← take_both kept ds fs, ← drop_both kept ds fs) (cut (ds ++ fs) kept up down (and_both ds fs hd hf) (omega (arith, length-append ds fs)))

-- nothing is dropped where the dropped digits are zeros
pub whole_where_zeros : (ds fs : List ℕ) (kept up : ℕ) (whole : Bool) → IsTrue (are_digits ds) → IsTrue (are_digits fs) → whole ≡ list_all (λ d. eqb d 48) (drop kept ds ++ drop (kept - length ds) fs) →
    IsTrue whole ↔ (digits_value 10 (drop kept ds ++ drop (kept - length ds) fs) * 10 ^ up ≡ 0)
whole_where_zeros ds fs kept up whole hd hf e =
    let rest : List ℕ = drop kept ds ++ drop (kept - length ds) fs in
    let zeros = zeros_are_nothing rest (and_both (drop kept ds) (drop (kept - length ds) fs) (digits_drop kept ds hd) (digits_drop (kept - length ds) fs hf)) in
    (λ t. zero_product _ (10 ^ up) (zeros.0 (sym e ∙ t)), λ z. e ∙ zeros.1 (zero_factor _ (10 ^ up) (ten_pos up) z))
  where
    zero_product : (a p : ℕ) → a ≡ 0 → a * p ≡ 0
    zero_product a p ea = rw ea (omega arith)

    zero_factor : (a p : ℕ) → 0 < p → a * p ≡ 0 → a ≡ 0
    zero_factor a p pos z = omega (arith, product_grows a p pos)
