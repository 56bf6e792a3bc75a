-- Powers of ten and products.
use Rattle.std.proofs.Common.{◌≡◌, ℕ, zero, suc, ◌+◌, ◌-◌, ◌*◌, ◌^◌, ◌<◌, ◌≤◌, Bool, true, eqb, ◌&&◌, List, [], ◌∷◌, length, get_or, sym, ap, ◌∙◌, arith, add-zero, zero-add}
use Rattle.std.proofs.lemmas.Bool.{and_parts, eqb-true}
use Rattle.std.proofs.lemmas.Nat.{pow-add}
use Rattle.std.proofs.Math.Nat.{one-le-pow, mul-le-mul_right, pow-le-pow_right}

pub ten_pos : (i : ℕ) → 0 < 10 ^ i
ten_pos i = one-le-pow i 10 (omega arith)

pub times_less : (a b p : ℕ) → a < b → 0 < p → a * p < b * p
times_less a b p h some_p = grind arith

pub product_grows : (a p : ℕ) → 0 < p → a ≤ a * p
product_grows a p h = grind arith

-- ---- zeros at the end

-- so many zeros make any count too large
pub far_too_large : (limit : ℕ) (count zeros : ℕ) → 0 < count → limit ≤ zeros → 10 ^ limit ≤ count * 10 ^ zeros
far_too_large limit count zeros some_count h =
    let more : 10 ^ limit ≤ 10 ^ zeros = pow-le-pow_right (omega arith) h in
    let grows : 1 * 10 ^ zeros ≤ count * 10 ^ zeros = mul-le-mul_right (10 ^ zeros) some_count in
    omega arith

whole_limit : (limit zeros : ℕ) → zeros ≤ limit → 10 ^ limit ≡ 10 ^ (limit - zeros) * 10 ^ zeros
whole_limit limit zeros h =
    let e : limit ≡ (limit - zeros) + zeros = omega arith in
    ap (λ k. 10 ^ k) e ∙ pow-add 10 (limit - zeros) zeros

pub too_large_with : (limit count zeros : ℕ) → zeros ≤ limit → 10 ^ (limit - zeros) ≤ count → 10 ^ limit ≤ count * 10 ^ zeros
too_large_with limit count zeros h large = rw (whole_limit limit zeros h) (mul-le-mul_right (10 ^ zeros) large)

pub small_with : (limit count zeros : ℕ) → zeros ≤ limit → count < 10 ^ (limit - zeros) → count * 10 ^ zeros < 10 ^ limit
small_with limit count zeros h small = rw (whole_limit limit zeros h) (times_less count (10 ^ (limit - zeros)) (10 ^ zeros) small (ten_pos zeros))

-- ---- the table

-- the powers of ten from n on
unfoldable pub are_tens : ℕ → List ℕ → Bool
are_tens n [] = true
are_tens n (x ∷ xs) = eqb x (10 ^ n) && are_tens (n + 1) xs

pub ten_at : (xs : List ℕ) (n i d : ℕ) → are_tens n xs ≡ true → i < length xs → get_or xs i d ≡ 10 ^ (n + i)
unfolding are_tens
ten_at [] n i d h lt = absurd (omega arith)
ten_at (x ∷ xs) n zero d h lt = eqb-true x (10 ^ n) (and_parts (eqb x (10 ^ n)) (are_tens (n + 1) xs) h).0 ∙ ap (λ k. 10 ^ k) (sym (add-zero n))
ten_at (x ∷ xs) n (suc i) d h lt =
    let e : (n + 1) + i ≡ n + suc i = omega arith in
    ten_at xs (n + 1) i d (and_parts (eqb x (10 ^ n)) (are_tens (n + 1) xs) h).1 (omega arith) ∙ ap (λ k. 10 ^ k) e

pub ten_from_first : (xs : List ℕ) (i d : ℕ) → are_tens 0 xs ≡ true → i < length xs → get_or xs i d ≡ 10 ^ i
ten_from_first xs i d h lt = ten_at xs 0 i d h lt ∙ ap (λ k. 10 ^ k) (zero-add i)
