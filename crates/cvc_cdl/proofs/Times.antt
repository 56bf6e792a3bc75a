-- How often a number stands in a list.
use Rattle.std.proofs.Common.{◌≡◌, ◌==◌, ◌<◌, ◌≤◌, ◌+◌, ℕ, suc, true, false, ◌||◌, List, [], ◌∷◌, ◌++◌, length, get_or, take, refl, sym, ap, ◌∙◌, inl, inr, arith}
use Rattle.std.specs.Prelude.{All}
use Rattle.std.specs.List.{IsDistinct, AllByRecursion, list_any}
use Rattle.std.proofs.lemmas.Bool.{cases_eq, cases_lt, eq-eqb, ne_eqb}
use Rattle.std.proofs.lemmas.Bool.Decides.{nat_tests}
use Rattle.std.proofs.lemmas.List.Elements.{All-from_get_or, All-head, All-tail}
use Rattle.std.proofs.lemmas.List.Sums.{sum_by-cons, sum_by_push, sum_by-append, sum_by_more, sum_by_more_le}
use Rattle.std.proofs.lemmas.Map.Steps.{length-le_from_distinct_below}
use Rattle.cvc_cdl.specs.Peeling.{times, is_listed, one_if}

pub times-cons : (x y : ℕ) (xs : List ℕ) → times x (y ∷ xs) ≡ one_if (y == x) + times x xs
times-cons x y xs = sum_by-cons (λ (z : ℕ). one_if (z == x)) y xs

pub times-push : (x : ℕ) (xs : List ℕ) (y : ℕ) → times x (xs ++ y ∷ []) ≡ times x xs + one_if (y == x)
times-push x xs y = sum_by_push (λ (z : ℕ). one_if (z == x)) xs y

pub times-append : (x : ℕ) (xs ys : List ℕ) → times x (xs ++ ys) ≡ times x xs + times x ys
times-append x xs ys = sum_by-append (λ (z : ℕ). one_if (z == x)) xs ys

pub times_more : (x : ℕ) (xs : List ℕ) (i : ℕ) → i < length xs → times x (take (i + 1) xs) ≡ times x (take i xs) + one_if (get_or xs i 0 == x)
times_more x xs i h = sum_by_more (λ (z : ℕ). one_if (z == x)) xs i 0 h

pub times_more_le : (x : ℕ) (xs : List ℕ) (i : ℕ) → i < length xs → times x (take i xs) + one_if (get_or xs i 0 == x) ≤ times x xs
times_more_le x xs i h = sum_by_more_le (λ (z : ℕ). one_if (z == x)) xs i 0 h

pub one-same : (x y : ℕ) → x ≡ y → one_if (x == y) ≡ 1
one-same x y e = grind (arith, nat_tests)

pub one-apart : (x y : ℕ) → (x ≡ y → ⊥) → one_if (x == y) ≡ 0
one-apart x y ne = grind (arith, nat_tests)

pub listed_none : (xs : List ℕ) (x : ℕ) → times x xs ≡ 0 → is_listed xs x ≡ false
listed_none [] x h = refl
listed_none (y ∷ xs) x h =
    let more : times x (y ∷ xs) ≡ one_if (y == x) + times x xs = times-cons x y xs in
    elim (cases_eq y x) [
      | inl same ↦ absurd (let one : one_if (y == x) ≡ 1 = one-same y x same in omega arith)
      | inr apart ↦ ap (λ b. b || (is_listed xs x)) (ne_eqb y x apart) ∙ listed_none xs x (let none : one_if (y == x) ≡ 0 = one-apart y x apart in omega arith)
    ]

pub listed_some : (xs : List ℕ) (x : ℕ) → 0 < times x xs → is_listed xs x ≡ true
listed_some [] x h = absurd (let none : times x [] ≡ 0 = refl in omega arith)
listed_some (y ∷ xs) x h =
    let more : times x (y ∷ xs) ≡ one_if (y == x) + times x xs = times-cons x y xs in
    elim (cases_eq y x) [
      | inl same ↦ ap (λ b. b || (is_listed xs x)) (eq-eqb y x same)
      | inr apart ↦ ap (λ b. b || (is_listed xs x)) (ne_eqb y x apart) ∙ listed_some xs x (let none : one_if (y == x) ≡ 0 = one-apart y x apart in omega arith)
    ]

-- a number that is listed stands at some place
pub place_of : (xs : List ℕ) (x : ℕ) → is_listed xs x ≡ true → (p : ℕ) × (p < length xs) × (get_or xs p 0 ≡ x)
place_of [] x h = absurd (cc)
place_of (y ∷ xs) x h = elim (cases_eq y x) [
  | inl same ↦ (0, omega arith, same)
  | inr apart ↦
      let later : is_listed xs x ≡ true = sym (ap (λ b. b || (is_listed xs x)) (ne_eqb y x apart)) ∙ h in
      let found = place_of xs x later in (suc found.0, omega (arith, found.1), found.2)
]

pub listed_at : (xs : List ℕ) (p : ℕ) → p < length xs → 0 < times (get_or xs p 0) xs
listed_at xs p h =
    let some : times (get_or xs p 0) (take p xs) + one_if (get_or xs p 0 == get_or xs p 0) ≤ times (get_or xs p 0) xs = times_more_le (get_or xs p 0) xs p h in
    let one : one_if (get_or xs p 0 == get_or xs p 0) ≡ 1 = one-same (get_or xs p 0) (get_or xs p 0) refl in
    omega arith

-- numbers that don't stand in a list from n on
pub all_below : (n : ℕ) (xs : List ℕ) → ((x : ℕ) → n ≤ x → times x xs ≡ 0) → All (λ x. x < n) xs
all_below n xs h = All-from_get_or (λ (x : ℕ). x < n) xs 0 (λ p lt. elim (cases_lt (get_or xs p 0) n) [
  | inl less ↦ less
  | inr more ↦ absurd (let none : times (get_or xs p 0) xs ≡ 0 = h (get_or xs p 0) more in let some : 0 < times (get_or xs p 0) xs = listed_at xs p lt in omega arith)
])

none_later : (x : ℕ) (xs : List ℕ) → times x xs ≡ 0 → AllByRecursion (λ y. (x == y) ≡ false) xs
none_later x [] h = tt
none_later x (y ∷ xs) h =
    let more : times x (y ∷ xs) ≡ one_if (y == x) + times x xs = times-cons x y xs in
    elim (cases_eq x y) [
      | inl same ↦ absurd (let one : one_if (y == x) ≡ 1 = one-same y x (sym same) in omega arith)
      | inr apart ↦ (ne_eqb x y apart, none_later x xs (omega arith))
    ]

once_distinct : (xs : List ℕ) → ((x : ℕ) → times x xs ≤ 1) → IsDistinct ◌==◌ xs
unfolding IsDistinct
once_distinct [] h = tt
once_distinct (y ∷ xs) h = (
  none_later y xs (let more : times y (y ∷ xs) ≡ one_if (y == y) + times y xs = times-cons y y xs in let one : one_if (y == y) ≡ 1 = one-same y y refl in let most : times y (y ∷ xs) ≤ 1 = h y in omega arith),
  once_distinct xs (λ x. let more : times x (y ∷ xs) ≡ one_if (y == x) + times x xs = times-cons x y xs in let most : times x (y ∷ xs) ≤ 1 = h x in omega arith),
)

swapped : (xs : List ℕ) (q : ℕ) → list_any (λ y. q == y) xs ≡ true → is_listed xs q ≡ true
swapped [] q h = h
swapped (y ∷ xs) q h = elim (cases_eq y q) [
  | inl same ↦ ap (λ b. b || (is_listed xs q)) (eq-eqb y q same)
  | inr apart ↦ ap (λ b. b || (is_listed xs q)) (ne_eqb y q apart) ∙ swapped xs q (sym (ap (λ b. b || (list_any (λ z. q == z) xs)) (ne_eqb q y (λ e. apart (sym e)))) ∙ h)
]

-- numbers below n, each at most once, are at most n
pub length-le_from_once : (n : ℕ) (xs : List ℕ) → ((x : ℕ) → times x xs ≤ 1) → All (λ x. x < n) xs → length xs ≤ n
length-le_from_once n xs once below = length-le_from_distinct_below xs n (once_distinct xs once) (λ q h. let found = place_of xs q (swapped xs q h) in let less : get_or xs found.0 0 < n = below found.0 0 found.1 in let same : get_or xs found.0 0 ≡ q = found.2 in omega arith)

-- numbers below n don't have one from n on
pub none_past : (n x : ℕ) (xs : List ℕ) → All (λ y. y < n) xs → n ≤ x → times x xs ≡ 0
none_past n x [] below past = refl
none_past n x (y ∷ xs) below past =
    let more : times x (y ∷ xs) ≡ one_if (y == x) + times x xs = times-cons x y xs in
    let less : y < n = All-head (λ (z : ℕ). z < n) y xs below in
    let none : one_if (y == x) ≡ 0 = one-apart y x (λ e. omega arith) in
    let rest : times x xs ≡ 0 = none_past n x xs (All-tail (λ (z : ℕ). z < n) y xs below) past in
    omega arith
