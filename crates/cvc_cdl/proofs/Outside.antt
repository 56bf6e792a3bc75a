-- Chains that are longer, and numbers that aren't in a list.
use Rattle.std.proofs.Common.{◌≡◌, ◌==◌, ◌<◌, ◌≤◌, ◌+◌, ◌-◌, ℕ, zero, suc, Bool, true, false, not, ◌||◌, List, [], ◌∷◌, ◌++◌, length, refl, sym, ap, subst, ◌∙◌, inl, inr, ◌⊎◌, arith}
use Rattle.std.specs.Prelude.{All}
use Rattle.std.specs.List.{list_any}
use Rattle.std.proofs.lemmas.Bool.{cases_eq, cases_lt}
use Rattle.std.proofs.lemmas.List.Elements.{All-head, All-tail}
use Rattle.std.proofs.lemmas.List.Sums.{sum_by-cons}
use Rattle.cvc_cdl.specs.Chains.{used_at, chain_by}
use Rattle.cvc_cdl.specs.Peeling.{times, is_listed, count_outside, one_if}
use Rattle.cvc_cdl.proofs.Times.{times-cons, times-push, one-same, one-apart, listed_none, listed_some}

-- ## Tests

pub or_left : (a b : Bool) → a || b ≡ false → a ≡ false
or_left false b h = refl
or_left true b h = h

pub or_right : (a b : Bool) → a || b ≡ false → b ≡ false
or_right false b h = h
or_right true b h = absurd cc

pub both_false : (a b : Bool) → a ≡ false → b ≡ false → a || b ≡ false
both_false a b x y = cc

pub later_true : (a b : Bool) → b ≡ true → a || b ≡ true
later_true false b h = h
later_true true b h = refl

pub first_true : (a b : Bool) → a ≡ true → a || b ≡ true
first_true a b h = ap (λ x. x || b) h

-- ## Chains

none_of : (p q : ℕ → Bool) → ((x : ℕ) → q x ≡ false → p x ≡ false) → (xs : List ℕ) → list_any q xs ≡ false → list_any p xs ≡ false
none_of p q h [] none = refl
none_of p q h (x ∷ xs) none = both_false (p x) (list_any p xs) (h x (or_left (q x) (list_any q xs) none)) (none_of p q h xs (or_right (q x) (list_any q xs) none))

-- where no chain of n uses starts, no chain of one use more does
chain_shorter : (uses : List (List ℕ)) (n i : ℕ) → chain_by uses n i ≡ false → chain_by uses (suc n) i ≡ false
unfolding chain_by
chain_shorter uses zero i none = absurd cc
chain_shorter uses (suc n) i none = none_of (chain_by uses (suc n)) (chain_by uses n) (chain_shorter uses n) (used_at uses i) none

chain_after : (uses : List (List ℕ)) (n more i : ℕ) → chain_by uses n i ≡ false → chain_by uses (n + more) i ≡ false
chain_after uses n zero i none = subst (λ m. chain_by uses m i ≡ false) (omega arith) none
chain_after uses n (suc more) i none = subst (λ m. chain_by uses m i ≡ false) (omega arith) (chain_shorter uses (n + more) i (chain_after uses n more i none))

pub chain_from : (uses : List (List ℕ)) (n m i : ℕ) → n ≤ m → chain_by uses n i ≡ false → chain_by uses m i ≡ false
chain_from uses n m i le none = subst (λ k. chain_by uses k i ≡ false) (omega arith) (chain_after uses n (m - n) i none)

pub chain_more : (uses : List (List ℕ)) (n i : ℕ) → chain_by uses (suc n) i ≡ list_any (chain_by uses n) (used_at uses i)
unfolding chain_by
chain_more uses n i = refl

-- ## Numbers outside of a list

outside-cons : (listed : List ℕ) (x : ℕ) (xs : List ℕ) → count_outside listed (x ∷ xs) ≡ one_if (not (is_listed listed x)) + count_outside listed xs
outside-cons listed x xs = sum_by-cons (λ (y : ℕ). one_if (not (is_listed listed y))) x xs

pub outside-nil : (xs : List ℕ) → count_outside [] xs ≡ length xs
outside-nil [] = refl
outside-nil (x ∷ xs) = let more : count_outside [] (x ∷ xs) ≡ 1 + count_outside [] xs = outside-cons [] x xs in let rest : count_outside [] xs ≡ length xs = outside-nil xs in omega arith

pub listed_same : (x : ℕ) (xs ys : List ℕ) → times x xs ≡ times x ys → is_listed xs x ≡ is_listed ys x
listed_same x xs ys e = elim (cases_lt 0 (times x xs)) [
  | inl some_there ↦ listed_some xs x some_there ∙ sym (listed_some ys x (omega arith))
  | inr none_there ↦ listed_none xs x (omega arith) ∙ sym (listed_none ys x (omega arith))
]

one_taken : (listed : List ℕ) (c x : ℕ) → is_listed listed c ≡ false → one_if (not (is_listed listed x)) ≡ one_if (not (is_listed (listed ++ c ∷ []) x)) + one_if (x == c)
one_taken listed c x free =
    let more : times x (listed ++ c ∷ []) ≡ times x listed + one_if (c == x) = times-push x listed c in
    elim (cases_eq x c) [
      | inl same ↦
          let out : one_if (not (is_listed listed x)) ≡ 1 = ap (λ b. one_if (not b)) (ap (is_listed listed) same ∙ free) in
          let one : one_if (c == x) ≡ 1 = one-same c x (sym same) in
          let in_now : one_if (not (is_listed (listed ++ c ∷ []) x)) ≡ 0 = ap (λ b. one_if (not b)) (listed_some (listed ++ c ∷ []) x (omega arith)) in
          let this : one_if (x == c) ≡ 1 = one-same x c same in
          omega arith
      | inr apart ↦
          let none : one_if (c == x) ≡ 0 = one-apart c x (λ e. apart (sym e)) in
          let kept : one_if (not (is_listed (listed ++ c ∷ []) x)) ≡ one_if (not (is_listed listed x)) = ap (λ b. one_if (not b)) (listed_same x (listed ++ c ∷ []) listed (omega arith)) in
          let this : one_if (x == c) ≡ 0 = one-apart x c apart in
          omega arith
    ]

-- one more number of the list
pub outside_taken : (listed : List ℕ) (c : ℕ) (xs : List ℕ) → is_listed listed c ≡ false → count_outside listed xs ≡ count_outside (listed ++ c ∷ []) xs + times c xs
outside_taken listed c [] free = refl
outside_taken listed c (x ∷ xs) free =
    let before : count_outside listed (x ∷ xs) ≡ one_if (not (is_listed listed x)) + count_outside listed xs = outside-cons listed x xs in
    let after : count_outside (listed ++ c ∷ []) (x ∷ xs) ≡ one_if (not (is_listed (listed ++ c ∷ []) x)) + count_outside (listed ++ c ∷ []) xs = outside-cons (listed ++ c ∷ []) x xs in
    let more : times c (x ∷ xs) ≡ one_if (x == c) + times c xs = times-cons c x xs in
    let here : one_if (not (is_listed listed x)) ≡ one_if (not (is_listed (listed ++ c ∷ []) x)) + one_if (x == c) = one_taken listed c x free in
    let rest : count_outside listed xs ≡ count_outside (listed ++ c ∷ []) xs + times c xs = outside_taken listed c xs free in
    omega arith

in_from_none : (b : Bool) → one_if (not b) ≡ 0 → b ≡ true
in_from_none true h = refl
in_from_none false h = absurd (omega arith)

-- where all are in the list, and the test fails in the list
pub none_inside : (listed : List ℕ) (p : ℕ → Bool) → ((x : ℕ) → is_listed listed x ≡ true → p x ≡ false) → (xs : List ℕ) → count_outside listed xs ≡ 0 → list_any p xs ≡ false
none_inside listed p h [] none = refl
none_inside listed p h (x ∷ xs) none =
    let more : count_outside listed (x ∷ xs) ≡ one_if (not (is_listed listed x)) + count_outside listed xs = outside-cons listed x xs in
    both_false (p x) (list_any p xs) (h x (in_from_none (is_listed listed x) (omega arith))) (none_inside listed p h xs (omega arith))

split_here : (b : Bool) → (b ≡ true) × (one_if (not b) ≡ 0) ⊎ (b ≡ false) × (one_if (not b) ≡ 1)
split_here true = inl (refl, refl)
split_here false = inr (refl, refl)

-- where one isn't in the list, and the test passes outside of the list
pub some_outside : (n : ℕ) (listed : List ℕ) (p : ℕ → Bool) → ((x : ℕ) → x < n → is_listed listed x ≡ false → p x ≡ true) → (xs : List ℕ) → All (λ x. x < n) xs → 0 < count_outside listed xs → list_any p xs ≡ true
some_outside n listed p h [] below some_there = absurd (let none : count_outside listed [] ≡ 0 = refl in omega arith)
some_outside n listed p h (x ∷ xs) below some_there =
    let more : count_outside listed (x ∷ xs) ≡ one_if (not (is_listed listed x)) + count_outside listed xs = outside-cons listed x xs in
    elim (split_here (is_listed listed x)) [
      | inl inside ↦ later_true (p x) (list_any p xs) (some_outside n listed p h xs (All-tail (λ (y : ℕ). y < n) x xs below) (let none : one_if (not (is_listed listed x)) ≡ 0 = inside.1 in omega arith))
      | inr outside ↦ first_true (p x) (list_any p xs) (h x (All-head (λ (y : ℕ). y < n) x xs below) outside.0)
    ]
