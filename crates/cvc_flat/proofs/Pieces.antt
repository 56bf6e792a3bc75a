-- The pieces of a text.
use Rattle.std.proofs.Common.{◌≡◌, ℕ, suc, ◌+◌, ◌<◌, ◌≤◌, Bool, true, false, cond, not, List, [], ◌∷◌, length, map, take, drop, refl, ap, ◌∙◌, arith}
use Rattle.std.specs.Prelude.{All, Some, None, position, nat_lt}
use Rattle.std.specs.List.{onto_first, position_or_len, slice_split}
use Rattle.std.proofs.lemmas.Bool.Decides.{nat_tests}
use Rattle.std.proofs.lemmas.List.{length-map}
use Rattle.cvc_plan.proofs.Lists.{all_head, all_tail}

split_at : (p : ℕ → Bool) (xs : List ℕ) → position_or_len p xs < length xs → slice_split p xs ≡ take (position_or_len p xs) xs ∷ slice_split p (drop (position_or_len p xs + 1) xs)
split_at p [] h = absurd (omega arith)
split_at p (x ∷ xs) h = by (p x) h (split_at p xs)
  where
    by : (b : Bool) → cond (not b) (1 + position_or_len p xs) 0 < suc (length xs)
        → (position_or_len p xs < length xs → slice_split p xs ≡ take (position_or_len p xs) xs ∷ slice_split p (drop (position_or_len p xs + 1) xs))
        → cond b ([] ∷ slice_split p xs) (onto_first x (slice_split p xs)) ≡ take (cond (not b) (1 + position_or_len p xs) 0) (x ∷ xs) ∷ slice_split p (drop (cond (not b) (1 + position_or_len p xs) 0 + 1) (x ∷ xs))
    by true g later = refl
    by false g later =
        let n : ℕ = position_or_len p xs in
        let more : suc (n + 1) ≡ suc n + 1 = omega arith in
        let one : suc n ≡ 1 + n = omega arith in
        ap (onto_first x) (later (omega arith))
        ∙ ap (λ m. (x ∷ take n xs) ∷ slice_split p (drop m (x ∷ xs))) more
        ∙ ap (λ m. take m (x ∷ xs) ∷ slice_split p (drop (m + 1) (x ∷ xs))) one

split_none : (p : ℕ → Bool) (xs : List ℕ) → length xs ≤ position_or_len p xs → slice_split p xs ≡ xs ∷ []
split_none p [] h = refl
split_none p (x ∷ xs) h = by (p x) h (split_none p xs)
  where
    by : (b : Bool) → suc (length xs) ≤ cond (not b) (1 + position_or_len p xs) 0 → (length xs ≤ position_or_len p xs → slice_split p xs ≡ xs ∷ [])
        → cond b ([] ∷ slice_split p xs) (onto_first x (slice_split p xs)) ≡ (x ∷ xs) ∷ []
    by true g later = absurd (omega arith)
    by false g later = ap (onto_first x) (later (omega arith))

-- a text with its first separator at this place
pub pieces_at : (p : ℕ → Bool) (xs : List ℕ) (k : ℕ) → position p xs ≡ Some k → slice_split p xs ≡ take k xs ∷ slice_split p (drop (k + 1) xs)
pieces_at p xs k e = by (nat_lt (position_or_len p xs) (length xs)) refl e
  where
    by : (b : Bool) → nat_lt (position_or_len p xs) (length xs) ≡ b → cond b (Some (position_or_len p xs)) None ≡ Some k → slice_split p xs ≡ take k xs ∷ slice_split p (drop (k + 1) xs)
    by true below is =
        let at : position_or_len p xs ≡ k = cc in
        split_at p xs (grind (arith, nat_tests)) ∙ ap (λ m. take m xs ∷ slice_split p (drop (m + 1) xs)) at
    by false below is = cc

pub pieces_none : (p : ℕ → Bool) (xs : List ℕ) → position p xs ≡ None → slice_split p xs ≡ xs ∷ []
pieces_none p xs e = by (nat_lt (position_or_len p xs) (length xs)) refl e
  where
    by : (b : Bool) → nat_lt (position_or_len p xs) (length xs) ≡ b → cond b (Some (position_or_len p xs)) None ≡ None → slice_split p xs ≡ xs ∷ []
    by true below is = cc
    by false below is = split_none p xs (grind (arith, nat_tests))

-- the pieces are never none
pub pieces_some : (p : ℕ → Bool) (xs : List ℕ) → (first : List ℕ) × (rest : List (List ℕ)) × (slice_split p xs ≡ first ∷ rest)
pieces_some p [] = ([], [], refl)
pieces_some p (x ∷ xs) = by (p x) (pieces_some p xs)
  where
    by : (b : Bool) → (first : List ℕ) × (rest : List (List ℕ)) × (slice_split p xs ≡ first ∷ rest) → (first : List ℕ) × (rest : List (List ℕ)) × (cond b ([] ∷ slice_split p xs) (onto_first x (slice_split p xs)) ≡ first ∷ rest)
    by true w = ([], slice_split p xs, refl)
    by false w = (x ∷ w.0, w.1, ap (onto_first x) w.2)

-- ## Places by other tests

pub first_alike : {A B : Type 0} (p : B → Bool) (f : A → B) (q : A → Bool) (xs : List A) → All (λ x. p (f x) ≡ q x) xs → position_or_len p (map f xs) ≡ position_or_len q xs
first_alike p f q [] h = refl
first_alike p f q (x ∷ xs) h =
    λ i. cond (not (all_head (λ y. p (f y) ≡ q y) x xs h i)) (1 + first_alike p f q xs (all_tail (λ y. p (f y) ≡ q y) x xs h) i) 0

pub place_alike : {A B : Type 0} (p : B → Bool) (f : A → B) (q : A → Bool) (xs : List A) → All (λ x. p (f x) ≡ q x) xs → position p (map f xs) ≡ position q xs
place_alike p f q xs h = λ i. cond (nat_lt (first_alike p f q xs h i) (length-map xs f i)) (Some (first_alike p f q xs h i)) None

-- none passes
pub no_place : {A B : Type 0} (p : B → Bool) (f : A → B) (xs : List A) → All (λ x. p (f x) ≡ false) xs → position p (map f xs) ≡ None
no_place p f xs h = place_alike p f (λ _. false) xs h ∙ nowhere xs
  where
    never : {A : Type 0} (xs : List A) → position_or_len (λ _. false) xs ≡ length xs
    never [] = refl
    never (x ∷ xs) = let e = never xs in omega (arith, e)

    nowhere : {A : Type 0} (xs : List A) → position (λ _. false) xs ≡ None
    nowhere xs = ap (λ n. cond (nat_lt n (length xs)) (Some n) None) (never xs) ∙ ap (λ b. cond b (Some (length xs)) None) (same (length xs))
      where
        same : (n : ℕ) → nat_lt n n ≡ false
        same n = grind (arith, nat_tests)
