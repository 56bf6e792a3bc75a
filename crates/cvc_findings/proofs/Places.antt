-- Lists of which a fact holds place by place, and ranges of devices by their numbers.
use Rattle.std.proofs.Common.{◌≡◌, ℕ, zero, suc, ◌+◌, ◌<◌, ◌/◌, List, [], ◌∷◌, ◌++◌, length, take, get_or, slice_get, Option, Some, None, subst, sym, ap, ◌∙◌, refl, arith}
use Rattle.std.specs.Prelude.{slice_index_or, MatchOption}
use Rattle.std.specs.List.{AllZip, range_with_len}
use Rattle.std.specs.Option.{IsSomeAnd, unwrap_or}
use Rattle.std.proofs.lemmas.List.{take_more}
use Rattle.std.proofs.lemmas.Slice.Zip.{AllZip-left}
use Rattle.cvc_findings.specs.Parts.{boundary}

-- one place more
pub zip_more : {A B : Type 0} (R : A → B → Type 0) (xs : List A) (ys : List B) (x : A) (y : B) → AllZip R xs ys → R x y → AllZip R (xs ++ x ∷ []) (ys ++ y ∷ [])
zip_more R [] [] x y all here = (here, tt)
zip_more R [] (b ∷ ys) x y all here = absurd all
zip_more R (a ∷ xs) [] x y all here = absurd all
zip_more R (a ∷ xs) (b ∷ ys) x y all here = (all.0, zip_more R xs ys x y all.1 here)

-- one place more of the first of a list
pub take_zip_more : {A B : Type 0} (R : A → B → Type 0) (xs : List A) (ys : List B) (k : ℕ) (d : A) (y : B) → AllZip R (take k xs) ys → k < length xs → R (get_or xs k d) y → AllZip R (take (k + 1) xs) (ys ++ y ∷ [])
take_zip_more {A} {B} R xs ys k d y all inside here =
    subst (λ (l : List A). AllZip R l (ys ++ y ∷ [])) (sym (take_more xs k d inside)) (zip_more R (take k xs) ys (get_or xs k d) y all here)

range_more : (a n : ℕ) → range_with_len a (suc n) ≡ range_with_len a n ++ (a + n) ∷ []
range_more a zero = let here : a ≡ a + 0 = omega arith in ap (λ m. m ∷ []) here
range_more a (suc n) =
    let there : (a + 1) + n ≡ a + suc n = omega arith in
    ap (λ (l : List ℕ). a ∷ l) (range_more (a + 1) n ∙ ap (λ m. range_with_len (a + 1) n ++ m ∷ []) there)

-- one number more
pub number_more : {B : Type 0} (R : ℕ → B → Type 0) (k : ℕ) (ys : List B) (y : B) → AllZip R (range_with_len 0 k) ys → R k y → AllZip R (range_with_len 0 (k + 1)) (ys ++ y ∷ [])
number_more {B} R k ys y all here =
    let same : suc k ≡ k + 1 = omega arith in
    let last : 0 + k ≡ k = omega arith in
    let more : range_with_len 0 k ++ k ∷ [] ≡ range_with_len 0 (k + 1) = ap (λ m. range_with_len 0 k ++ m ∷ []) (sym last) ∙ sym (range_more 0 k) ∙ ap (range_with_len 0) same in
    subst (λ (l : List ℕ). AllZip R l (ys ++ y ∷ [])) more (zip_more R (range_with_len 0 k) ys k y all here)

some_at : {B : Type 0} (P : B → Type 0) (o : Option B) (d : B) → IsSomeAnd o P → P (unwrap_or o d)
some_at P (Some y) d holds = holds
some_at P None d holds = absurd holds

-- what holds of an item and of what stands in its place
pub zip_at : {A B : Type 0} (R : A → B → Type 0) (xs : List A) (ys : List B) (k : ℕ) (x : A) (d : B) → AllZip R xs ys → slice_get xs k ≡ Some x → R x (unwrap_or (slice_get ys k) d)
zip_at {A} {B} R xs ys k x d all at =
    some_at (R x) (slice_get ys k) d (subst (λ (o : Option A). MatchOption o (Unit {0}) (λ a. IsSomeAnd (slice_get ys k) (R a))) at (AllZip-left R xs ys all k))

at_place : {X : Type 0} (Q : ℕ → X → Type 0) (start n k : ℕ) (ys : List X) (y : X) → AllZip Q (range_with_len start n) ys → k < length ys → y ≡ slice_index_or ys k y → Q (start + k) y
at_place Q start zero k [] y all inside is = absurd (omega (arith, inside))
at_place Q start zero k (x ∷ ys) y all inside is = absurd all
at_place Q start (suc n) k [] y all inside is = absurd all
at_place Q start (suc n) zero (x ∷ ys) y all inside is =
    let here : start ≡ start + 0 = omega arith in
    subst (λ m. Q m y) here (subst (Q start) (sym is) all.0)
at_place Q start (suc n) (suc k) (x ∷ ys) y all inside is =
    let there : (start + 1) + k ≡ start + suc k = omega arith in
    subst (λ m. Q m y) there (at_place Q (start + 1) n k ys y all.1 (omega (arith, inside)) is)

-- what holds of a number and its item
pub at_number : {X : Type 0} (Q : ℕ → X → Type 0) (n k : ℕ) (ys : List X) (y : X) → AllZip Q (range_with_len 0 n) ys → k < length ys → y ≡ slice_index_or ys k y → Q k y
at_number Q n k ys y all inside is =
    let same : 0 + k ≡ k = omega arith in
    subst (λ m. Q m y) same (at_place Q 0 n k ys y all inside is)

-- there is an item for each number
pub count_of : {X : Type 0} (Q : ℕ → X → Type 0) (start n : ℕ) (ys : List X) → AllZip Q (range_with_len start n) ys → length ys ≡ n
count_of Q start zero [] all = refl
count_of Q start zero (y ∷ ys) all = absurd all
count_of Q start (suc n) [] all = absurd all
count_of Q start (suc n) (y ∷ ys) all = omega (arith, count_of Q (start + 1) n ys all.1)

-- the last range ends with the last device
pub last_boundary : (count k : ℕ) → k ≡ count / 4096 + 1 → boundary count k ≡ count
last_boundary count k e = omega (arith, e)
