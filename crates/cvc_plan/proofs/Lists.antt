-- What holds of each item of a list, and names by their places.
use Rattle.std.proofs.Common.{◌≡◌, ℕ, zero, suc, ◌<◌, ◌≤◌, ◌&&◌, ◌||◌, Bool, true, false, cond, List, [], ◌∷◌, ◌++◌, length, map, get_or, take, Some, None, refl, sym, ap, subst, ◌∙◌, length-append, arith}
use Rattle.std.specs.Prelude.{All, nat_lt, position}
use Rattle.std.specs.List.{list_any, position_or_len}
use Rattle.std.specs.Str.{bytes_eq}
use Rattle.std.specs.Cmp.Lexicographic.{bytes_decides}
use Rattle.std.proofs.Math.Seq.{get_or-append_seam}
use Rattle.std.proofs.lemmas.Bool.{false≢true, lt-ltb}
use Rattle.std.proofs.lemmas.List.Sums.{fails_before_first, passes_at_first, position_or_len_is}
use Rattle.std.proofs.lemmas.Bool.Decides.{nat_tests}
use Rattle.std.proofs.lemmas.List.{get_or-take, get_or_append_left, length-map, length-take-le}
use Rattle.cvc_names.specs.Names.{place_of}
use Rattle.cvc_plan.specs.Parts.{text}

pub all_head : {X : Type 0} (P : X → Type 0) (x : X) (xs : List X) → All P (x ∷ xs) → P x
all_head P x xs h = h 0 x (omega arith)

pub all_tail : {X : Type 0} (P : X → Type 0) (x : X) (xs : List X) → All P (x ∷ xs) → All P xs
all_tail P x xs h = λ k d b. h (suc k) d (omega arith)

all_cons_at : {X : Type 0} (P : X → Type 0) (x : X) (xs : List X) → P x → All P xs → (k : ℕ) (d : X) → k < length (x ∷ xs) → P (get_or (x ∷ xs) k d)
all_cons_at P x xs p h zero d b = p
all_cons_at P x xs p h (suc k) d b = h k d (omega arith)

pub all_cons : {X : Type 0} (P : X → Type 0) (x : X) (xs : List X) → P x → All P xs → All P (x ∷ xs)
all_cons P x xs p h = λ k d b. all_cons_at P x xs p h k d b

pub all_one : {X : Type 0} (P : X → Type 0) (x : X) → P x → All P (x ∷ [])
all_one P x p = all_cons P x [] p (λ k d b. absurd (omega arith))

pub all_none : {X : Type 0} (P : X → Type 0) (xs : List X) → xs ≡ [] → All P xs
all_none P xs e = subst (All P) (sym e) (λ k d b. absurd (omega arith))

pub all_last : {X : Type 0} (P : X → Type 0) (xs ys : List X) (x : X) → xs ≡ ys ++ x ∷ [] → All P xs → P x
all_last {X} P xs ys x e h =
    subst P (ap (λ (l : List X). get_or l (length ys) x) e ∙ get_or-append_seam ys x [] x) (h (length ys) x (omega (arith, ap length e, length-append ys (x ∷ []))))

pub all_front : {X : Type 0} (P : X → Type 0) (xs ys : List X) (x : X) → xs ≡ ys ++ x ∷ [] → All P xs → All P ys
all_front {X} P xs ys x e h = λ k d b.
    subst P (ap (λ (l : List X). get_or l k d) e ∙ get_or_append_left ys (x ∷ []) d k b) (h k d (omega (arith, ap length e, length-append ys (x ∷ []))))

-- ## Tests of two

pub or_first : (a b : Bool) → (a || b) ≡ false → a ≡ false
or_first true b e = e
or_first false b e = refl

pub or_second : (a b : Bool) → (a || b) ≡ false → b ≡ false
or_second true b e = absurd (false≢true (sym e))
or_second false b e = e

pub and_first : (a b : Bool) → (a && b) ≡ true → a ≡ true
and_first true b e = refl
and_first false b e = e

pub and_second : (a b : Bool) → (a && b) ≡ true → b ≡ true
and_second true b e = e
and_second false b e = absurd (false≢true e)

-- ## Places

pub first_map : {A B : Type 0} (p : B → Bool) (f : A → B) (xs : List A) → position_or_len p (map f xs) ≡ position_or_len (λ x. p (f x)) xs
first_map p f [] = refl
first_map p f (x ∷ xs) = rw (first_map p f xs) refl

pub place_map : {A B : Type 0} (p : B → Bool) (f : A → B) (xs : List A) → position p (map f xs) ≡ position (λ x. p (f x)) xs
place_map p f xs = λ i. cond (nat_lt (first_map p f xs i) (length-map xs f i)) (Some (first_map p f xs i)) None

pub any_map : {A B : Type 0} (p : B → Bool) (f : A → B) (xs : List A) → list_any p (map f xs) ≡ list_any (λ x. p (f x)) xs
any_map p f [] = refl
any_map p f (x ∷ xs) = ap (λ b. p (f x) || b) (any_map p f xs)

pub text_at_place : (names : List (List ℕ)) (name : List ℕ) (k : ℕ) → place_of names name ≡ Some k → text names k ≡ name
text_at_place names name k e = by (nat_lt (position_or_len (bytes_eq name) names) (length names)) refl e
  where
    by : (b : Bool) → nat_lt (position_or_len (bytes_eq name) names) (length names) ≡ b → cond b (Some (position_or_len (bytes_eq name) names)) None ≡ Some k → text names k ≡ name
    by true below is =
        let at : position_or_len (bytes_eq name) names ≡ k = cc in
        ap (text names) (sym at) ∙ sym ((bytes_decides name (get_or names (position_or_len (bytes_eq name) names) [])).0 (passes_at_first (bytes_eq name) names [] (grind (arith, nat_tests))))
    by false below is = cc

pub none_first : {A : Type 0} (p : A → Bool) (xs : List A) → position p xs ≡ None → length xs ≤ position_or_len p xs
none_first p xs e = by (nat_lt (position_or_len p xs) (length xs)) refl e
  where
    by : (b : Bool) → nat_lt (position_or_len p xs) (length xs) ≡ b → cond b (Some (position_or_len p xs)) None ≡ None → length xs ≤ position_or_len p xs
    by true below is = cc
    by false below is = grind (arith, nat_tests)

-- the first that passes, where none before it does
pub found_here : {A : Type 0} (p : A → Bool) (xs : List A) (k : ℕ) (d : A) → k < length xs → position p (take k xs) ≡ None → p (get_or xs k d) ≡ true → position p xs ≡ Some k
found_here p xs k d inside none here =
    let far : length (take k xs) ≤ position_or_len p (take k xs) = none_first p (take k xs) none in
    let long : length (take k xs) ≡ k = length-take-le k xs (omega arith) in
    let before : (j : ℕ) → j < k → p (get_or xs j d) ≡ false = λ j h. ap p (sym (get_or-take k xs j d h)) ∙ fails_before_first p (take k xs) j d (omega (arith, far, long, h)) in
    let at : position_or_len p xs ≡ k = position_or_len_is p xs k d (omega arith) before (λ _. here) in
    ap (λ n. cond (nat_lt n (length xs)) (Some n) None) at ∙ ap (λ (b : Bool). cond b (Some k) None) (lt-ltb k (length xs) inside)

pub empty_of : (xs : List ℕ) → (0 < length xs → ⊥) → xs ≡ []
empty_of [] h = refl
empty_of (x ∷ xs) h = absurd (h (omega arith))

pub place_below : (names : List (List ℕ)) (name : List ℕ) (k : ℕ) → place_of names name ≡ Some k → k < length names
place_below names name k e = by (nat_lt (position_or_len (bytes_eq name) names) (length names)) refl e
  where
    by : (b : Bool) → nat_lt (position_or_len (bytes_eq name) names) (length names) ≡ b → cond b (Some (position_or_len (bytes_eq name) names)) None ≡ Some k → k < length names
    by true below is =
        let at : position_or_len (bytes_eq name) names ≡ k = cc in
        grind (arith, nat_tests)
    by false below is = cc
