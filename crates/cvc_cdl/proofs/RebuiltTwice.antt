-- Names that stand twice, at lists in two parts.
use Rattle.std.proofs.Common.{◌≡◌, ℕ, List, [], ◌∷◌, ◌++◌, map, Bool, false, ◌||◌, Some, None, bytes_eq, All, get_or, refl, sym, ap, ◌∙◌, inl, inr}
use Rattle.std.specs.List.{list_any, find}
use Rattle.std.specs.Cmp.Lexicographic.{nat_list_eq_equiv}
use Rattle.std.proofs.lemmas.Bool.{cases_Bool, or_parts, or_from}
use Rattle.std.proofs.lemmas.List.Folds.{list_any-append}
use Rattle.std.proofs.lemmas.List.Elements.{All-nil, All-cons}
use Rattle.cvc_card.specs.Card.{has_twice}

-- a name among those before is none of those behind
pub not_before : (xs ys : List (List ℕ)) (y : List ℕ) → has_twice (xs ++ y ∷ ys) ≡ false → list_any (bytes_eq y) xs ≡ false
not_before [] ys y h = refl
not_before (x ∷ xs) ys y h =
    let parts = or_parts (list_any (bytes_eq x) (xs ++ y ∷ ys)) (has_twice (xs ++ y ∷ ys)) h in
    let later = or_parts (list_any (bytes_eq x) xs) (bytes_eq x y || list_any (bytes_eq x) ys) (sym (list_any-append (bytes_eq x) xs (y ∷ ys)) ∙ parts.0) in
    let here = or_parts (bytes_eq x y) (list_any (bytes_eq x) ys) later.1 in
    or_from (bytes_eq y x) (list_any (bytes_eq y) xs) (nat_list_eq_equiv.symm y x ∙ here.0) (not_before xs ys y parts.1)

pub push_once : (xs : List (List ℕ)) (x : List ℕ) → has_twice xs ≡ false → list_any (bytes_eq x) xs ≡ false → has_twice (xs ++ x ∷ []) ≡ false
push_once [] x h new = refl
push_once (y ∷ xs) x h new =
    let parts = or_parts (list_any (bytes_eq y) xs) (has_twice xs) h in
    let news = or_parts (bytes_eq x y) (list_any (bytes_eq x) xs) new in
    let other : list_any (bytes_eq y) (x ∷ []) ≡ false = or_from (bytes_eq y x) false (nat_list_eq_equiv.symm y x ∙ news.0) refl in
    or_from (list_any (bytes_eq y) (xs ++ x ∷ [])) (has_twice (xs ++ x ∷ []))
    (list_any-append (bytes_eq y) xs (x ∷ []) ∙ or_from (list_any (bytes_eq y) xs) (list_any (bytes_eq y) (x ∷ [])) parts.0 other)
    (push_once xs x parts.1 news.1)

-- ## Tests that no element passes

pub any_none : {X : Type 0} (p : X → Bool) (xs : List X) → list_any p xs ≡ false → All (λ (x : X). p x ≡ false) xs
any_none {X} p [] h = All-nil (λ (x : X). p x ≡ false)
any_none {X} p (x ∷ xs) h =
    let parts = or_parts (p x) (list_any p xs) h in
    All-cons (λ (y : X). p y ≡ false) x xs parts.0 (any_none p xs parts.1)

-- what two facts on each element give
pub All-both : {X : Type 0} (P Q R : X → Type 0) → ((x : X) → P x → Q x → R x) → (xs : List X) → All P xs → All Q xs → All R xs
All-both P Q R f xs p q = λ k d l. f (get_or xs k d) (p k d l) (q k d l)

pub any-map : {X Y : Type 0} (p : Y → Bool) (f : X → Y) (xs : List X) → list_any p (map f xs) ≡ list_any (λ (x : X). p (f x)) xs
any-map p f [] = refl
any-map p f (x ∷ xs) = ap (λ (b : Bool). p (f x) || b) (any-map p f xs)

pub any_same : {X : Type 0} (p q : X → Bool) → ((x : X) → p x ≡ q x) → (xs : List X) → list_any p xs ≡ list_any q xs
any_same p q same [] = refl
any_same p q same (x ∷ xs) = rw (same x, any_same p q same xs) refl

pub find_none : {X : Type 0} (p : X → Bool) (xs : List X) → find p xs ≡ None → All (λ (x : X). p x ≡ false) xs
find_none {X} p [] h = All-nil (λ (x : X). p x ≡ false)
find_none {X} p (x ∷ xs) h = elim (cases_Bool (p x)) [
  | inl passes ↦ let none : Some x ≡ None = rw passes at h in absurd cc
  | inr fails ↦ All-cons (λ (y : X). p y ≡ false) x xs fails (find_none p xs (rw fails at h))
]

pub none_found : {X : Type 0} (p : X → Bool) (xs : List X) → list_any p xs ≡ false → find p xs ≡ None
none_found p [] h = refl
none_found p (x ∷ xs) h =
    let parts = or_parts (p x) (list_any p xs) h in
    rw parts.0 (none_found p xs parts.1)

pub map-map : {X Y Z : Type 0} (f : Y → Z) (g : X → Y) (xs : List X) → map f (map g xs) ≡ map (λ (x : X). f (g x)) xs
map-map f g [] = refl
map-map f g (x ∷ xs) = ap (λ (ys : List _). f (g x) ∷ ys) (map-map f g xs)
