-- The same names are equal lists.
use Rattle.std.proofs.Common.{◌≡◌, ℕ, ◌&&◌, Bool, true, false, List, [], ◌∷◌, refl}
use Rattle.std.specs.Str.{bytes_eq}
use Rattle.std.specs.Cmp.Lexicographic.{bytes_decides}
use Rattle.std.proofs.lemmas.Bool.{false≢true}
use Rattle.cvc_cdl.specs.Instances.{same_names}

pub names_true : (a b : List (List ℕ)) → same_names a b ≡ true → a ≡ b
names_true [] [] e = refl
names_true [] (y ∷ ys) e = absurd (false≢true e)
names_true (x ∷ xs) [] e = absurd (false≢true e)
names_true (x ∷ xs) (y ∷ ys) e = by (bytes_eq x y) refl e (names_true xs ys)
  where
    by : (b : Bool) → bytes_eq x y ≡ b → (b && same_names xs ys) ≡ true → (same_names xs ys ≡ true → xs ≡ ys) → x ∷ xs ≡ y ∷ ys
    by true same rest later = let h : x ≡ y = (bytes_decides x y).0 same in let t : xs ≡ ys = later rest in λ i. h i ∷ t i
    by false same rest later = absurd (false≢true rest)

pub names_same : (a : List (List ℕ)) → same_names a a ≡ true
names_same [] = refl
names_same (x ∷ xs) = by (bytes_eq x x) ((bytes_decides x x).1 refl) (names_same xs)
  where
    by : (b : Bool) → b ≡ true → same_names xs xs ≡ true → (b && same_names xs xs) ≡ true
    by true e r = r
    by false e r = absurd (false≢true e)
