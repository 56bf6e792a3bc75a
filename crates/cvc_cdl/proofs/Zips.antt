-- Two lists that go together, item by item.
use Rattle.std.proofs.Common.{◌≡◌, ℕ, zero, suc, ◌+◌, ◌<◌, List, [], ◌∷◌, ◌++◌, length, get_or, take, refl, sym, ap, subst, ◌∙◌, arith}
use Rattle.std.specs.List.{AllZip}
use Rattle.std.proofs.lemmas.List.{take_more}

pub zip_at : {A B : Type 0} (R : A → B → Type 0) (xs : List A) (ys : List B) (i : ℕ) (d : A) (e : B) → AllZip R xs ys → i < length xs → R (get_or xs i d) (get_or ys i e)
zip_at R [] ys i d e z h = absurd (omega arith)
zip_at R (x ∷ xs) [] i d e z h = absurd z
zip_at R (x ∷ xs) (y ∷ ys) zero d e z h = z.0
zip_at R (x ∷ xs) (y ∷ ys) (suc i) d e z h = zip_at R xs ys i d e z.1 (omega arith)

pub zip_length : {A B : Type 0} (R : A → B → Type 0) (xs : List A) (ys : List B) → AllZip R xs ys → length ys ≡ length xs
zip_length R [] [] z = refl
zip_length R [] (y ∷ ys) z = absurd z
zip_length R (x ∷ xs) [] z = absurd z
zip_length R (x ∷ xs) (y ∷ ys) z = ap suc (zip_length R xs ys z.1)

pub zip_map : {A B : Type 0} (P Q : A → B → Type 0) (xs : List A) (ys : List B) → ((x : A) (y : B) → P x y → Q x y) → AllZip P xs ys → AllZip Q xs ys
zip_map P Q [] [] f z = tt
zip_map P Q [] (y ∷ ys) f z = absurd z
zip_map P Q (x ∷ xs) [] f z = absurd z
zip_map P Q (x ∷ xs) (y ∷ ys) f z = (f x y z.0, zip_map P Q xs ys f z.1)

pub zip_push : {A B : Type 0} (R : A → B → Type 0) (xs : List A) (ys : List B) (x : A) (y : B) → AllZip R xs ys → R x y → AllZip R (xs ++ x ∷ []) (ys ++ y ∷ [])
zip_push R [] [] x y z r = (r, tt)
zip_push R [] (b ∷ ys) x y z r = absurd z
zip_push R (a ∷ xs) [] x y z r = absurd z
zip_push R (a ∷ xs) (b ∷ ys) x y z r = (z.0, zip_push R xs ys x y z.1 r)

-- one more of two lists, of which the first is known
pub zip_more : {A B : Type 0} (R : A → B → Type 0) (xs : List A) (i : ℕ) (x : A) (old new : List B) (y : B) → i < length xs → x ≡ get_or xs i x → new ≡ old ++ y ∷ []
    → AllZip R (take i xs) old → R x y → AllZip R (take (i + 1) xs) new
zip_more R xs i x old new y h e is z r =
    subst (λ l. AllZip R l new) (sym (take_more xs i x h ∙ ap (λ a. take i xs ++ a ∷ []) (sym e)))
    (subst (AllZip R (take i xs ++ x ∷ [])) (sym is) (zip_push R (take i xs) old x y z r))
