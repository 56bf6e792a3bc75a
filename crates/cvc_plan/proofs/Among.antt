-- Names among others, by their numbers.
use Rattle.std.proofs.Common.{◌≡◌, ℕ, zero, suc, ◌<◌, ◌≤◌, ◌==◌, ◌||◌, Bool, true, false, List, [], ◌∷◌, length, take, get_or, refl, sym, ap, subst, ◌∙◌, arith, ltb}
use Rattle.std.specs.Str.{bytes_eq}
use Rattle.std.specs.Cmp.Lexicographic.{bytes_decides}
use Rattle.std.proofs.lemmas.Bool.{eq-eqb, eqb-true, lt-ltb, ltb-true, false≢true}
use Rattle.std.proofs.lemmas.List.{get_or-take, length-take-le}
use Rattle.cvc_names.specs.Names.{AreApart}
use Rattle.cvc_cdl.specs.Building.{is_among}
use Rattle.cvc_plan.specs.Parts.{text}

pub bool_same : (a b : Bool) → (a ≡ true → b ≡ true) → (b ≡ true → a ≡ true) → a ≡ b
bool_same true b f g = sym (f refl)
bool_same false true f g = g refl
bool_same false false f g = refl

pub same_text : (names : List (List ℕ)) → AreApart names → (i j : ℕ) → i < length names → j < length names → bytes_eq (text names i) (text names j) ≡ (i == j)
same_text names apart i j a b =
    bool_same (bytes_eq (text names i) (text names j)) (i == j)
    (λ e. eq-eqb i j (apart i j a b ((bytes_decides (text names i) (text names j)).0 e)))
    (λ e. (bytes_decides (text names i) (text names j)).1 (ap (text names) (eqb-true i j e)))

pub among_place : (xs : List (List ℕ)) (t : List ℕ) → is_among xs t ≡ true → (i : ℕ) × (i < length xs) × (t ≡ get_or xs i [])
among_place [] t e = absurd (false≢true e)
among_place (x ∷ xs) t e = by (bytes_eq t x) refl e (among_place xs t)
  where
    by : (b : Bool) → bytes_eq t x ≡ b → (b || is_among xs t) ≡ true → (is_among xs t ≡ true → (i : ℕ) × (i < length xs) × (t ≡ get_or xs i []))
        → (i : ℕ) × (i < suc (length xs)) × (t ≡ get_or (x ∷ xs) i [])
    by true same h later = let first : 0 < suc (length xs) = omega arith in (0, first, (bytes_decides t x).0 same)
    by false same h later = let w = later h in let z : suc w.0 < suc (length xs) = omega (arith, w.1) in (suc w.0, z, w.2)

pub place_among : (xs : List (List ℕ)) (t : List ℕ) (i : ℕ) → i < length xs → t ≡ get_or xs i [] → is_among xs t ≡ true
place_among [] t i h e = absurd (omega arith)
place_among (x ∷ xs) t zero h e = ap (λ b. b || is_among xs t) ((bytes_decides t x).1 e)
place_among (x ∷ xs) t (suc i) h e = by (bytes_eq t x) (place_among xs t i (omega arith) e)
  where
    by : (b : Bool) → is_among xs t ≡ true → (b || is_among xs t) ≡ true
    by true r = refl
    by false r = r

-- the global names are the first
pub global_is : (names : List (List ℕ)) (g k : ℕ) → AreApart names → g ≤ length names → k < length names → is_among (take g names) (text names k) ≡ ltb k g
global_is names g k apart inside h =
    bool_same (is_among (take g names) (text names k)) (ltb k g)
    (λ e. let w = among_place (take g names) (text names k) e in
    let below : w.0 < g = subst (λ n. w.0 < n) (length-take-le g names inside) w.1 in
    lt-ltb k g (subst (λ n. n < g) (sym (apart k w.0 h (omega (arith, below)) (w.2 ∙ get_or-take g names w.0 [] below))) below))
    (λ e. let below : k < g = ltb-true k g e in
    place_among (take g names) (text names k) k (subst (λ n. k < n) (sym (length-take-le g names inside)) below) (sym (get_or-take g names k [] below)))
