-- Finding a key among words.
use Rattle.std.proofs.Common.{◌≡◌, Bool, true, false, cond, List, [], ◌∷◌, map, find, Option, Some, option_map, refl, ap, ◌∙◌}

-- the first of the words that passes is the word of the first key whose word passes
pub find-map : {A B : Type 0} (f : A → B) (p : B → Bool) (xs : List A) → find p (map f xs) ≡ option_map f (find (λ x. p (f x)) xs)
find-map f p [] = refl
find-map f p (x ∷ xs) = ap (cond (p (f x)) (Some (f x))) (find-map f p xs) ∙ either (p (f x)) (find (λ y. p (f y)) xs)
  where
    either : (b : Bool) (rest : Option _) → cond b (Some (f x)) (option_map f rest) ≡ option_map f (cond b (Some x) rest)
    either true rest = refl
    either false rest = refl
