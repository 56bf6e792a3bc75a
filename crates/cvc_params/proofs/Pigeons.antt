-- More places than a list has: one of them comes twice.
use Rattle.std.proofs.Common.{◌≡◌, suc, ◌≤◌, ◌<◌, ◌==◌, ◌&&◌, Bool, true, false, List, [], ◌∷◌, length, refl, sym, ap, ◌∙◌, inl, inr, arith}
use Rattle.std.specs.Str.{bytes_eq}
use Rattle.std.specs.List.{list_any}
use Rattle.std.specs.Cmp.Lexicographic.{bytes_decides}
use Rattle.std.proofs.lemmas.Bool.{and_from, and_parts, eq-eqb, eqb-true, false≢true, or_parts}
use Rattle.cvc_cdl.specs.Instances.{same_names}
use Rattle.cvc_cdl.proofs.SameNames.{names_same, names_true}
use Rattle.cvc_params.specs.Places.{Place, has_place_twice, same_place}
use Rattle.cvc_params.proofs.Each.{Each}
use Rattle.cvc_params.proofs.Givens.{Among}

pub place_true : (a b : Place) → same_place a b ≡ true → a ≡ b
place_true a b e =
    let both = and_parts ((a.list == b.list) && bytes_eq a.name b.name) (same_names a.within b.within) e in
    let front = and_parts (a.list == b.list) (bytes_eq a.name b.name) both.0 in
    let lists : a.list ≡ b.list = eqb-true a.list b.list front.0 in
    let names : a.name ≡ b.name = (bytes_decides a.name b.name).0 front.1 in
    let ways : a.within ≡ b.within = names_true a.within b.within both.1 in
    λ i. record { within = ways i; list = lists i; name = names i }

pub place_same : (a : Place) → same_place a a ≡ true
place_same a =
    and_from ((a.list == a.list) && bytes_eq a.name a.name) (same_names a.within a.within)
    (and_from (a.list == a.list) (bytes_eq a.name a.name) (eq-eqb a.list a.list refl) ((bytes_decides a.name a.name).1 refl))
    (names_same a.within)

-- the list without that one
without : (x : Place) (ys : List Place) → Among x ys → List Place
without x [] h = absurd h
without x (y ∷ ys) (inl e) = ys
without x (y ∷ ys) (inr h) = y ∷ without x ys h

without_length : (x : Place) (ys : List Place) (h : Among x ys) → length ys ≡ suc (length (without x ys h))
unfolding without
without_length x [] h = absurd h
without_length x (y ∷ ys) (inl e) = refl
without_length x (y ∷ ys) (inr h) = ap suc (without_length x ys h)

still_among : (x z : Place) (ys : List Place) (h : Among x ys) → (z ≡ x → ⊥) → Among z ys → Among z (without x ys h)
unfolding without
still_among x z [] h other a = absurd h
still_among x z (y ∷ ys) (inl e) other (inl d) = absurd (other (d ∙ sym e))
still_among x z (y ∷ ys) (inl e) other (inr a) = a
still_among x z (y ∷ ys) (inr h) other (inl d) = inl d
still_among x z (y ∷ ys) (inr h) other (inr a) = inr (still_among x z ys h other a)

each_still : (x : Place) (xs ys : List Place) (h : Among x ys) → list_any (same_place x) xs ≡ false → Each (λ z. Among z ys) xs → Each (λ z. Among z (without x ys h)) xs
each_still x [] ys h none all = tt
each_still x (z ∷ xs) ys h none all =
    let parts = or_parts (same_place x z) (list_any (same_place x) xs) none in
    (still_among x z ys h (λ same. false≢true (sym parts.0 ∙ ap (same_place x) same ∙ place_same x)) all.0, each_still x xs ys h parts.1 all.1)

pub few_places : (xs ys : List Place) → Each (λ z. Among z ys) xs → has_place_twice xs ≡ false → length xs ≤ length ys
few_places [] ys all once = omega arith
few_places (x ∷ xs) ys all once =
    let parts = or_parts (list_any (same_place x) xs) (has_place_twice xs) once in
    let rest : length xs ≤ length (without x ys all.0) = few_places xs (without x ys all.0) (each_still x xs ys all.0 parts.0 all.1) parts.1 in
    omega (arith, rest, without_length x ys all.0)

pub many_places : (xs ys : List Place) → Each (λ z. Among z ys) xs → length ys < length xs → has_place_twice xs ≡ true
many_places xs ys all more = by (has_place_twice xs) refl
  where
    by : (b : Bool) → has_place_twice xs ≡ b → has_place_twice xs ≡ true
    by true e = e
    by false e = absurd (omega (arith, few_places xs ys all e, more))
