-- The last pair of a name in a list of pairs, and the places of a list's names.
use Rattle.std.proofs.Common.{◌≡◌, ℕ, Bool, true, false, cond, List, [], ◌∷◌, ◌++◌, map, refl, sym, ap, ◌∙◌, ◌⊎◌, inl, inr}
use Rattle.std.specs.Prelude.{Option, Some, None, filter, if◌then◌else◌}
use Rattle.std.specs.Option.{option_map, option_or}
use Rattle.std.specs.Char.{to_ascii_lowercase}
use Rattle.std.specs.Str.{bytes_eq, str_eq_ignore_ascii_case, str_to_ascii_lowercase}
use Rattle.std.specs.Cmp.Lexicographic.{bytes_decides}
use Rattle.std.proofs.lemmas.Option.{none-some, same_Some}
use Rattle.std.proofs.lemmas.Str.Ascii.{lowercase-lowercase}
use Rattle.cvc_base.specs.declared.param.Pair.{Pair}
use Rattle.cvc_card.specs.Parts.{last_of}
use Rattle.cvc_cdl.specs.Instances.{Instance}
use Rattle.cvc_params.specs.Params.{Scope, Inside, Use, given_in, on_card}
use Rattle.cvc_params.specs.Places.{Place, place_at}

-- ## In a list

abbrev pub Among : {X : Type 0} → X → List X → Type 0
Among x [] = ⊥
Among x (y ∷ ys) = (x ≡ y) ⊎ Among x ys

pub among_left : {X : Type 0} (x : X) (xs ys : List X) → Among x xs → Among x (xs ++ ys)
among_left x [] ys h = absurd h
among_left x (y ∷ xs) ys (inl e) = inl e
among_left x (y ∷ xs) ys (inr h) = inr (among_left x xs ys h)

pub among_right : {X : Type 0} (x : X) (xs ys : List X) → Among x ys → Among x (xs ++ ys)
among_right x [] ys h = h
among_right x (y ∷ xs) ys h = inr (among_right x xs ys h)

-- ## The last of a list that passes a test

last_some : {X : Type 0} (y : X) (ys : List X) (other : Option X) → last_of (y ∷ ys) ≡ option_or (last_of (y ∷ ys)) other
last_some y [] other = refl
last_some y (z ∷ ys) other = last_some z ys other

or_none : {X : Type 0} (o : Option X) → o ≡ option_or o None
or_none None = refl
or_none (Some x) = refl

pub last_step : {X : Type 0} (test : X → Bool) (x : X) (xs : List X)
    → last_of (filter test (x ∷ xs)) ≡ option_or (last_of (filter test xs)) (if test x then Some x else None)
last_step {X} test x xs = by (test x) (filter test xs)
  where
    by : (b : Bool) (ys : List X) → last_of (cond b (x ∷ ys) ys) ≡ option_or (last_of ys) (cond b (Some x) None)
    by true [] = refl
    by true (y ∷ ys) = last_some y ys (Some x)
    by false ys = or_none (last_of ys)

-- ## Names without regard to case

pub lower_twice : (name : List ℕ) → str_to_ascii_lowercase (str_to_ascii_lowercase name) ≡ str_to_ascii_lowercase name
lower_twice [] = refl
lower_twice (c ∷ cs) = let h : to_ascii_lowercase (to_ascii_lowercase c) ≡ to_ascii_lowercase c = lowercase-lowercase c in let t = lower_twice cs in λ i. h i ∷ t i

pub given_lower : (s : Scope) (pairs : List Pair) (name : List ℕ) → given_in s pairs (str_to_ascii_lowercase name) ≡ given_in s pairs name
given_lower s pairs name =
    ap (λ (low : List ℕ). option_map (λ (p : Pair). let u : Use = record { text = p.value; scope = s } in u) (last_of (filter (λ (p : Pair). bytes_eq low (str_to_ascii_lowercase p.name)) pairs))) (lower_twice name)

pub card_lower : (p : Instance) (name : List ℕ) → on_card p (str_to_ascii_lowercase name) ≡ on_card p name
card_lower [] name = refl
card_lower (x ∷ up) name = given_lower (Inside up) x.pairs name

-- ## The places of a list

abbrev pub places_of : List (List ℕ) → ℕ → List Pair → List Place
places_of within list pairs = map (λ (p : Pair). place_at within list p.name) pairs

abbrev pub last_given : List Pair → List ℕ → Option Pair
last_given pairs name = last_of (filter (λ (p : Pair). str_eq_ignore_ascii_case name p.name) pairs)

pub given_among : (within : List (List ℕ)) (list : ℕ) (pairs : List Pair) (name : List ℕ) (p : Pair) → last_given pairs name ≡ Some p
    → Among (place_at within list name) (places_of within list pairs)
given_among within list [] name p e = absurd (none-some p e)
given_among within list (q ∷ pairs) name p e =
    by (last_given pairs name) refl (str_eq_ignore_ascii_case name q.name) refl (sym (last_step (λ (r : Pair). str_eq_ignore_ascii_case name r.name) q pairs) ∙ e)
    (given_among within list pairs name)
  where
    by : (o : Option Pair) → last_given pairs name ≡ o → (b : Bool) → str_eq_ignore_ascii_case name q.name ≡ b → option_or o (cond b (Some q) None) ≡ Some p
        → ((r : Pair) → last_given pairs name ≡ Some r → Among (place_at within list name) (places_of within list pairs))
        → Among (place_at within list name) (places_of within list (q ∷ pairs))
    by (Some r) later b here e rest = inr (rest r later)
    by None later true here e rest =
        inl (ap (λ (low : List ℕ). let x : Place = record { within = within; list = list; name = low } in x)
        ((bytes_decides (str_to_ascii_lowercase name) (str_to_ascii_lowercase q.name)).0 here))
    by None later false here e rest = absurd (none-some p e)

-- what is given is resolved there, and stands in the list
pub given_scope : (s : Scope) (pairs : List Pair) (name : List ℕ) (u : Use) → given_in s pairs name ≡ Some u → u.scope ≡ s
given_scope s pairs name u e = by (last_given pairs name) e
  where
    by : (o : Option Pair) → option_map (λ (p : Pair). let v : Use = record { text = p.value; scope = s } in v) o ≡ Some u → u.scope ≡ s
    by None e = absurd (none-some u e)
    by (Some p) e = sym (ap (λ (v : Use). v.scope) (same_Some _ _ e))

pub given_place : (s : Scope) (within : List (List ℕ)) (list : ℕ) (pairs : List Pair) (name : List ℕ) (u : Use) → given_in s pairs name ≡ Some u
    → Among (place_at within list name) (places_of within list pairs)
given_place s within list pairs name u e = by (last_given pairs name) refl e
  where
    by : (o : Option Pair) → last_given pairs name ≡ o → option_map (λ (p : Pair). let v : Use = record { text = p.value; scope = s } in v) o ≡ Some u
        → Among (place_at within list name) (places_of within list pairs)
    by None q e = absurd (none-some u e)
    by (Some p) q e = given_among within list pairs name p q
