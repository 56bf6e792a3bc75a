-- Names by their places: in the keys of a set, and in a list of names that are apart.
use Rattle.std.proofs.Common.{◌≡◌, ℕ, ◌+◌, ◌<◌, ◌≤◌, ◌||◌, ◌⊎◌, Bool, true, false, cond, List, [], ◌∷◌, ◌++◌, length, map, get_or, Option, Some, None, refl, sym, ap, ◌∙◌, arith, inl, inr}
use Rattle.std.specs.Prelude.{is_some, nat_lt, position, if◌then◌else◌}
use Rattle.std.specs.List.{list_any, position_or_len}
use Rattle.std.specs.Str.{bytes_eq}
use Rattle.std.specs.Cmp.Lexicographic.{bytes_decides}
use Rattle.std.proofs.lemmas.Bool.{cases_lt, false≢true}
use Rattle.std.proofs.lemmas.Bool.Decides.{nat_tests}
use Rattle.std.proofs.Math.Seq.{get_or-append_seam}
use Rattle.std.proofs.lemmas.List.{get_or_append_left, get_or-map, length-append, length-map}
use Rattle.std.proofs.lemmas.List.Folds.{list_any_at, list_any_none}
use Rattle.std.proofs.lemmas.List.Quantifiers.{position-Some}
use Rattle.std.proofs.lemmas.List.Sums.{fails_before_first, position_or_len_is}
use Rattle.cvc_names.specs.Chains.{IsFound, text_hash}
use Rattle.cvc_names.specs.Names.{AreApart, is_among, name_at, place_of, with_name}

-- a test of what each item holds
pub any_map : {A B : Type 0} (p : B → Bool) (f : A → B) (xs : List A) → list_any p (map f xs) ≡ list_any (λ x. p (f x)) xs
any_map p f [] = refl
any_map p f (x ∷ xs) = ap (λ b. p (f x) || b) (any_map p f xs)

first_map : {A B : Type 0} (p : B → Bool) (f : A → B) (xs : List A) → position_or_len p (map f xs) ≡ position_or_len (λ x. p (f x)) xs
first_map p f [] = refl
first_map p f (x ∷ xs) = rw (first_map p f xs) refl

pub place_map : {A B : Type 0} (p : B → Bool) (f : A → B) (xs : List A) → position p (map f xs) ≡ position (λ x. p (f x)) xs
place_map p f xs = λ i. cond (nat_lt (first_map p f xs i) (length-map xs f i)) (Some (first_map p f xs i)) None

-- the keys of a table with these names
module _ {K : Type 0} (f : K → List ℕ) (keys : List K) (names : List (List ℕ)) (is : map f keys ≡ names) where
  pub among : (name : List ℕ) → list_any (λ k. bytes_eq name (f k)) keys ≡ is_among names name
  among name = sym (any_map (bytes_eq name) f keys) ∙ ap (λ ns. is_among ns name) is

  pub place : (name : List ℕ) → position (λ k. bytes_eq name (f k)) keys ≡ place_of names name
  place name = sym (place_map (bytes_eq name) f keys) ∙ ap (λ ns. place_of ns name) is

-- ## The place of a name

refuted : (b : Bool) → (b ≡ true → ⊥) → b ≡ false
refuted true never = absurd (never refl)
refuted false never = refl

module _ (p : List ℕ → Bool) (names : List (List ℕ)) where
  abbrev PassesAt : ℕ → Bool → Type 0
  PassesAt k b = p (name_at names k) ≡ b

  place_is : (k : ℕ) → k < length names → PassesAt k true → ((j : ℕ) → j < k → PassesAt j false) → position p names ≡ Some k
  place_is k below here before =
      let first : position_or_len p names ≡ k = position_or_len_is p names k [] (omega arith) before (λ _. here) in
      let test : nat_lt k (length names) ≡ true = grind (arith, nat_tests) in
      ap (λ n. cond (nat_lt n (length names)) (Some n) None) first ∙ ap (λ (b : Bool). cond b (Some k) None) test

  no_place : ((j : ℕ) → j < length names → PassesAt j false) → position p names ≡ None
  no_place none =
      let first : position_or_len p names ≡ length names = position_or_len_is p names (length names) [] (omega arith) none (λ below. absurd (omega arith)) in
      let test : nat_lt (length names) (length names) ≡ false = grind (arith, nat_tests) in
      ap (λ n. cond (nat_lt n (length names)) (Some n) None) first ∙ ap (λ (b : Bool). cond b (Some (length names)) None) test

  none_passes : position p names ≡ None → (k : ℕ) (d : List ℕ) → k < length names → p (get_or names k d) ≡ false
  none_passes e k d below = by (nat_lt (position_or_len p names) (length names)) refl e
    where
      by : (b : Bool) → nat_lt (position_or_len p names) (length names) ≡ b → cond b (Some (position_or_len p names)) None ≡ None → p (get_or names k d) ≡ false
      by true test is = cc
      by false test is = fails_before_first p names k d (grind (arith, nat_tests))

-- ## A name that is there, and one that isn't

module _ (names : List (List ℕ)) (name : List ℕ) where
  module _ (k : ℕ) (is : place_of names name ≡ Some k) where
    pub name_at_place : name_at names k ≡ name
    name_at_place = sym ((bytes_decides name (name_at names k)).0 (position-Some (bytes_eq name) names k [] is).1)

    pub among_at_place : is_among names name ≡ true
    among_at_place = list_any_at (bytes_eq name) names k [] (position-Some (bytes_eq name) names k [] is).0 (position-Some (bytes_eq name) names k [] is).1

    pub names_kept : names ≡ with_name names name
    names_kept = ap (λ (b : Bool). if b then names else names ++ name ∷ []) (sym among_at_place)

  module _ (is : place_of names name ≡ None) where
    pub not_among : is_among names name ≡ false
    not_among = list_any_none (bytes_eq name) names (none_passes (bytes_eq name) names is)

    pub names_more : names ++ name ∷ [] ≡ with_name names name
    names_more = ap (λ (b : Bool). if b then names else names ++ name ∷ []) (sym not_among)

    not_at : (k : ℕ) → k < length names → name_at names k ≡ name → ⊥
    not_at k below same = false≢true (sym (none_passes (bytes_eq name) names is k [] below) ∙ (bytes_decides name (name_at names k)).1 (sym same))

    pub apart_more : AreApart names → AreApart (names ++ name ∷ [])
    apart_more apart i j i_below j_below same = by (cases_lt i (length names)) (cases_lt j (length names))
      where
        count : length (names ++ name ∷ []) ≡ length names + 1
        count = length-append names (name ∷ [])

        earlier : (k : ℕ) → k < length names → name_at (names ++ name ∷ []) k ≡ name_at names k
        earlier k below = get_or_append_left names (name ∷ []) [] k below

        last : (k : ℕ) → length names ≤ k → k < length (names ++ name ∷ []) → k ≡ length names
        last k beyond below = omega (arith, count)

        new : (k : ℕ) → k ≡ length names → name_at (names ++ name ∷ []) k ≡ name
        new k at = ap (name_at (names ++ name ∷ [])) at ∙ get_or-append_seam names name [] []

        by : (i < length names) ⊎ (length names ≤ i) → (j < length names) ⊎ (length names ≤ j) → i ≡ j
        by (inl a) (inl b) = apart i j a b (sym (earlier i a) ∙ same ∙ earlier j b)
        by (inl a) (inr b) = absurd (not_at i a (sym (earlier i a) ∙ same ∙ new j (last j b j_below)))
        by (inr a) (inl b) = absurd (not_at j b (sym (earlier j b) ∙ sym same ∙ new i (last i a i_below)))
        by (inr a) (inr b) = last i a i_below ∙ sym (last j b j_below)

pub none_there : (names : List (List ℕ)) (name : List ℕ) → length names ≡ 0 → place_of names name ≡ None
none_there names name none = no_place (bytes_eq name) names (λ j below. absurd (omega arith))

pub among_is : (names : List (List ℕ)) (name : List ℕ) → is_among names name ≡ is_some (place_of names name)
among_is names name = by (place_of names name) refl
  where
    by : (found : Option ℕ) → place_of names name ≡ found → is_among names name ≡ is_some found
    by (Some k) is = among_at_place names name k is
    by None is = not_among names name is

-- ## A name by its hash

module _ (names : List (List ℕ)) (hashes : List ℕ) (hashed : hashes ≡ map text_hash names) (name : List ℕ) (Passes : ℕ → Bool → Type 0) (tells : (k : ℕ) (b : Bool) → k < length names → Passes k b → b ≡ bytes_eq (name_at names k) name) (hash : ℕ) (is : hash ≡ text_hash name) where
  count : length hashes ≡ length names
  count = ap length hashed ∙ length-map names text_hash

  hash_is : (k : ℕ) → k < length names → get_or hashes k 0 ≡ text_hash (name_at names k)
  hash_is k below = ap (λ (l : List ℕ). get_or l k 0) hashed ∙ get_or-map text_hash names k [] 0 below

  differs : (k : ℕ) → (name_at names k ≡ name → ⊥) → bytes_eq name (name_at names k) ≡ false
  differs k never = refuted (bytes_eq name (name_at names k)) (λ same. never (sym ((bytes_decides name (name_at names k)).0 same)))

  found_name : (k : ℕ) → IsFound hashes hash Passes (Some k) → (k < length names) × (name_at names k ≡ name)
  found_name k h =
      let below : k < length names = omega (arith, h.inside, count) in
      (below, (bytes_decides (name_at names k) name).0 (sym (tells k true below h.passes)))

  nowhere : IsFound hashes hash Passes None → place_of names name ≡ None
  nowhere h =
      no_place (bytes_eq name) names (λ j below. differs j (λ same.
      let fails : false ≡ bytes_eq (name_at names j) name = tells j false below (h.none j (omega (arith, count)) (hash_is j below ∙ ap text_hash same ∙ sym is)) in
      false≢true (fails ∙ (bytes_decides (name_at names j) name).1 same)))

  pub found_among : (found : Option ℕ) → IsFound hashes hash Passes found → is_some found ≡ is_among names name
  found_among (Some k) h =
      let at = found_name k h in
      sym (list_any_at (bytes_eq name) names k [] at.0 ((bytes_decides name (name_at names k)).1 (sym at.1)))
  found_among None h = sym (not_among names name (nowhere h))

  pub found_place : AreApart names → (found : Option ℕ) → IsFound hashes hash Passes found → found ≡ place_of names name
  found_place apart (Some k) h =
      let at = found_name k h in
      sym (place_is (bytes_eq name) names k at.0 ((bytes_decides name (name_at names k)).1 (sym at.1)) (λ j before. differs j (λ same. let e : j ≡ k = apart j k (omega (arith, at.0)) at.0 (same ∙ sym at.1) in omega arith)))
  found_place apart None h = sym (nowhere h)
