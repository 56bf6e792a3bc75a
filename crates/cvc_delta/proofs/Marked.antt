-- What is put into a set of names, and taken out of it.
use Rattle.std.proofs.Common.{◌≡◌, ℕ, ◌+◌, ◌<◌, ◌==◌, ◌||◌, ◌&&◌, not, Bool, true, false, cond, List, [], ◌∷◌, ◌++◌, length, Option, Some, None, refl, sym, ap, ◌∙◌, arith, length-append}
use Rattle.std.specs.Prelude.{nat_eq, nat_lt, position, slice_index_or, if◌then◌else◌}
use Rattle.std.specs.List.{position_or_len}
use Rattle.std.specs.Str.{bytes_eq}
use Rattle.std.specs.Cmp.Lexicographic.{bytes_decides}
use Rattle.std.proofs.lemmas.Bool.{false≢true}
use Rattle.std.proofs.lemmas.Bool.Decides.{nat_tests}
use Rattle.std.proofs.lemmas.List.Folds.{list_any_at, position_or_len_push}
use Rattle.std.proofs.lemmas.List.Quantifiers.{position-Some}
use Rattle.cvc_names.specs.Names.{AreApart, is_among, name_at, place_of, with_name}
use Rattle.cvc_names.proofs.Tables.{name_at_place, not_among}
use Rattle.cvc_delta.specs.Left.{is_marked}

-- ## Places

one_more : (n m n' m' : ℕ) → m' ≡ m + 1 → n' ≡ cond (nat_eq n m) (m + 1) n → cond (nat_lt n' m') (Some n') None ≡ cond (nat_lt n m) (Some n) None
one_more n m n' m' size is = by (nat_eq n m) refl is
  where
    by : (b : Bool) → nat_eq n m ≡ b → n' ≡ cond b (m + 1) n → cond (nat_lt n' m') (Some n') None ≡ cond (nat_lt n m) (Some n) None
    by true e i =
        let past : nat_lt n' m' ≡ false = grind (arith, nat_tests) in
        let also : nat_lt n m ≡ false = grind (arith, nat_tests) in
        ap (λ b. cond b (Some n') None) past ∙ sym (ap (λ b. cond b (Some n) None) also)
    by false e i =
        let same : nat_lt n m' ≡ nat_lt n m = grind (arith, nat_tests) in
        (λ j. cond (nat_lt (i j) m') (Some (i j)) None) ∙ ap (λ b. cond b (Some n) None) same

position_push : (p : List ℕ → Bool) (xs : List (List ℕ)) (y : List ℕ) → p y ≡ false → position p (xs ++ y ∷ []) ≡ position p xs
position_push p xs y fails =
    one_more (position_or_len p xs) (length xs) (position_or_len p (xs ++ y ∷ [])) (length (xs ++ y ∷ [])) (length-append xs (y ∷ []))
    (position_or_len_push p xs y ∙ ap (λ b. cond (nat_eq (position_or_len p xs) (length xs)) (length xs + cond b 0 1) (position_or_len p xs)) fails)

place_with : (names : List (List ℕ)) (name other : List ℕ) → bytes_eq other name ≡ false → place_of (with_name names name) other ≡ place_of names other
place_with names name other differs = by (is_among names name)
  where
    by : (b : Bool) → place_of (if b then names else names ++ name ∷ []) other ≡ place_of names other
    by true = refl
    by false = position_push (bytes_eq other) names name differs

module _ (names : List (List ℕ)) (apart : AreApart names) (name : List ℕ) (k : ℕ) (below : k < length names) (at : name_at names k ≡ name) where
  pub place_at : place_of names name ≡ Some k
  place_at = by (place_of names name) refl
    where
      by : (o : Option ℕ) → place_of names name ≡ o → place_of names name ≡ Some k
      by (Some j) is = is ∙ ap Some (apart j k (position-Some (bytes_eq name) names j [] is).0 below (name_at_place names name j is ∙ sym at))
      by None is = absurd (false≢true (sym (not_among names name is) ∙ list_any_at (bytes_eq name) names k [] below ((bytes_decides name (name_at names k)).1 (sym at))))

-- another name has another place
elsewhere : (names : List (List ℕ)) (name other : List ℕ) (k : ℕ) → name_at names k ≡ name → bytes_eq other name ≡ false → (j : ℕ) → place_of names other ≡ Some j → nat_eq j k ≡ false
elsewhere names name other k at differs j is = by (nat_eq j k) refl
  where
    by : (b : Bool) → nat_eq j k ≡ b → nat_eq j k ≡ false
    by false e = e
    by true e =
        let same : j ≡ k = grind (arith, nat_tests) in
        let one : other ≡ name = sym (name_at_place names other j is) ∙ ap (name_at names) same ∙ at in
        absurd (false≢true (sym differs ∙ (bytes_decides other name).1 one))

itself : (k : ℕ) → nat_eq k k ≡ true
itself k = grind (arith, nat_tests)

-- ## A set

module _ (names names' : List (List ℕ)) (marks marks' : List Bool) (name : List ℕ) (k : ℕ) (are : names' ≡ with_name names name) (apart : AreApart names') (below : k < length names') (at : name_at names' k ≡ name)
    (marked : (j : ℕ) → j < length names' → slice_index_or marks' j false ≡ ((j == k) || slice_index_or marks j false)) where
  pub inserted : (other : List ℕ) → is_marked marks' (place_of names' other) ≡ (bytes_eq other name || is_marked marks (place_of names other))
  inserted other = by (bytes_eq other name) refl
    where
      by : (b : Bool) → bytes_eq other name ≡ b → is_marked marks' (place_of names' other) ≡ (b || is_marked marks (place_of names other))
      by true e =
          let same : other ≡ name = (bytes_decides other name).0 e in
          ap (is_marked marks') (ap (place_of names') same ∙ place_at names' apart name k below at) ∙ marked k below ∙ ap (λ b. b || slice_index_or marks k false) (itself k)
      by false e = one (place_of names' other) refl ∙ ap (is_marked marks) ((λ i. place_of (are i) other) ∙ place_with names name other e)
        where
          one : (o : Option ℕ) → place_of names' other ≡ o → is_marked marks' o ≡ is_marked marks o
          one None is = refl
          one (Some j) is = marked j (position-Some (bytes_eq other) names' j [] is).0 ∙ ap (λ b. b || slice_index_or marks j false) (elsewhere names' name other k at e j is)

module _ (names : List (List ℕ)) (marks marks' : List Bool) (name : List ℕ) (k : ℕ) (found : place_of names name ≡ Some k)
    (left : (j : ℕ) → slice_index_or marks' j false ≡ (not (j == k) && slice_index_or marks j false)) where
  pub removed : (other : List ℕ) → is_marked marks' (place_of names other) ≡ (not (bytes_eq other name) && is_marked marks (place_of names other))
  removed other = by (bytes_eq other name) refl
    where
      by : (b : Bool) → bytes_eq other name ≡ b → is_marked marks' (place_of names other) ≡ (not b && is_marked marks (place_of names other))
      by true e = ap (is_marked marks') (ap (place_of names) ((bytes_decides other name).0 e) ∙ found) ∙ left k ∙ ap (λ b. not b && slice_index_or marks k false) (itself k)
      by false e = one (place_of names other) refl
        where
          one : (o : Option ℕ) → place_of names other ≡ o → is_marked marks' o ≡ is_marked marks o
          one None is = refl
          one (Some j) is = left j ∙ ap (λ b. not b && slice_index_or marks j false) (elsewhere names name other k (name_at_place names name k found) e j is)
