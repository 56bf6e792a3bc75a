-- A table of nets: each stands there once, and is found by its hash.
use Rattle.std.proofs.Common.{◌≡◌, ℕ, ◌+◌, ◌*◌, ◌%◌, ◌^◌, ◌<◌, ◌≤◌, ◌⊎◌, Bool, true, false, cond, List, [], ◌∷◌, ◌++◌, length, get_or, Option, Some, None, refl, sym, ap, subst, ◌∙◌, length-append, arith, inl, inr}
use Rattle.std.specs.Prelude.{nat_lt, position, if◌then◌else◌}
use Rattle.std.specs.List.{list_any, position_or_len}
use Rattle.std.proofs.Math.Nat.{mod-add-mod}
use Rattle.std.proofs.Math.Seq.{get_or-append_seam}
use Rattle.std.proofs.lemmas.Bool.{cases_lt, lt-ltb}
use Rattle.std.proofs.lemmas.List.{get_or_append_left, length-map, map-append}
use Rattle.std.proofs.lemmas.List.Folds.{list_any_at, list_any_none}
use Rattle.std.proofs.lemmas.List.Quantifiers.{position-Some}
use Rattle.std.proofs.lemmas.List.Sums.{fails_before_first, position_or_len_is}
use Rattle.cvc_names.specs.Chains.{IsFound}
use Rattle.cvc_plan.specs.declared.rows.NetRow.{NetRow}
use Rattle.cvc_plan.proofs.Lists.{none_first}
use Rattle.cvc_flat.specs.NetRows.{IsNetTable, row_hash}
use Rattle.cvc_flat.specs.Resolving.{is_row}
use Rattle.cvc_flat.proofs.Hashed.{found_first, no_net, row_same}
use Rattle.cvc_flat.proofs.Numbered.{at_most, front_place, place_behind, row_itself}

-- ## The hash of a net

pub wrapped : (instance name : ℕ) → (instance * 2654435769 % 2 ^ 32 + name) % 2 ^ 32 ≡ (instance * 2654435769 + name) % 2 ^ 32
wrapped instance name = mod-add-mod (instance * 2654435769) (2 ^ 32) name

-- ## A net that is there, and one that isn't

module _ (rows : List NetRow) (row : NetRow) where
  module _ (place : ℕ) (is : position (is_row row) rows ≡ Some place) where
    pub at_first : place ≡ position_or_len (is_row row) rows
    at_first =
        let at = position-Some (is_row row) rows place no_net is in
        sym (position_or_len_is (is_row row) rows place no_net (omega (arith, at.0)) at.2 (λ _. at.1))

    pub rows_kept : rows ≡ (if list_any (is_row row) rows then rows else rows ++ row ∷ [])
    rows_kept =
        let at = position-Some (is_row row) rows place no_net is in
        ap (λ (b : Bool). if b then rows else rows ++ row ∷ []) (sym (list_any_at (is_row row) rows place no_net at.0 at.1))

  module _ (is : position (is_row row) rows ≡ None) where
    pub at_last : length rows ≡ position_or_len (is_row row) rows
    at_last = omega (arith, none_first (is_row row) rows is, at_most (is_row row) rows)

    pub rows_more : rows ++ row ∷ [] ≡ (if list_any (is_row row) rows then rows else rows ++ row ∷ [])
    rows_more =
        let never : list_any (is_row row) rows ≡ false = list_any_none (is_row row) rows (λ k d below. fails_before_first (is_row row) rows k d (omega (arith, below, at_last))) in
        ap (λ (b : Bool). if b then rows else rows ++ row ∷ []) (sym never)

-- ## A table

pub table_none : (rows : List NetRow) (hashes : List ℕ) → rows ≡ [] → hashes ≡ [] → IsNetTable rows hashes
table_none rows hashes no_rows no_hashes =
    let empty : IsNetTable [] [] = record { once = λ place d inside. absurd (omega arith); hashed = refl } in
    subst (λ (l : List NetRow). IsNetTable l hashes) (sym no_rows) (subst (IsNetTable []) (sym no_hashes) empty)

-- one net more
pub table_more : (rows : List NetRow) (hashes : List ℕ) (row : NetRow) (hash : ℕ) → IsNetTable rows hashes → hash ≡ row_hash row → position (is_row row) rows ≡ None
    → IsNetTable (rows ++ row ∷ []) (hashes ++ hash ∷ [])
table_more rows hashes row hash h is new = record {
  once = λ place d inside. by place d inside (cases_lt place (length rows));
  hashed = (λ i. h.hashed i ++ is i ∷ []) ∙ sym (map-append row_hash rows (row ∷ []));
}
  where
    more : List NetRow
    more = rows ++ row ∷ []

    by : (place : ℕ) (d : NetRow) → place < length more → (place < length rows) ⊎ (length rows ≤ place) → position_or_len (is_row (get_or more place d)) more ≡ place
    by place d inside (inl before) =
        let first : position_or_len (is_row (get_or rows place d)) rows ≡ place = h.once place d before in
        ap (λ (r : NetRow). position_or_len (is_row r) more) (get_or_append_left rows (row ∷ []) d place before)
        ∙ front_place (is_row (get_or rows place d)) rows (row ∷ []) (omega (arith, first, before)) ∙ first
    by place d inside (inr beyond) =
        let at : place ≡ length rows = omega (arith, inside, beyond, length-append rows (row ∷ [])) in
        let last : get_or more place d ≡ row = ap (λ (k : ℕ). get_or more k d) at ∙ get_or-append_seam rows row [] d in
        ap (λ (r : NetRow). position_or_len (is_row r) more) last ∙ place_behind (is_row row) row rows (row_itself row) ∙ sym (at ∙ at_last rows row new)

-- a net by its hash
pub found_row : (rows : List NetRow) (hashes : List ℕ) → IsNetTable rows hashes → (row : NetRow) (hash : ℕ) → hash ≡ row_hash row → (Passes : ℕ → Bool → Type 0)
    → ((k : ℕ) (b : Bool) → k < length rows → Passes k b → b ≡ is_row row (get_or rows k no_net)) → (found : Option ℕ) → IsFound hashes hash Passes found → found ≡ position (is_row row) rows
found_row rows hashes h row hash is Passes tells (Some k) f =
    let below : k < length rows = omega (arith, f.inside, ap length h.hashed, length-map rows row_hash) in
    let same : row ≡ get_or rows k no_net = row_same row (get_or rows k no_net) (sym (tells k true below f.passes)) in
    let at : position_or_len (is_row row) rows ≡ k = ap (λ (r : NetRow). position_or_len (is_row r) rows) same ∙ h.once k no_net below in
    sym (ap (λ n. cond (nat_lt n (length rows)) (Some n) None) at ∙ ap (λ (b : Bool). cond b (Some k) None) (lt-ltb k (length rows) below))
found_row rows hashes h row hash is Passes tells None f =
    found_first (is_row row) row_hash rows no_net hashes hash Passes None h.hashed (λ r same. ap row_hash (sym (row_same row r same)) ∙ sym is) tells
    (record { inside = f.inside; passes = f.passes; before = f.none })
