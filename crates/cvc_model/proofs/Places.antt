-- The places of the rows of a name, and the choice among them.
use Rattle.std.proofs.Common.{◌≡◌, ℕ, zero, suc, ◌+◌, ◌<◌, ◌≤◌, Bool, true, false, List, [], ◌∷◌, length, get_or, drop, slice_get, Option, Some, None, if◌then◌else◌, refl, sym, ap, subst, ◌∙◌, arith, add-one, drop-cons, drop_of_length-le}
use Rattle.std.proofs.Math.Seq.{drop-length}
use Rattle.std.proofs.lemmas.Option.{slice_get_within, slice_get_read, get_or_from_slice_get}
use Rattle.std.proofs.lemmas.Slice.Eq.{bytes_eq-Decides}
use Rattle.std.specs.Str.{bytes_eq}
use Rattle.cvc_base.specs.declared.param.Param.{Param}
use Rattle.cvc_model.specs.declared.models.Choice.TheVariants.{Nothing}
use Rattle.cvc_model.specs.declared.row.ModelRow.{ModelRow}
use Rattle.cvc_model.specs.Chosen.{outcome_of, choice_at, choice_from, first_from, next_place}

-- from an item on
pub drop_at : {A : Type 0} (xs : List A) (i : ℕ) (x : A) → slice_get xs i ≡ Some x → drop i xs ≡ x ∷ drop (i + 1) xs
drop_at xs i x e =
    let within : i < length xs = slice_get_within xs i x e in
    drop-cons xs i x within ∙ ap (λ y. y ∷ drop (suc i) xs) (get_or_from_slice_get xs i x x e) ∙ ap (λ n. x ∷ drop n xs) (sym (add-one i))

pub get_within : {A : Type 0} (xs : List A) (i : ℕ) → i < length xs → (x : A) × (slice_get xs i ≡ Some x)
get_within [] i h = absurd (omega arith)
get_within (x ∷ xs) zero h = (x, refl)
get_within (x ∷ xs) (suc i) h = get_within xs i (omega arith)

module _ (rows : List ModelRow) (name : List ℕ) where
  -- a row has the name, or the next one is further on
  pub next_place-at : (place : ℕ) (row : ModelRow) → slice_get rows place ≡ Some row
      → next_place rows name place ≡ (if bytes_eq name row.name then Some place else next_place rows name (place + 1))
  unfolding first_from
  next_place-at place row e = ap (first_from name place) (drop_at rows place row e)

  pub next_place-end : next_place rows name (length rows) ≡ None
  unfolding first_from
  next_place-end = ap (first_from name (length rows)) (drop-length rows)

  module _ (params : List Param) where
    choice_from-at : (place : ℕ) (row : ModelRow) → slice_get rows place ≡ Some row
        → choice_from params name place (drop place rows) ≡ (if bytes_eq name row.name
        then choice_at place (outcome_of row.tests params) (choice_from params name (place + 1) (drop (place + 1) rows)) else choice_from params name (place + 1) (drop (place + 1) rows))
    unfolding choice_from
    choice_from-at place row e = ap (choice_from params name place) (drop_at rows place row e)

    -- the row at the next place, and what it makes of the choice
    pub record IsNext (from place : ℕ) : Type 0 where
      pub row : ModelRow
      pub from_on : from ≤ place
      pub at : slice_get rows place ≡ Some row
      pub named : name ≡ row.name
      pub choice : choice_from params name from (drop from rows) ≡ choice_at place (outcome_of row.tests params) (choice_from params name (place + 1) (drop (place + 1) rows))

    abbrev pub AtNext : ℕ → Option ℕ → Type 0
    AtNext from None = choice_from params name from (drop from rows) ≡ Nothing
    AtNext from (Some place) = IsNext from place

    AtNext-earlier : (from : ℕ) (o : Option ℕ) → choice_from params name from (drop from rows) ≡ choice_from params name (from + 1) (drop (from + 1) rows) → AtNext (from + 1) o → AtNext from o
    AtNext-earlier from None e h = e ∙ h
    AtNext-earlier from (Some place) e h = record { row = h.row; from_on = omega (arith, h.from_on); at = h.at; named = h.named; choice = e ∙ h.choice }

    pub next_is : (left from : ℕ) → from + left ≡ length rows → AtNext from (next_place rows name from)
    unfolding choice_from first_from
    next_is zero from e =
        let end : from ≡ length rows = omega (arith, e) in
        let none : drop from rows ≡ [] = ap (λ n. drop n rows) end ∙ drop-length rows in
        subst (AtNext from) (sym (ap (first_from name from) none)) (ap (choice_from params name from) none)
    next_is (suc left) from e = by (bytes_eq name found.0.name) refl (next_is left (from + 1) (omega (arith, e)))
      where
        found : (row : ModelRow) × (slice_get rows from ≡ Some row)
        found = get_within rows from (omega (arith, e))

        by : (b : Bool) → bytes_eq name found.0.name ≡ b → AtNext (from + 1) (next_place rows name (from + 1)) → AtNext from (next_place rows name from)
        by true q later =
            subst (AtNext from) (sym (next_place-at from found.0 found.1 ∙ ap (λ b. if b then Some from else next_place rows name (from + 1)) q)) (record {
              row = found.0;
              from_on = omega arith;
              at = found.1;
              named = (bytes_eq-Decides name found.0.name).0 q;
              choice = choice_from-at from found.0 found.1
                  ∙ ap (λ b. if b then choice_at from (outcome_of found.0.tests params) (choice_from params name (from + 1) (drop (from + 1) rows)) else choice_from params name (from + 1) (drop (from + 1) rows)) q;
            })
        by false q later =
            subst (AtNext from) (sym (next_place-at from found.0 found.1 ∙ ap (λ b. if b then Some from else next_place rows name (from + 1)) q))
            (AtNext-earlier from (next_place rows name (from + 1))
            (choice_from-at from found.0 found.1
            ∙ ap (λ b. if b then choice_at from (outcome_of found.0.tests params) (choice_from params name (from + 1) (drop (from + 1) rows)) else choice_from params name (from + 1) (drop (from + 1) rows)) q)
            later)

  pub next_place-past : (place : ℕ) → length rows ≤ place → next_place rows name place ≡ None
  unfolding first_from
  next_place-past place past = ap (first_from name place) (drop_of_length-le _ past)

  -- what one comparison says
  pub next_place-read : (place : ℕ) (row : ModelRow) → place < length rows → row ≡ get_or rows place row → (b : Bool) → b ≡ bytes_eq name row.name
      → next_place rows name place ≡ (if b then Some place else next_place rows name (place + 1))
  next_place-read place row within at b e =
      next_place-at place row (slice_get_read rows (length rows) place row refl within at) ∙ ap (λ c. if c then Some place else next_place rows name (place + 1)) (sym e)
