-- The walk of a choice from one row of the name to the next.
use Rattle.std.proofs.Common.{◌≡◌, ℕ, ◌+◌, ◌-◌, ◌<◌, ◌≤◌, List, length, get_or, drop, slice_get, Option, Some, None, sym, ap, subst, ◌∙◌, arith}
use Rattle.std.proofs.lemmas.Option.{slice_get_within, get_or_from_slice_get}
use Rattle.std.specs.Option.{option_map_or}
use Rattle.cvc_base.specs.declared.param.Param.{Param}
use Rattle.cvc_model.specs.declared.choosing.Outcome.{Outcome}
use Rattle.cvc_model.specs.declared.index.Index.{Index}
use Rattle.cvc_model.specs.declared.models.Choice.TheVariants.{Nothing}
use Rattle.cvc_model.specs.declared.row.ModelRow.{ModelRow}
use Rattle.cvc_model.specs.Chosen.{outcome_of, choice_at, choice_from, choice_of, next_place}
use Rattle.cvc_model.specs.Indexed.{IsIndex}
use Rattle.cvc_model.proofs.Places.{IsNext, AtNext, next_is, get_within}

-- the place of the next row of a row's name stands in the index
pub linked : (rows : List ModelRow) (index : Index) → IsIndex index rows → (place : ℕ) → place < length rows → (name : List ℕ)
    → ((row : ModelRow) → slice_get rows place ≡ Some row → row.name ≡ name) → slice_get index.next.items place ≡ Some (next_place rows name (place + 1))
linked rows index h place within name named =
    let found = get_within rows place within in
    h.next place found.0 found.1 ∙ ap (λ n. Some (next_place rows n (place + 1))) (named found.0 found.1)

module _ (rows : List ModelRow) (name : List ℕ) (params : List Param) (from : ℕ) (within : from ≤ length rows) (next : Option ℕ) (is_next : next ≡ next_place rows name from)
    (rest : choice_of rows name params ≡ choice_from params name from (drop from rows)) where
  at_next : AtNext rows name params from next
  at_next = subst (AtNext rows name params from) (sym is_next) (next_is rows name params (length rows - from) from (omega arith))

  pub no_more : next ≡ None → choice_of rows name params ≡ Nothing
  no_more e = rest ∙ subst (AtNext rows name params from) e at_next

  module _ (place : ℕ) (at : next ≡ Some place) where
    found : IsNext rows name params from place
    found = subst (AtNext rows name params from) at at_next

    pub placed : place < length rows
    placed = slice_get_within rows place found.row found.at

    pub called : (row : ModelRow) → slice_get rows place ≡ Some row → row.name ≡ name
    called row e =
        let both : Some row ≡ Some found.row = sym e ∙ found.at in
        let r : row ≡ found.row = cc in
        ap (λ v. v.name) r ∙ sym found.named

    -- what the outcome at the row makes of the choice
    pub chosen : (row : ModelRow) → row ≡ get_or rows place row → (o : Outcome) → o ≡ outcome_of row.tests params
        → choice_of rows name params ≡ choice_at place o (choice_from params name (place + 1) (drop (place + 1) rows))
    chosen row at_row o e =
        let r : row ≡ found.row = at_row ∙ get_or_from_slice_get rows place found.row row found.at in
        rest ∙ found.choice ∙ ap (λ q. choice_at place q (choice_from params name (place + 1) (drop (place + 1) rows))) (ap (λ v. outcome_of v.tests params) (sym r) ∙ sym e)

    pub smaller : (later : Option ℕ) → later ≡ next_place rows name (place + 1) → option_map_or (λ p. length rows - p) later 0 < option_map_or (λ p. length rows - p) next 0
    smaller later e = subst (λ (o : Option ℕ). option_map_or (λ p. length rows - p) later 0 < option_map_or (λ p. length rows - p) o 0) (sym at) (by later (subst (AtNext rows name params (place + 1)) (sym e) (next_is rows name params (length rows - (place + 1)) (place + 1) (let h = placed in omega arith))))
      where
        by : (o : Option ℕ) → AtNext rows name params (place + 1) o → option_map_or (λ p. length rows - p) o 0 < length rows - place
        by None h = let p = placed in omega arith
        by (Some q) h = let p = placed in omega (arith, slice_get_within rows q h.row h.at, h.from_on)
