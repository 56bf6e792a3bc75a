-- Steps of a draft as the code makes them.
use Rattle.std.proofs.Common.{◌≡◌, ℕ, not, Bool, true, false, List, [], ◌∷◌, ◌++◌, map, Option, Some, None, Result, Ok, Err, if◌then◌else◌, refl, sym, ap, subst, ◌∙◌}
use Rattle.std.specs.Bool.{OnTrue, OnFalse}
use Rattle.std.specs.Option.{option_map}
use Rattle.cvc_base.specs.declared.param.Pair.{Pair}
use Rattle.cvc_cdl.specs.declared.netlist.Cell.{Cell}
use Rattle.cvc_cdl.specs.declared.netlist.Global.{Global}
use Rattle.cvc_cdl.specs.declared.netlist.Item.{Item}
use Rattle.cvc_cdl.specs.declared.draft.Draft.{Draft as HeldDraft}
use Rattle.cvc_cdl.specs.declared.draft.OpenCell.{OpenCell}
use Rattle.cvc_base.specs.declared.stop.Stop.{Stop}
use Rattle.cvc_base.specs.declared.stop.Stop.TheVariants as stops
use Rattle.std.proofs.lemmas.List.{map-append}
use Rattle.cvc_cdl.specs.Building.{is_among, name_of_item}
use Rattle.cvc_cdl.specs.Builder.{Draft}
use Rattle.cvc_cdl.specs.Drafting.{Becomes, cell_held, cell_with_item, cell_with_pairs, cells_held, draft_held, globals_once, in_last, item_cause, item_names, name_held, names_here, names_once, with_globals, with_item, with_pairs}
use Rattle.cvc_names.proofs.Repeats.{when, was_free, was_taken}

pub in_last-push : (f : Cell → Cell) (cs : List Cell) (c : Cell) → in_last f (cs ++ c ∷ []) ≡ cs ++ f c ∷ []
in_last-push f [] c = refl
in_last-push f (d ∷ []) c = refl
in_last-push f (d ∷ e ∷ cs) c = ap (λ (xs : List Cell). d ∷ xs) (in_last-push f (e ∷ cs) c)

-- ## In the open cell

module _ (d : HeldDraft) (cell : OpenCell) where
  abbrev pub with_open : OpenCell → HeldDraft
  with_open o = record d { current = Some o }

  -- a change of the open cell is one of the last cell
  last_changed : (f : Cell → Cell) (o : OpenCell) → cell_held o ≡ f (cell_held cell) → cells_held d.ended (Some o) ≡ in_last f (cells_held d.ended (Some cell))
  last_changed f o e = ap (λ c. d.ended ++ c ∷ []) e ∙ sym (in_last-push f d.ended (cell_held cell))

  abbrev levelled : List Item → OpenCell
  levelled l = record cell { level = l }

  abbrev paired : List Pair → OpenCell
  paired pairs = record cell { card = record cell.card { pairs = pairs } }

  item_step : (item : Item) (l : List Item) (r : Result (Unit {0}) Stop) → Becomes (item_cause (item_names cell.level) item) (cell.level ++ item ∷ []) l r
      → Becomes (item_cause (item_names cell.level) item) (with_item (Some cell.card.name) (draft_held (with_open cell)) item) (draft_held (with_open (levelled l))) r
  item_step item l (Ok done) h =
      let more : OpenCell = levelled (cell.level ++ item ∷ []) in (
        h.0,
        ap (λ x. draft_held (with_open (levelled x))) h.1
            ∙ (λ i. record (draft_held (with_open more)) {
              cells = last_changed (cell_with_item item) more refl i;
              inner_names = map-append name_of_item cell.level (item ∷ []) i;
            }),
      )
  item_step item l (Err (stops.At cause)) h = h
  item_step item l (Err stops.NoMemory) h = tt

  pair_step : (pairs list : List Pair) (r : Result (Unit {0}) Stop) → Becomes None (cell.card.pairs ++ pairs) list r
      → Becomes None (with_pairs (Some cell.card.name) (draft_held (with_open cell)) pairs) (draft_held (with_open (paired list))) r
  pair_step pairs list (Ok done) h = (
    h.0,
    ap (λ x. draft_held (with_open (paired x))) h.1
        ∙ ap (λ cs. record (draft_held (with_open (paired (cell.card.pairs ++ pairs)))) { cells = cs }) (last_changed (cell_with_pairs pairs) (paired (cell.card.pairs ++ pairs)) refl),
  )
  pair_step pairs list (Err (stops.At cause)) h = h
  pair_step pairs list (Err stops.NoMemory) h = tt

  module _ (is : d.current ≡ Some cell) where
    pub item_inside : (item : Item) (l : List Item) (r : Result (Unit {0}) Stop) → Becomes (item_cause (item_names cell.level) item) (cell.level ++ item ∷ []) l r
        → Becomes (item_cause (names_here (option_map name_held d.current) (draft_held d)) item) (with_item (option_map name_held d.current) (draft_held d) item) (draft_held (with_open (levelled l))) r
    item_inside item l r h =
        let P : Option OpenCell → Type 0 = λ o.
        let x = draft_held (record d { current = o }) in
        Becomes (item_cause (names_here (option_map name_held o) x) item) (with_item (option_map name_held o) x item) (draft_held (with_open (levelled l))) r in
        subst P (sym is) (item_step item l r h)

    pub pairs_inside : (pairs list : List Pair) (r : Result (Unit {0}) Stop) → Becomes None (cell.card.pairs ++ pairs) list r
        → Becomes None (with_pairs (option_map name_held d.current) (draft_held d) pairs) (draft_held (with_open (paired list))) r
    pairs_inside pairs list r h =
        let P : Option OpenCell → Type 0 = λ o.
        Becomes None (with_pairs (option_map name_held o) (draft_held (record d { current = o })) pairs) (draft_held (with_open (paired list))) r in
        subst P (sym is) (pair_step pairs list r h)

-- ## On the main level

module _ (d : HeldDraft) (item : Item) where
  abbrev with_main : List Item → HeldDraft
  with_main l = record d { main = l }

  main_step : (l : List Item) (r : Result (Unit {0}) Stop) → Becomes (item_cause (item_names d.main) item) (d.main ++ item ∷ []) l r → Becomes (item_cause (item_names d.main) item) (with_item None (draft_held d) item) (draft_held (with_main l)) r
  main_step l (Ok done) h = (
    h.0,
    ap (λ x. draft_held (with_main x)) h.1 ∙ ap (λ names. record (draft_held (with_main (d.main ++ item ∷ []))) { names = names }) (map-append name_of_item d.main (item ∷ [])),
  )
  main_step l (Err (stops.At cause)) h = h
  main_step l (Err stops.NoMemory) h = tt

  pub item_outside : d.current ≡ None → (l : List Item) (r : Result (Unit {0}) Stop) → Becomes (item_cause (item_names d.main) item) (d.main ++ item ∷ []) l r
      → Becomes (item_cause (names_here (option_map name_held d.current) (draft_held d)) item) (with_item (option_map name_held d.current) (draft_held d) item) (draft_held (with_main l)) r
  item_outside is l r h =
      let P : Option OpenCell → Type 0 = λ o.
      let x = draft_held d in
      Becomes (item_cause (names_here (option_map name_held o) x) item) (with_item (option_map name_held o) x item) (draft_held (with_main l)) r in
      subst P (sym is) (main_step l r h)

-- ## Global nets

module _ (d : HeldDraft) (g : Global) (free : Bool) (is : free ≡ not (is_among d.global_names g.name)) (names : List (List ℕ)) where
  abbrev once_if : Bool → Draft
  once_if taken = record (draft_held d) {
    globals = if taken then d.globals else d.globals ++ g ∷ [];
    global_names = if taken then d.global_names else d.global_names ++ g.name ∷ [];
  }

  by_test : (taken : Bool) → is_among d.global_names g.name ≡ taken → with_globals (draft_held d) (g ∷ []) ≡ once_if taken
  unfolding globals_once names_once
  by_test true e = λ i. record (draft_held d) {
    globals = if e i then d.globals else d.globals ++ g ∷ [];
    global_names = if e i then d.global_names else d.global_names ++ g.name ∷ [];
  }
  by_test false e = λ i. record (draft_held d) {
    globals = if e i then d.globals else d.globals ++ g ∷ [];
    global_names = if e i then d.global_names else d.global_names ++ g.name ∷ [];
  }

  pub global_added : free ≡ true → OnTrue free (names ≡ d.global_names ++ g.name ∷ []) → (globals : List Global) → globals ≡ d.globals ++ g ∷ []
      → draft_held (record d { globals = globals; global_names = names }) ≡ with_globals (draft_held d) (g ∷ [])
  global_added e added globals more =
      let at = when free (names ≡ d.global_names ++ g.name ∷ []) e added in
      (λ i. draft_held (record d { globals = more i; global_names = at i })) ∙ sym (by_test false (was_free free (is_among d.global_names g.name) is e))

  pub global_known : free ≡ false → OnFalse free (names ≡ d.global_names) → draft_held (record d { global_names = names }) ≡ with_globals (draft_held d) (g ∷ [])
  global_known e same =
      ap (λ ns. draft_held (record d { global_names = ns })) (at free e same) ∙ sym (by_test true (was_taken free (is_among d.global_names g.name) is e))
    where
      at : (b : Bool) → b ≡ false → OnFalse b (names ≡ d.global_names) → names ≡ d.global_names
      at true f h = cc
      at false f h = h

pub with_globals-none : (d : Draft) → with_globals d [] ≡ d
unfolding globals_once names_once
with_globals-none d = refl

pub with_globals-cons : (d : Draft) (g : Global) (gs : List Global) → with_globals d (g ∷ gs) ≡ with_globals (with_globals d (g ∷ [])) gs
unfolding globals_once names_once
with_globals-cons d g gs = by (is_among d.global_names g.name)
  where
    by : (b : Bool)
        → record d { globals = if b then globals_once d.global_names d.globals gs else globals_once (d.global_names ++ g.name ∷ []) (d.globals ++ g ∷ []) gs; global_names = if b then names_once d.global_names gs else names_once (d.global_names ++ g.name ∷ []) gs }
        ≡ with_globals (record d { globals = if b then d.globals else d.globals ++ g ∷ []; global_names = if b then d.global_names else d.global_names ++ g.name ∷ [] }) gs
    by true = refl
    by false = refl

-- the loop over the names of a card
abbrev pub globals_on : ℕ → List (List ℕ) → List Global
globals_on line names = map (λ name. record { name = name; line = line }) names

module _ (line : ℕ) (wanted d : Draft) (left : List (List ℕ)) (whole : with_globals d (globals_on line left) ≡ wanted) where
  pub globals_step : (name : List ℕ) (rest : List (List ℕ)) → left ≡ name ∷ rest → (next : Draft) → next ≡ with_globals d (record { name = name; line = line } ∷ []) → with_globals next (globals_on line rest) ≡ wanted
  globals_step name rest is next step =
      ap (λ x. with_globals x (globals_on line rest)) step
      ∙ sym (with_globals-cons d (record { name = name; line = line }) (globals_on line rest))
      ∙ ap (λ ns. with_globals d (globals_on line ns)) (sym is) ∙ whole

  pub globals_end : left ≡ [] → d ≡ wanted
  globals_end none = sym (with_globals-none d) ∙ ap (λ ns. with_globals d (globals_on line ns)) (sym none) ∙ whole
