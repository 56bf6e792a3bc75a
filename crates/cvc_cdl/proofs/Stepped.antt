-- Each card changes the draft as it changes what the cards say.
use Rattle.std.proofs.Common.{◌≡◌, ℕ, true, false, List, [], ◌∷◌, ◌++◌, map, Option, Some, None, if◌then◌else◌, refl, sym, ap, ◌∙◌, append_assoc}
use Rattle.std.specs.Option.{option_to_list}
use Rattle.std.specs.Str.{bytes_eq}
use Rattle.std.specs.Cmp.Lexicographic.{nat_list_eq_equiv}
use Rattle.std.proofs.lemmas.List.{append-nil, map-append}
use Rattle.cvc_card.specs.declared.card.Card.{Card}
use Rattle.cvc_card.specs.declared.card.Card.TheVariants.{Device, Inst, Subckt, Ends, Global, Params, Ignored}
use Rattle.cvc_card.specs.declared.card.CellCard.{CellCard}
use Rattle.cvc_cdl.specs.declared.netlist.Item.{Item}
use Rattle.cvc_cdl.specs.declared.netlist.Item.TheVariants as items
use Rattle.cvc_cdl.specs.Levels.{Entry, Level, cell_card_in, cell_cards, item_in, items_at, level_after, pairs_at, pairs_in, same_level}
use Rattle.cvc_cdl.specs.Netlist.{cell_of, cells_of, globals_in, globals_of, name_of_cell, name_of_global}
use Rattle.cvc_cdl.specs.Building.{cause_of, has_begun, name_of_item}
use Rattle.cvc_cdl.specs.Builder.{Draft, draft_of, entry_of, names_at, names_inside, place_in, places_behind}
use Rattle.cvc_cdl.specs.Drafting.{begun_cell, cell_with_item, cell_with_pairs, with_card, with_cell, with_globals, with_item, with_pairs, without_level}
use Rattle.cvc_cdl.proofs.Placing.{cell_cards-push, globals_of-push, here, items_at-push, level_behind-push, pairs_at-push, places-push}
use Rattle.cvc_cdl.proofs.Kept.{IsKept, subckt_free}
use Rattle.cvc_cdl.proofs.Drafted.{cell_elsewhere, cell_same, cells_inside, cells_other, cells_silent, map-same, once-by_names, silent_cell_names, silent_globals, silent_items, silent_pairs, silent_places}

-- part by part
drafted : (d : Draft) (es : List Entry) → d.level ≡ here es → d.globals ≡ globals_of es → d.global_names ≡ map name_of_global (globals_of es) → d.params ≡ pairs_at None es → d.cells ≡ cells_of es
    → d.cell_names ≡ map name_of_cell (cells_of es) → d.items ≡ items_at None es → d.names ≡ names_at None es → d.inner_names ≡ names_inside (here es) es → d.places ≡ places_behind [] es → d ≡ draft_of es
drafted d es level globals global_names params cells cell_names items names inner_names places = λ i. record {
  level = level i;
  globals = globals i;
  global_names = global_names i;
  params = params i;
  cells = cells i;
  cell_names = cell_names i;
  items = items i;
  names = names i;
  inner_names = inner_names i;
  places = places i;
}

module _ (es : List Entry) (line : ℕ) (k : IsKept es) where
  abbrev with_one : Card → List Entry
  with_one card = es ++ entry_of card line ∷ []

  -- what a card leaves that is neither `.SUBCKT` nor `.ENDS` nor names global nets
  record IsQuiet (card : Card) : Type 0 where
    level : (l : Level) → level_after l card ≡ l
    cell : cell_card_in (entry_of card line) ≡ None
    globals : globals_in line card ≡ []
    place : (n : ℕ) → place_in n card ≡ []

  module _ (card : Card) (q : IsQuiet card) where
    same_here : here es ≡ here (with_one card)
    same_here = sym (level_behind-push None es (entry_of card line) ∙ q.level (here es))

    -- the parts that change are the parameters, the cells, the items and the names
    quiet : (d : Draft) → d ≡ record (draft_of es) { params = d.params; cells = d.cells; items = d.items; names = d.names; inner_names = d.inner_names }
        → d.params ≡ pairs_at None (with_one card) → d.cells ≡ cells_of (with_one card) → d.items ≡ items_at None (with_one card) → d.names ≡ names_at None (with_one card)
        → d.inner_names ≡ names_inside (here (with_one card)) (with_one card) → d ≡ draft_of (with_one card)
    quiet d same params cells items names inner_names =
        same ∙ drafted (record (draft_of es) { params = d.params; cells = d.cells; items = d.items; names = d.names; inner_names = d.inner_names }) (with_one card)
        same_here (silent_globals es line k card q.globals) (ap (map name_of_global) (silent_globals es line k card q.globals)) params cells (silent_cell_names es line k card q.cell) items names inner_names
        (silent_places es line k card q.place)

    -- ## An item

    module _ (item : Item) (says : item_in card ≡ Some item) (no_pairs_there : pairs_in card ≡ []) where
      grown : (l : Level) → same_level l (here es) ≡ true → items_at l es ++ item ∷ [] ≡ items_at l (with_one card)
      grown l at = sym (items_at-push l es (entry_of card line) ∙ ap (λ o. items_at l es ++ option_to_list o) ((λ i. if at i then says i else None)))

      kept_items : (l : Level) → same_level l (here es) ≡ false → items_at l es ≡ items_at l (with_one card)
      kept_items l at = sym (items_at-push l es (entry_of card line) ∙ ap (λ b. items_at l es ++ option_to_list (if b then item_in card else None)) at ∙ append-nil (items_at l es))

      grown_names : (l : Level) → same_level l (here es) ≡ true → names_at l es ++ name_of_item item ∷ [] ≡ names_at l (with_one card)
      grown_names l at = sym (map-append name_of_item (items_at l es) (item ∷ [])) ∙ ap (map name_of_item) (grown l at)

      inner_at : (l : Level) → here es ≡ l → names_inside l (with_one card) ≡ names_inside (here (with_one card)) (with_one card)
      inner_at l at = ap (λ x. names_inside x (with_one card)) (sym at ∙ same_here)

      item_step : (l : Level) → here es ≡ l → with_item l (draft_of es) item ≡ draft_of (with_one card)
      item_step None at =
          quiet (with_item None (draft_of es) item) refl
          (silent_pairs es line k card no_pairs_there None)
          (sym (cells_other es line k card q.cell (λ c. cell_elsewhere es line k card c (ap (same_level (Some c.name)) at))))
          (grown None (ap (same_level None) at))
          (grown_names None (ap (same_level None) at))
          (ap (λ x. names_inside x es) at ∙ inner_at None at)
      item_step (Some n) at =
          quiet (with_item (Some n) (draft_of es) item) refl
          (silent_pairs es line k card no_pairs_there None)
          (cells_inside es line k card n (cell_with_item item) at q.cell (λ c named.
          let at_cell : same_level (Some c.name) (here es) ≡ true = ap (same_level (Some c.name)) at ∙ ap (λ x. bytes_eq x n) named ∙ nat_list_eq_equiv.refl n in
          λ i. record { name = c.name; ports = c.ports; pairs = c.pairs ++ sym (silent_pairs es line k card no_pairs_there (Some c.name)) i; items = sym (grown (Some c.name) at_cell) i; line = c.line }))
          (kept_items None (ap (same_level None) at))
          (ap (map name_of_item) (kept_items None (ap (same_level None) at)))
          (ap (λ x. names_inside x es ++ name_of_item item ∷ []) at ∙ grown_names (Some n) (ap (same_level (Some n)) at ∙ nat_list_eq_equiv.refl n) ∙ inner_at (Some n) at)

    -- ## Pairs, or nothing

    module _ (no_item_there : item_in card ≡ None) where
      inner_same : (l : Level) → names_inside l es ≡ names_inside l (with_one card)
      inner_same None = refl
      inner_same (Some n) = ap (map name_of_item) (silent_items es line k card no_item_there (Some n))

      inner_kept : names_inside (here es) es ≡ names_inside (here (with_one card)) (with_one card)
      inner_kept = inner_same (here es) ∙ ap (λ x. names_inside x (with_one card)) same_here

      longer : (l : Level) → same_level l (here es) ≡ true → pairs_at l es ++ pairs_in card ≡ pairs_at l (with_one card)
      longer l at = sym (pairs_at-push l es (entry_of card line) ∙ ap (λ b. pairs_at l es ++ (if b then pairs_in card else [])) at)

      kept_pairs : (l : Level) → same_level l (here es) ≡ false → pairs_at l es ≡ pairs_at l (with_one card)
      kept_pairs l at = sym (pairs_at-push l es (entry_of card line) ∙ ap (λ b. pairs_at l es ++ (if b then pairs_in card else [])) at ∙ append-nil (pairs_at l es))

      pairs_step : (l : Level) → here es ≡ l → with_pairs l (draft_of es) (pairs_in card) ≡ draft_of (with_one card)
      pairs_step None at =
          quiet (with_pairs None (draft_of es) (pairs_in card)) refl
          (longer None (ap (same_level None) at))
          (sym (cells_other es line k card q.cell (λ c. cell_elsewhere es line k card c (ap (same_level (Some c.name)) at))))
          (silent_items es line k card no_item_there None)
          (ap (map name_of_item) (silent_items es line k card no_item_there None))
          inner_kept
      pairs_step (Some n) at =
          quiet (with_pairs (Some n) (draft_of es) (pairs_in card)) refl
          (kept_pairs None (ap (same_level None) at))
          (cells_inside es line k card n (cell_with_pairs (pairs_in card)) at q.cell (λ c named.
          let at_cell : same_level (Some c.name) (here es) ≡ true = ap (same_level (Some c.name)) at ∙ ap (λ x. bytes_eq x n) named ∙ nat_list_eq_equiv.refl n in
          let more : c.pairs ++ pairs_at (Some c.name) (with_one card) ≡ (c.pairs ++ pairs_at (Some c.name) es) ++ pairs_in card =
          ap (λ ps. c.pairs ++ ps) (sym (longer (Some c.name) at_cell)) ∙ sym (append_assoc c.pairs (pairs_at (Some c.name) es) (pairs_in card)) in
          λ i. record { name = c.name; ports = c.ports; pairs = more i; items = sym (silent_items es line k card no_item_there (Some c.name)) i; line = c.line }))
          (silent_items es line k card no_item_there None)
          (ap (map name_of_item) (silent_items es line k card no_item_there None))
          inner_kept

      ignored_step : pairs_in card ≡ [] → draft_of es ≡ draft_of (with_one card)
      ignored_step none =
          quiet (draft_of es) refl
          (silent_pairs es line k card none None)
          (sym (cells_silent es line k card q.cell no_item_there none))
          (silent_items es line k card no_item_there None)
          (ap (map name_of_item) (silent_items es line k card no_item_there None))
          inner_kept

  -- ## Cells begin and end

  ends_step : (name : Option (List ℕ)) → without_level (draft_of es) ≡ draft_of (with_one (Ends name))
  ends_step name =
      let card = Ends name in
      let level : None ≡ here (with_one card) = sym (level_behind-push None es (entry_of card line)) in
      drafted (without_level (draft_of es)) (with_one card) level
      (silent_globals es line k card refl) (ap (map name_of_global) (silent_globals es line k card refl))
      (silent_pairs es line k card refl None)
      (sym (cells_silent es line k card refl refl refl))
      (silent_cell_names es line k card refl)
      (silent_items es line k card refl None) (ap (map name_of_item) (silent_items es line k card refl None))
      (ap (λ l. names_inside l (with_one card)) level)
      (silent_places es line k card (λ n. refl))

  module _ (c : CellCard) (begun : has_begun es c.name ≡ false) where
    no_items : items_at (Some c.name) (with_one (Subckt c)) ≡ []
    no_items = sym (silent_items es line k (Subckt c) refl (Some c.name)) ∙ (k.nothing c.name begun).0

    no_pairs : pairs_at (Some c.name) (with_one (Subckt c)) ≡ []
    no_pairs = sym (silent_pairs es line k (Subckt c) refl (Some c.name)) ∙ (k.nothing c.name begun).1

    one_cell : cells_of es ++ begun_cell c ∷ [] ≡ cells_of (with_one (Subckt c))
    unfolding cells_of
    one_cell =
        let card = Subckt c in
        let more : c.pairs ++ pairs_at (Some c.name) (with_one card) ≡ c.pairs = ap (λ ps. c.pairs ++ ps) no_pairs ∙ append-nil c.pairs in
        sym (ap (map (cell_of (with_one card))) (cell_cards-push es (entry_of card line))
        ∙ map-append (cell_of (with_one card)) (cell_cards es) (c ∷ [])
        ∙ (λ i. map-same (cell_of (with_one card)) (cell_of es) (cell_cards es)
        (λ b. cell_same es line k card b (sym (silent_items es line k card refl (Some b.name))) (sym (silent_pairs es line k card refl (Some b.name)))) i
        ++ (record { name = c.name; ports = c.ports; pairs = more i; items = no_items i; line = c.line }) ∷ []))

    begin_step : with_cell (draft_of es) c ≡ draft_of (with_one (Subckt c))
    begin_step =
        let card = Subckt c in
        let level : Some c.name ≡ here (with_one card) = sym (level_behind-push None es (entry_of card line)) in
        drafted (with_cell (draft_of es) c) (with_one card) level
        (silent_globals es line k card refl) (ap (map name_of_global) (silent_globals es line k card refl))
        (silent_pairs es line k card refl None)
        one_cell
        (sym (map-append name_of_cell (cells_of es) (begun_cell c ∷ [])) ∙ ap (map name_of_cell) one_cell)
        (silent_items es line k card refl None) (ap (map name_of_item) (silent_items es line k card refl None))
        (ap (map name_of_item) (sym no_items) ∙ ap (λ l. names_inside l (with_one card)) level)
        (sym (places-push [] es (entry_of card line)))

  -- ## Global nets

  globals_step : (names : List (List ℕ)) → with_globals (draft_of es) (globals_in line (Global names)) ≡ draft_of (with_one (Global names))
  globals_step names =
      let card = Global names in
      let both = once-by_names (globals_of es) (globals_in line card) in
      let level : here es ≡ here (with_one card) = sym (level_behind-push None es (entry_of card line)) in
      let globals = sym (globals_of-push es (entry_of card line)) in
      drafted (with_globals (draft_of es) (globals_in line card)) (with_one card) level
      (both.0 ∙ globals) (both.1 ∙ ap (map name_of_global) globals)
      (silent_pairs es line k card refl None)
      (sym (cells_silent es line k card refl refl refl))
      (silent_cell_names es line k card refl)
      (silent_items es line k card refl None) (ap (map name_of_item) (silent_items es line k card refl None))
      (inner (here es) ∙ ap (λ l. names_inside l (with_one card)) level)
      (silent_places es line k card (λ n. refl))
    where
      inner : (l : Level) → names_inside l es ≡ names_inside l (with_one (Global names))
      inner None = refl
      inner (Some n) = ap (map name_of_item) (silent_items es line k (Global names) refl (Some n))

  -- ## Every card

  pub step : (card : Card) → cause_of es card ≡ None → with_card (draft_of es) line card ≡ draft_of (with_one card)
  step (Device d) h = item_step (Device d) (record { level = λ l. refl; cell = refl; globals = refl; place = λ n. refl }) (items.Device d) refl refl (here es) refl
  step (Inst x) h = item_step (Inst x) (record { level = λ l. refl; cell = refl; globals = refl; place = λ n. refl }) (items.Inst x) refl refl (here es) refl
  step (Subckt c) h = begin_step c (subckt_free es c h).1
  step (Ends name) h = ends_step name
  step (Global names) h = globals_step names
  step (Params pairs) h = pairs_step (Params pairs) (record { level = λ l. refl; cell = refl; globals = refl; place = λ n. refl }) refl (here es) refl
  step Ignored h = ignored_step Ignored (record { level = λ l. refl; cell = refl; globals = refl; place = λ n. refl }) refl refl
