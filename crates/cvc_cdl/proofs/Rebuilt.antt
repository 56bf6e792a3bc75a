-- The netlist of a printed netlist's cards: they have no fault, and the netlist is the printed one but for the numbers of lines.
use Rattle.std.proofs.Common.{◌≡◌, ℕ, List, [], ◌∷◌, ◌++◌, map, false, cond, Option, Some, None, bytes_eq, All, IsTrue, refl, sym, ap, ◌∙◌}
use Rattle.std.specs.List.{list_any}
use Rattle.std.specs.Cmp.Lexicographic.{nat_list_eq_equiv}
use Rattle.std.proofs.lemmas.Bool.{or_parts}
use Rattle.std.proofs.lemmas.List.{append_assoc, append-nil, map-append}
use Rattle.std.proofs.lemmas.List.Elements.{All-nil, All-cons, All-weaker}
use Rattle.std.proofs.lemmas.List.Folds.{map_fixed}
use Rattle.std.proofs.lemmas.Slice.Eq.{bytes_eq-Decides}
use Rattle.cvc_base.specs.declared.param.Pair.{Pair}
use Rattle.cvc_card.specs.declared.card.InstCard.{InstCard}
use Rattle.cvc_card.specs.Card.{has_twice}
use Rattle.cvc_cdl.specs.declared.netlist.Cell.{Cell}
use Rattle.cvc_cdl.specs.declared.netlist.Global.{Global}
use Rattle.cvc_cdl.specs.declared.netlist.Item.{Item}
use Rattle.cvc_cdl.specs.declared.netlist.Netlist.{Netlist}
use Rattle.cvc_cdl.specs.Levels.{Entry, level_behind, items_at, pairs_at}
use Rattle.cvc_cdl.specs.Netlist.{name_of_cell, name_of_global, each_once, globals_of, cell_of, cells_of, main_of, top_of, netlist_of}
use Rattle.cvc_cdl.specs.Building.{is_among, building_fault}
use Rattle.cvc_cdl.specs.Ending.{instances, top_fault, ending_fault}
use Rattle.cvc_cdl.specs.WellFormed.{IsWellFormed}
use Rattle.cvc_cdl.specs.Builder.{IsFormedEntry}
use Rattle.cvc_cdl.specs.Alike.{item_without_line, cell_without_lines, global_without_line, AreAlike}
use Rattle.cvc_cdl.specs.Printed.{printed_cards, numbered, IsNetlist}
use Rattle.cvc_cdl.proofs.RebuiltParts.{items_at-is, pairs_at-is, cells_of-is}
use Rattle.cvc_cdl.proofs.RebuiltTwice.{not_before, any_none, All-both, any-map, map-map}
use Rattle.cvc_cdl.proofs.RebuiltGiven.{items_on, items_on-alike, cells_on, cells_on-alike, cells_on-names, global_on, globals_on-alike, globals_on-names, card_of_cell, items_in, Gives}
use Rattle.cvc_cdl.proofs.RebuiltPrinted.{cells_line, main_line, given_all}
use Rattle.cvc_cdl.proofs.RebuiltAlike.{without, same_cause, same_endless, names_alike, same_top}
use Rattle.cvc_cdl.proofs.RebuiltBuilding.{no_items, faultless}
use Rattle.cvc_cdl.proofs.RebuiltEnding.{HasCell, HasEnd, no_instance_fault, no_endless_fault, IsSound, sound_cards, formed_entries, IsSoundInstance, sound_instances}

-- ## The cells

-- where no name stands twice, the items of the cells of a name are those of the one cell
own_items : (cells : List Cell) → has_twice (map name_of_cell cells) ≡ false → All (λ (c : Cell). items_in cells c.name ≡ c.items) cells
own_items [] h = All-nil (λ (c : Cell). items_in [] c.name ≡ c.items)
own_items (c ∷ cs) h = All-cons (λ (d : Cell). items_in (c ∷ cs) d.name ≡ d.items) c cs first (All-both Other (λ (d : Cell). items_in cs d.name ≡ d.items) (λ (d : Cell). items_in (c ∷ cs) d.name ≡ d.items) at cs others (own_items cs parts.1))
  where
    Other : Cell → Type 0
    Other d = bytes_eq c.name d.name ≡ false

    parts : (list_any (bytes_eq c.name) (map name_of_cell cs) ≡ false) × (has_twice (map name_of_cell cs) ≡ false)
    parts = or_parts (list_any (bytes_eq c.name) (map name_of_cell cs)) (has_twice (map name_of_cell cs)) h

    first : items_in (c ∷ cs) c.name ≡ c.items
    first = rw ((bytes_eq-Decides c.name c.name).1 refl, no_items cs c.name parts.0) (append-nil c.items)

    others : All Other cs
    others = any_none (λ (d : Cell). bytes_eq c.name d.name) cs (sym (any-map (bytes_eq c.name) name_of_cell cs) ∙ parts.0)

    at : (d : Cell) → Other d → items_in cs d.name ≡ d.items → items_in (c ∷ cs) d.name ≡ d.items
    at d other own = rw (nat_list_eq_equiv.symm d.name c.name ∙ other) own

cells_rebuilt : (entries : List Entry) (g : List Global) (p : List Pair) (cells : List Cell) (m : List Item) → Gives entries g p cells m → has_twice (map name_of_cell cells) ≡ false → cells_of entries ≡ cells
cells_rebuilt entries g p cells m h once =
    cells_of-is entries
    ∙ rw (h.cells_are, map-map (cell_of entries) card_of_cell cells) (map_fixed back cells (All-weaker (λ (c : Cell). items_in cells c.name ≡ c.items) (λ (c : Cell). back c ≡ c) at cells (own_items cells once)))
  where
    back : Cell → Cell
    back c = cell_of entries (card_of_cell c)

    at : (c : Cell) → items_in cells c.name ≡ c.items → back c ≡ c
    at c own = rw (pairs_at-is (Some c.name) entries, h.no_params c.name, items_at-is (Some c.name) entries, h.items_are c.name, own, append-nil c.pairs) refl

-- ## The global nets

once-nil : (known : List Global) → each_once known [] ≡ known
unfolding each_once
once-nil known = refl

once-cons : (known : List Global) (g : Global) (gs : List Global) → each_once known (g ∷ gs) ≡ each_once (cond (list_any (bytes_eq g.name) (map name_of_global known)) known (known ++ g ∷ [])) gs
unfolding each_once
once-cons known g gs = refl

globals_rebuilt : (known gs : List Global) → has_twice (map name_of_global known ++ map name_of_global gs) ≡ false → each_once known gs ≡ known ++ gs
globals_rebuilt known [] h = once-nil known ∙ sym (append-nil known)
globals_rebuilt known (g ∷ gs) h =
    let new = not_before (map name_of_global known) (map name_of_global gs) g.name h in
    let h' : has_twice (map name_of_global (known ++ g ∷ []) ++ map name_of_global gs) ≡ false =
    rw (map-append name_of_global known (g ∷ []), append_assoc (map name_of_global known) (g.name ∷ []) (map name_of_global gs)) h in
    once-cons known g gs ∙ rw new (globals_rebuilt (known ++ g ∷ []) gs h' ∙ append_assoc known (g ∷ []) gs)

-- ## The netlist

pub record IsRebuilt (entries : List Entry) (top : Option (List ℕ)) (n : Netlist) : Type 0 where
  pub building : building_fault entries ≡ None
  pub ending : ending_fault entries top ≡ None
  pub alike : AreAlike (netlist_of entries top) n
  pub formed : All IsFormedEntry entries

-- what the entries of a netlist give, but for the numbers of lines
record AreGiven (entries : List Entry) (n : Netlist) : Type 0 where
  globals : map global_without_line (globals_of entries) ≡ map global_without_line n.globals
  params : pairs_at None entries ≡ n.params
  cells : without (cells_of entries) ≡ without n.cells
  items : map item_without_line (items_at None entries) ≡ map item_without_line n.main.items

given : (i : ℕ) (n : Netlist) → IsWellFormed n → AreGiven (numbered i (printed_cards n)) n
given i n h = record {
  globals = ap (map global_without_line) (rw all.globals_are (globals_rebuilt [] globals (ap has_twice (globals_on-names i n.globals) ∙ h.globals))) ∙ globals_on-alike i n.globals;
  params = pairs_at-is None entries ∙ all.params_are;
  cells = ap without (cells_rebuilt entries globals n.params cells main all (ap has_twice (cells_on-names (cells_line i n) n.cells) ∙ h.cells)) ∙ cells_on-alike (cells_line i n) n.cells;
  items = ap (map item_without_line) (items_at-is None entries ∙ all.main_is) ∙ items_on-alike (main_line i n) n.main.items;
}
  where
    entries : List Entry
    entries = numbered i (printed_cards n)

    globals : List Global
    globals = map (global_on i) n.globals

    cells : List Cell
    cells = cells_on (cells_line i n) n.cells

    main : List Item
    main = items_on (main_line i n) n.main.items

    all : Gives entries globals n.params cells main
    all = given_all i n

alike : (entries : List Entry) (top : Option (List ℕ)) (n : Netlist) → IsNetlist top n → AreGiven entries n → AreAlike (netlist_of entries top) n
unfolding netlist_of
alike entries top n is h = λ k. record {
  globals = h.globals k;
  params = h.params k;
  cells = h.cells k;
  main = main_is k;
  top = top_same k;
}
  where
    main_with : List Item → Cell
    main_with items = record { name = []; ports = []; pairs = []; items = items; line = 0 }

    main_is : cell_without_lines (main_of entries) ≡ cell_without_lines n.main
    main_is = ap main_with h.items ∙ sym (ap cell_without_lines is.main)

    top_same : top_of top (items_at None entries) (cells_of entries) ≡ n.top
    top_same = same_top top (items_at None entries) n.main.items (cells_of entries) n.cells h.items h.cells ∙ sym is.top_is

-- ## No fault of the netlist as a whole

top_none : (top : Option (List ℕ)) (n : Netlist) (cells : List Cell) → IsNetlist top n → map name_of_cell cells ≡ map name_of_cell n.cells → top_fault cells top ≡ None
top_none None n cells is names = refl
top_none (Some name) n cells is names =
    let among : IsTrue (is_among (map name_of_cell n.cells) name) = rw is.top_is at is.well_formed.top in
    rw (names, among) refl

ending_none : (entries : List Entry) (top : Option (List ℕ)) (n : Netlist) → IsNetlist top n → level_behind None entries ≡ None → AreGiven entries n → All (IsSoundInstance n.cells) (instances entries) → ending_fault entries top ≡ None
unfolding ending_fault
ending_none entries top n is behind h sound = rw (behind, no_instance_fault cells (instances entries) found, no_endless_fault cells (instances entries) ended) (top_none top n cells is names)
  where
    cells : List Cell
    cells = cells_of entries

    names : map name_of_cell cells ≡ map name_of_cell n.cells
    names = sym (names_alike cells) ∙ ap (map name_of_cell) h.cells ∙ names_alike n.cells

    found : All (HasCell cells) (instances entries)
    found = All-weaker (IsSoundInstance n.cells) (HasCell cells) (λ (x : InstCard) (s : IsSoundInstance n.cells x). same_cause cells n.cells h.cells x ∙ s.0) (instances entries) sound

    ended : All (HasEnd cells) (instances entries)
    ended = All-weaker (IsSoundInstance n.cells) (HasEnd cells) (λ (x : InstCard) (s : IsSoundInstance n.cells x). same_endless cells n.cells h.cells x.cell ∙ s.1) (instances entries) sound

-- ## All of it

pub rebuilt : (i : ℕ) (top : Option (List ℕ)) (n : Netlist) → IsNetlist top n → IsRebuilt (numbered i (printed_cards n)) top n
rebuilt i top n is =
    let entries : List Entry = numbered i (printed_cards n) in
    let h : AreGiven entries n = given i n is.well_formed in
    let sound : All (IsSound n.cells) (printed_cards n) = sound_cards n is.well_formed in
    let behind : level_behind None entries ≡ None = (given_all i n).behind in
    record {
      building = faultless i n is.well_formed;
      ending = ending_none entries top n is behind h (sound_instances n.cells i (printed_cards n) sound);
      alike = alike entries top n is h;
      formed = formed_entries n.cells i (printed_cards n) sound;
    }
