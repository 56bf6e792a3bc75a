-- What was read is a netlist: where no card has a fault by the cards before it and the netlist as a whole has none, it is well formed.
use Rattle.std.proofs.Common.{◌≡◌, ℕ, List, [], ◌∷◌, ◌++◌, map, Bool, true, false, cond, Option, Some, None, option_map, bytes_eq, All, IfSome, IsTrue, refl, sym, ap, subst, ◌∙◌, inl, inr}
use Rattle.std.specs.List.{cons_option, list_any}
use Rattle.std.proofs.lemmas.Bool.{cases_Bool, or_right, or_left}
use Rattle.std.proofs.lemmas.List.{append_assoc, append-nil, map-append}
use Rattle.std.proofs.lemmas.List.Elements.{All-nil, All-cons, All-head, All-tail, All-push, All-map, All-weaker}
use Rattle.std.proofs.lemmas.Option.{IfSome_then}
use Rattle.std.proofs.lemmas.Slice.Eq.{bytes_eq-Decides}
use Rattle.cvc_base.specs.declared.cause.Cause.{Cause}
use Rattle.cvc_base.specs.declared.cause.Cause.TheVariants.{TwiceCell, TwicePort, TwiceName, NoTop}
use Rattle.cvc_card.specs.declared.card.Card.{Card}
use Rattle.cvc_card.specs.declared.card.Card.TheVariants as cards
use Rattle.cvc_card.specs.declared.card.CellCard.{CellCard}
use Rattle.cvc_card.specs.declared.card.InstCard.{InstCard}
use Rattle.cvc_card.specs.Card.{has_twice}
use Rattle.cvc_card.specs.Formed.{IsFormed}
use Rattle.cvc_card.specs.Parts.{last_of}
use Rattle.cvc_cdl.specs.declared.netlist.Cell.{Cell}
use Rattle.cvc_cdl.specs.declared.netlist.Global.{Global}
use Rattle.cvc_cdl.specs.declared.netlist.Item.{Item}
use Rattle.cvc_cdl.specs.declared.netlist.Item.TheVariants.{Device, Inst}
use Rattle.cvc_cdl.specs.Levels.{Entry, Level, level_behind, level_after, same_level, item_in, items_at, cell_card_in, cell_cards}
use Rattle.cvc_cdl.specs.Netlist.{name_of_cell, name_of_global, mentions, each_once, cell_of, cells_of, top_of, netlist_of}
use Rattle.cvc_cdl.specs.Building.{name_of_item, is_among, is_taken, has_begun, cause_if, subckt_cause, cause_at, cause_of, fault_at, fault_of, or_else, first_fault, building_fault}
use Rattle.cvc_cdl.specs.Ending.{open_fault, instances, instance_in, first_instance_fault, endless_fault, top_fault, ending_fault}
use Rattle.cvc_cdl.specs.WellFormed.{IsFormedItem, IsFormedLevel, IsWellFormed}
use Rattle.cvc_cdl.specs.Builder.{IsFormedEntry}
use Rattle.cvc_cdl.specs.Printed.{IsNetlist}
use Rattle.cvc_cdl.proofs.RebuiltParts.{same_level-true, items_from, items_at-is, items_push, items-nil, items-cons, cell_cards-append, cell_cards-cons, cell_cards-nil, cells_of-is, instances-cons, cause_of-is, first-cons, none_parts, none_from_map}
use Rattle.cvc_cdl.proofs.RebuiltTwice.{push_once, map-map}
use Rattle.cvc_cdl.proofs.RebuiltPrinted.{either_way}
use Rattle.cvc_cdl.proofs.RebuiltEnding.{HasCell, HasEnd, all_have_cells, all_have_ends}

-- ## Names and ports of cards without a fault

record IsFaultless (entries : List Entry) : Type 0 where
  names : (level : Level) → has_twice (map name_of_item (items_at level entries)) ≡ false
  cells : has_twice (map (λ (c : CellCard). c.name) (cell_cards entries)) ≡ false
  ports : All (λ (c : CellCard). has_twice c.ports ≡ false) (cell_cards entries)

no_cause : (holds : Bool) (cause : Cause) → cause_if holds cause ≡ None → holds ≡ false
no_cause true cause h = cc
no_cause false cause h = refl

-- the name of an item is none of those at its level
new_name : (earlier : List Entry) (card : Card) (item : Item) → item_in card ≡ Some item → cause_at (level_behind None earlier) earlier card ≡ None → is_taken (level_behind None earlier) earlier (name_of_item item) ≡ false
new_name earlier (cards.Device d) item is h =
    let same : Device d ≡ item = cc in
    rw (← same) (no_cause _ TwiceName h)
new_name earlier (cards.Inst x) item is h =
    let same : Inst x ≡ item = cc in
    rw (← same) (no_cause _ TwiceName h)
new_name earlier (cards.Subckt c) item is h = cc
new_name earlier (cards.Ends name) item is h = cc
new_name earlier (cards.Global names) item is h = cc
new_name earlier (cards.Params pairs) item is h = cc
new_name earlier cards.Ignored item is h = cc

names_push : (level : Level) (earlier : List Entry) (e : Entry) → has_twice (map name_of_item (items_at level earlier)) ≡ false → cause_at (level_behind None earlier) earlier e.card ≡ None
    → has_twice (map name_of_item (items_at level (earlier ++ e ∷ []))) ≡ false
names_push level earlier e h none = rw (items_push level earlier e) (at (same_level level (level_behind None earlier)) refl (item_in e.card) refl)
  where
    items : List Item
    items = items_at level earlier

    at : (b : Bool) → same_level level (level_behind None earlier) ≡ b → (o : Option Item) → item_in e.card ≡ o → has_twice (map name_of_item (items ++ cons_option (cond b o None) [])) ≡ false
    at false b-is o o-is = rw (append-nil items) h
    at true b-is None o-is = rw (append-nil items) h
    at true b-is (Some item) o-is =
        let here : level ≡ level_behind None earlier = same_level-true level (level_behind None earlier) b-is in
        let new : list_any (bytes_eq (name_of_item item)) (map name_of_item items) ≡ false = rw here (new_name earlier e.card item o-is none) in
        rw (map-append name_of_item items (item ∷ [])) (push_once (map name_of_item items) (name_of_item item) h new)

-- what a card that begins a cell says where it has no fault
begin_facts : (level : Level) (earlier : List Entry) (c : CellCard) → subckt_cause level earlier c ≡ None → (has_begun earlier c.name ≡ false) × (has_twice c.ports ≡ false)
begin_facts (Some name) earlier c h = cc
begin_facts None earlier c h = at (has_begun earlier c.name) (has_twice c.ports) h
  where
    at : (begun twice : Bool) → cond begun (Some TwiceCell) (cause_if twice TwicePort) ≡ None → (begun ≡ false) × (twice ≡ false)
    at true twice h = cc
    at false true h = cc
    at false false h = (refl, refl)

cards_push : (earlier : List Entry) (e : Entry) → cell_cards (earlier ++ e ∷ []) ≡ cell_cards earlier ++ cons_option (cell_card_in e) []
cards_push earlier e = cell_cards-append earlier (e ∷ []) ∙ ap (λ (cs : List CellCard). cell_cards earlier ++ cs) (cell_cards-cons e [] ∙ rw cell_cards-nil refl)

record AreCells (cs : List CellCard) : Type 0 where
  cells : has_twice (map (λ (c : CellCard). c.name) cs) ≡ false
  ports : All (λ (c : CellCard). has_twice c.ports ≡ false) cs

cells_push : (earlier : List Entry) (card : Card) (line : ℕ) → AreCells (cell_cards earlier) → cause_at (level_behind None earlier) earlier card ≡ None → AreCells (cell_cards (earlier ++ record { card = card; line = line } ∷ []))
cells_push earlier (cards.Subckt c) line h none =
    let facts = begin_facts (level_behind None earlier) earlier c none in
    rw (cards_push earlier _) record {
      cells = rw (map-append (λ (d : CellCard). d.name) (cell_cards earlier) (c ∷ [])) (push_once (map (λ (d : CellCard). d.name) (cell_cards earlier)) c.name h.cells facts.0);
      ports = All-push (λ (d : CellCard). has_twice d.ports ≡ false) (cell_cards earlier) c h.ports facts.1;
    }
cells_push earlier (cards.Device d) line h none = rw (cards_push earlier _, append-nil (cell_cards earlier)) h
cells_push earlier (cards.Inst x) line h none = rw (cards_push earlier _, append-nil (cell_cards earlier)) h
cells_push earlier (cards.Ends name) line h none = rw (cards_push earlier _, append-nil (cell_cards earlier)) h
cells_push earlier (cards.Global names) line h none = rw (cards_push earlier _, append-nil (cell_cards earlier)) h
cells_push earlier (cards.Params pairs) line h none = rw (cards_push earlier _, append-nil (cell_cards earlier)) h
cells_push earlier cards.Ignored line h none = rw (cards_push earlier _, append-nil (cell_cards earlier)) h

push : (earlier : List Entry) (e : Entry) → IsFaultless earlier → cause_at (level_behind None earlier) earlier e.card ≡ None → IsFaultless (earlier ++ e ∷ [])
push earlier e h none =
    let cells : AreCells (cell_cards (earlier ++ e ∷ [])) = cells_push earlier e.card e.line (record { cells = h.cells; ports = h.ports }) none in
    record { names = λ level. names_push level earlier e (h.names level) none; cells = cells.cells; ports = cells.ports }

all_faultless : (earlier es : List Entry) → IsFaultless earlier → first_fault earlier es ≡ None → IsFaultless (earlier ++ es)
all_faultless earlier [] h none = rw (append-nil earlier) h
all_faultless earlier (e ∷ es) h none =
    let parts = none_parts (fault_of earlier e) (first_fault (earlier ++ e ∷ []) es) (sym (first-cons earlier e es) ∙ none) in
    let cause = sym (cause_of-is earlier e.card) ∙ none_from_map (fault_at e.line) (cause_of earlier e.card) parts.0 in
    subst IsFaultless (append_assoc earlier (e ∷ []) es) (all_faultless (earlier ++ e ∷ []) es (push earlier e h cause) parts.1)

none_faultless : IsFaultless []
none_faultless = record {
  names = λ level. rw (items_at-is level [], items-nil level None) refl;
  cells = rw cell_cards-nil refl;
  ports = rw cell_cards-nil (All-nil (λ (c : CellCard). has_twice c.ports ≡ false));
}

-- ## Global nets

globals_once : (known gs : List Global) → has_twice (map name_of_global known) ≡ false → has_twice (map name_of_global (each_once known gs)) ≡ false
unfolding each_once
globals_once known [] h = h
globals_once known (g ∷ gs) h = elim (cases_Bool (list_any (bytes_eq g.name) (map name_of_global known))) [
  | inl old ↦ rw old (globals_once known gs h)
  | inr new ↦ rw new (globals_once (known ++ g ∷ []) gs (rw (map-append name_of_global known (g ∷ [])) (push_once (map name_of_global known) g.name h new)))
]

-- ## Items

put : (cells : List Cell) (b : Bool) (item : Item) (items : List Item) → IsFormedItem cells item → All (IsFormedItem cells) items → All (IsFormedItem cells) (cons_option (cond b (Some item) None) items)
put cells true item items h rest = All-cons (IsFormedItem cells) item items h rest
put cells false item items h rest = rest

formed_items : (cells : List Cell) (level start : Level) (es : List Entry) → All IsFormedEntry es → All (HasCell cells) (instances es) → All (HasEnd cells) (instances es) → All (IsFormedItem cells) (items_from level start es)
formed_items cells level start [] formed found ended = rw (items-nil level start) (All-nil (IsFormedItem cells))
formed_items cells level start (e ∷ es) formed found ended =
    rw (items-cons level start e es)
    (at e.card (All-head IsFormedEntry e es formed) (rw instances-cons at found) (rw instances-cons at ended)
    (λ found' ended'. formed_items cells level (level_after start e.card) es (All-tail IsFormedEntry e es formed) found' ended'))
  where
    xs : List InstCard
    xs = instances es

    items : List Item
    items = items_from level (level_after start e.card) es

    b : Bool
    b = same_level level start

    at : (card : Card) → IsFormed e.line card → All (HasCell cells) (cons_option (instance_in card) xs) → All (HasEnd cells) (cons_option (instance_in card) xs) → (All (HasCell cells) xs → All (HasEnd cells) xs → All (IsFormedItem cells) items)
        → All (IsFormedItem cells) (cons_option (cond b (item_in card) None) items)
    at (cards.Device d) h found ended rest = put cells b (Device d) items h.0 (rest found ended)
    at (cards.Inst x) h found ended rest =
        put cells b (Inst x) items (All-head (HasCell cells) x xs found, All-head (HasEnd cells) x xs ended, h.0) (rest (All-tail (HasCell cells) x xs found) (All-tail (HasEnd cells) x xs ended))
    at (cards.Subckt c) h found ended rest = rw (either_way {A = Option Item} b None) (rest found ended)
    at (cards.Ends name) h found ended rest = rw (either_way {A = Option Item} b None) (rest found ended)
    at (cards.Global names) h found ended rest = rw (either_way {A = Option Item} b None) (rest found ended)
    at (cards.Params pairs) h found ended rest = rw (either_way {A = Option Item} b None) (rest found ended)
    at cards.Ignored h found ended rest = rw (either_way {A = Option Item} b None) (rest found ended)

-- ## The top

abbrev IsACell : List Cell → List ℕ → Type 0
IsACell cells name = IsTrue (is_among (map name_of_cell cells) name)

last_is : (cells : List Cell) → IfSome (option_map name_of_cell (last_of cells)) (IsACell cells)
last_is [] = tt
last_is (c ∷ []) = or_left (bytes_eq c.name c.name) false ((bytes_eq-Decides c.name c.name).1 refl)
last_is (c ∷ d ∷ cs) = IfSome_then (option_map name_of_cell (last_of (d ∷ cs))) (last_is (d ∷ cs)) (λ name h. or_right (bytes_eq name c.name) (is_among (map name_of_cell (d ∷ cs)) name) h)

top_is : (top : Option (List ℕ)) (items : List Item) (cells : List Cell) → top_fault cells top ≡ None → IfSome (top_of top items cells) (IsACell cells)
top_is (Some name) items cells h = elim (cases_Bool (is_among (map name_of_cell cells) name)) [
  | inl among ↦ among
  | inr not' ↦ let none : Some (fault_at 0 NoTop) ≡ None = rw not' at h in absurd cc
]
top_is None [] cells h = last_is cells
top_is None (item ∷ items) cells h = tt

-- ## All of it

ending_parts : (entries : List Entry) (top : Option (List ℕ)) → ending_fault entries top ≡ None
    → (first_instance_fault (cells_of entries) (instances entries) ≡ None) × (endless_fault (cells_of entries) (instances entries) ≡ None) × (top_fault (cells_of entries) top ≡ None)
unfolding ending_fault
ending_parts entries top h =
    let cells : List Cell = cells_of entries in
    let xs : List InstCard = instances entries in
    let all = none_parts (open_fault entries) (or_else (first_instance_fault cells xs) (or_else (endless_fault cells xs) (top_fault cells top))) h in
    let first = none_parts (first_instance_fault cells xs) (or_else (endless_fault cells xs) (top_fault cells top)) all.1 in
    let last = none_parts (endless_fault cells xs) (top_fault cells top) first.1 in
    (first.0, last.0, last.1)

pub is_netlist : (entries : List Entry) (top : Option (List ℕ)) → building_fault entries ≡ None → ending_fault entries top ≡ None → All IsFormedEntry entries → IsNetlist top (netlist_of entries top)
unfolding netlist_of
is_netlist entries top building ending formed = record { well_formed = well_formed; main = refl; top_is = refl }
  where
    cells : List Cell
    cells = cells_of entries

    f : IsFaultless entries
    f = all_faultless [] entries none_faultless building

    ends : (first_instance_fault cells (instances entries) ≡ None) × (endless_fault cells (instances entries) ≡ None) × (top_fault cells top ≡ None)
    ends = ending_parts entries top ending

    items : (level : Level) → All (IsFormedItem cells) (items_at level entries)
    items level = rw (items_at-is level entries) (formed_items cells level None entries formed (all_have_cells cells (instances entries) ends.0) (all_have_ends cells (instances entries) ends.1))

    level_of : (c : CellCard) → has_twice c.ports ≡ false → IsFormedLevel cells (cell_of entries c)
    level_of c h = record { ports = h; names = f.names (Some c.name); items = items (Some c.name) }

    levels : All (IsFormedLevel cells) (map (cell_of entries) (cell_cards entries))
    levels = All-map (IsFormedLevel cells) (cell_of entries) (cell_cards entries) (All-weaker (λ (c : CellCard). has_twice c.ports ≡ false) (λ (c : CellCard). IsFormedLevel cells (cell_of entries c)) level_of (cell_cards entries) f.ports)

    names : map name_of_cell cells ≡ map (λ (c : CellCard). c.name) (cell_cards entries)
    names = ap (map name_of_cell) (cells_of-is entries) ∙ map-map name_of_cell (cell_of entries) (cell_cards entries)

    well_formed : IsWellFormed (netlist_of entries top)
    well_formed = record {
      globals = globals_once [] (mentions entries) refl;
      cells = ap has_twice names ∙ f.cells;
      levels = subst (All (IsFormedLevel cells)) (sym (cells_of-is entries)) levels;
      main = record { ports = refl; names = f.names None; items = items None };
      top = top_is top (items_at None entries) cells ends.2;
    }
