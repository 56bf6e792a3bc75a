-- No card of a printed netlist has a fault by the cards before it.
use Rattle.std.proofs.Common.{◌≡◌, ℕ, ◌+◌, List, [], ◌∷◌, ◌++◌, length, map, flat_map, false, Option, Some, None, bytes_eq, All, refl, ap, ◌∙◌}
use Rattle.std.specs.List.{list_any}
use Rattle.std.proofs.lemmas.Bool.{or_parts}
use Rattle.std.proofs.lemmas.List.{append_assoc, map-append}
use Rattle.std.proofs.lemmas.List.Elements.{All-head, All-tail}
use Rattle.cvc_base.specs.declared.param.Pair.{Pair}
use Rattle.cvc_card.specs.declared.card.Card.TheVariants as cards
use Rattle.cvc_card.specs.declared.card.CellCard.{CellCard}
use Rattle.cvc_card.specs.Card.{has_twice}
use Rattle.cvc_cdl.specs.declared.netlist.Cell.{Cell}
use Rattle.cvc_cdl.specs.declared.netlist.Global.{Global}
use Rattle.cvc_cdl.specs.declared.netlist.Item.{Item}
use Rattle.cvc_cdl.specs.declared.netlist.Item.TheVariants.{Device, Inst}
use Rattle.cvc_cdl.specs.declared.netlist.Netlist.{Netlist}
use Rattle.cvc_cdl.specs.Levels.{Entry, Level, level_behind, level_after, same_level, items_at, item_in}
use Rattle.cvc_cdl.specs.Netlist.{name_of_cell, name_of_global}
use Rattle.cvc_cdl.specs.Building.{name_of_item, is_taken, has_begun, first_fault, building_fault, cause_at}
use Rattle.cvc_cdl.specs.WellFormed.{IsFormedLevel, IsWellFormed}
use Rattle.cvc_cdl.specs.Printed.{global_cards, param_cards, item_card, item_cards, cell_cards as printed_cell, printed_cards, at_line, numbered}
use Rattle.cvc_cdl.proofs.RebuiltParts.{items_at-is, items_push, behind_push, behind-append, same_level-self, first-nil, first_none-cons, first_none-append, numbered-nil, numbered-cons, numbered-append}
use Rattle.cvc_cdl.proofs.RebuiltTwice.{not_before, map-map}
use Rattle.cvc_cdl.proofs.RebuiltGiven.{item_on, cells_on, global_on, card_of_cell, items_in, Gives, both_given}
use Rattle.cvc_cdl.proofs.RebuiltPrinted.{either_way, item_entries, behind_items, begin_on, end_on, end_line, cell_entries-is, cell_on, given_cell, head_cards, given_head, given_cells, cells_line, main_line, printed-is}

-- ## Items at a level

-- the names of the items there so far, and of those to come, are once each
record IsBefore (level : Level) (earlier : List Entry) (names : List (List ℕ)) (items : List Item) : Type 0 where
  behind : level_behind None earlier ≡ level
  are : map name_of_item (items_at level earlier) ≡ names
  once : has_twice (names ++ map name_of_item items) ≡ false

fresh : (level : Level) (earlier : List Entry) (names : List (List ℕ)) (item : Item) (items : List Item) → IsBefore level earlier names (item ∷ items) → is_taken (level_behind None earlier) earlier (name_of_item item) ≡ false
fresh level earlier names item items h = rw (h.behind, h.are) (not_before names (map name_of_item items) (name_of_item item) h.once)

item_cause : (earlier : List Entry) (i : ℕ) (item : Item) → is_taken (level_behind None earlier) earlier (name_of_item item) ≡ false → cause_at (level_behind None earlier) earlier (at_line i (item_card item)) ≡ None
item_cause earlier i (Device d) h = rw h refl
item_cause earlier i (Inst x) h = rw h refl

item_after : (level : Level) (i : ℕ) (item : Item) → level_after level (at_line i (item_card item)) ≡ level
item_after level i (Device d) = refl
item_after level i (Inst x) = refl

item_is : (i : ℕ) (item : Item) → item_in (at_line i (item_card item)) ≡ Some (item_on i item)
item_is i (Device d) = refl
item_is i (Inst x) = refl

name_on : (i : ℕ) (item : Item) → name_of_item (item_on i item) ≡ name_of_item item
name_on i (Device d) = refl
name_on i (Inst x) = refl

next : (level : Level) (earlier : List Entry) (names : List (List ℕ)) (item : Item) (items : List Item) (i : ℕ) → IsBefore level earlier names (item ∷ items)
    → IsBefore level (earlier ++ record { card = at_line i (item_card item); line = i } ∷ []) (names ++ name_of_item item ∷ []) items
next level earlier names item items i h = record {
  behind = behind_push earlier _ ∙ rw h.behind (item_after level i item);
  are =
      ap (map name_of_item) (items_push level earlier _)
      ∙ rw (h.behind, same_level-self level, item_is i item) (map-append name_of_item (items_at level earlier) (item_on i item ∷ []) ∙ rw (h.are, name_on i item) refl);
  once = rw (append_assoc names (name_of_item item ∷ []) (map name_of_item items)) h.once;
}

items_faultless : (level : Level) (i : ℕ) (items : List Item) (earlier : List Entry) (names : List (List ℕ)) → IsBefore level earlier names items → first_fault earlier (item_entries i items) ≡ None
items_faultless level i [] earlier names h = rw (numbered-nil i) (first-nil earlier)
items_faultless level i (item ∷ items) earlier names h =
    rw (numbered-cons i (item_card item) (item_cards items))
    (first_none-cons earlier _ (item_entries (i + 1) items)
    (item_cause earlier i item (fresh level earlier names item items h))
    (items_faultless level (i + 1) items _ (names ++ name_of_item item ∷ []) (next level earlier names item items i h)))

-- ## Cells

pub no_items : (cells : List Cell) (name : List ℕ) → list_any (bytes_eq name) (map name_of_cell cells) ≡ false → items_in cells name ≡ []
no_items [] name h = refl
no_items (c ∷ cs) name h =
    let parts = or_parts (bytes_eq name c.name) (list_any (bytes_eq name) (map name_of_cell cs)) h in
    rw parts.0 (no_items cs name parts.1)

cell_faultless : (cells : List Cell) (i : ℕ) (c : Cell) (earlier : List Entry) (g : List Global) (p : List Pair) (done : List Cell) (m : List Item)
    → Gives earlier g p done m → list_any (bytes_eq c.name) (map name_of_cell done) ≡ false → IsFormedLevel cells c → first_fault earlier (numbered i (printed_cell c)) ≡ None
cell_faultless cells i c earlier g p done m h new formed =
    rw (cell_entries-is i c)
    (first_none-cons earlier begin (more ++ last) begins
    (first_none-append (earlier ++ begin ∷ []) more last
    (items_faultless (Some c.name) (i + 1) c.items (earlier ++ begin ∷ []) [] record {
      behind = behind_push earlier begin;
      are = empty;
      once = formed.names;
    })
    (first_none-cons ((earlier ++ begin ∷ []) ++ more) (end_on (end_line i c)) [] ends (first-nil _))))
  where
    begin : Entry
    begin = begin_on i c

    more : List Entry
    more = item_entries (i + 1) c.items

    last : List Entry
    last = end_on (end_line i c) ∷ []

    begun : has_begun earlier c.name ≡ false
    begun = rw (h.cells_are, map-map (λ (d : CellCard). d.name) card_of_cell done) new

    begins : cause_at (level_behind None earlier) earlier begin.card ≡ None
    begins = rw (h.behind, begun, formed.ports) refl

    empty : map name_of_item (items_at (Some c.name) (earlier ++ begin ∷ [])) ≡ []
    empty =
        rw (items_push (Some c.name) earlier begin, either_way {A = Option Item} (same_level (Some c.name) (level_behind None earlier)) None, items_at-is (Some c.name) earlier, h.items_are c.name, no_items done c.name new) refl

    ends : cause_at (level_behind None ((earlier ++ begin ∷ []) ++ more)) ((earlier ++ begin ∷ []) ++ more) (cards.Ends None) ≡ None
    ends = rw (behind-append None (earlier ++ begin ∷ []) more, behind_push earlier begin, behind_items (Some c.name) (i + 1) c.items) refl

cells_faultless : (all : List Cell) (i : ℕ) (cells : List Cell) (earlier : List Entry) (g : List Global) (p : List Pair) (done : List Cell) (m : List Item)
    → Gives earlier g p done m → has_twice (map name_of_cell done ++ map name_of_cell cells) ≡ false → All (IsFormedLevel all) cells → first_fault earlier (numbered i (flat_map printed_cell cells)) ≡ None
cells_faultless all i [] earlier g p done m h once formed = rw (numbered-nil i) (first-nil earlier)
cells_faultless all i (c ∷ cs) earlier g p done m h once formed =
    let j : ℕ = i + length (printed_cell c) in
    let now : List Entry = numbered i (printed_cell c) in
    let gives : Gives (earlier ++ now) (g ++ []) (p ++ []) (done ++ cell_on i c ∷ []) (m ++ []) = both_given earlier now g [] p [] done (cell_on i c ∷ []) m [] h (given_cell i c) in
    let once' : has_twice (map name_of_cell (done ++ cell_on i c ∷ []) ++ map name_of_cell cs) ≡ false =
    rw (map-append name_of_cell done (cell_on i c ∷ []), append_assoc (map name_of_cell done) (c.name ∷ []) (map name_of_cell cs)) once in
    rw (numbered-append i (printed_cell c) (flat_map printed_cell cs))
    (first_none-append earlier now (numbered j (flat_map printed_cell cs))
    (cell_faultless all i c earlier g p done m h (not_before (map name_of_cell done) (map name_of_cell cs) c.name once) (All-head (IsFormedLevel all) c cs formed))
    (cells_faultless all j cs (earlier ++ now) (g ++ []) (p ++ []) (done ++ cell_on i c ∷ []) (m ++ []) gives once' (All-tail (IsFormedLevel all) c cs formed)))

-- ## All of it

head_faultless : (i : ℕ) (n : Netlist) → first_fault [] (numbered i (head_cards n)) ≡ None
head_faultless i n =
    rw (numbered-append i (global_cards n.globals) (param_cards n.params))
    (first_none-append [] (numbered i (global_cards n.globals)) _ (global_faultless i n.globals) (params_faultless (i + length (global_cards n.globals)) n.params (numbered i (global_cards n.globals))))
  where
    global_faultless : (i : ℕ) (globals : List Global) → first_fault [] (numbered i (global_cards globals)) ≡ None
    global_faultless i [] = rw (numbered-nil i) (first-nil [])
    global_faultless i (g ∷ gs) = rw (numbered-cons i (cards.Global (map name_of_global (g ∷ gs))) [], numbered-nil (i + 1)) (first_none-cons [] _ [] refl (first-nil _))

    params_faultless : (i : ℕ) (params : List Pair) (earlier : List Entry) → first_fault earlier (numbered i (param_cards params)) ≡ None
    params_faultless i [] earlier = rw (numbered-nil i) (first-nil earlier)
    params_faultless i (p ∷ ps) earlier = rw (numbered-cons i (cards.Params (p ∷ ps)) [], numbered-nil (i + 1)) (first_none-cons earlier _ [] refl (first-nil _))

pub faultless : (i : ℕ) (n : Netlist) → IsWellFormed n → building_fault (numbered i (printed_cards n)) ≡ None
faultless i n h =
    let front : List Entry = numbered i (head_cards n) in
    let cells : List Entry = numbered (cells_line i n) (flat_map printed_cell n.cells) in
    let head : Gives front (map (global_on i) n.globals) n.params [] [] = given_head i n in
    let gives = both_given front cells (map (global_on i) n.globals) [] n.params [] [] (cells_on (cells_line i n) n.cells) [] [] head (given_cells (cells_line i n) n.cells) in
    rw (printed-is i n)
    (first_none-append [] (front ++ cells) (item_entries (main_line i n) n.main.items)
    (first_none-append [] front cells (head_faultless i n) (cells_faultless n.cells (cells_line i n) n.cells front (map (global_on i) n.globals) n.params [] [] head h.cells h.levels))
    (items_faultless None (main_line i n) n.main.items (front ++ cells) [] record {
      behind = gives.behind;
      are = rw (items_at-is None (front ++ cells), gives.main_is) refl;
      once = h.main.names;
    }))
