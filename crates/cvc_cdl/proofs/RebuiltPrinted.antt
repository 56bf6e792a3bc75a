-- What each part of a printed netlist gives, and what the whole gives.
use Rattle.std.proofs.Common.{◌≡◌, ℕ, ◌+◌, List, [], ◌∷◌, ◌++◌, length, map, flat_map, Bool, true, false, cond, Option, Some, None, refl, ap, ◌∙◌, subst}
use Rattle.std.proofs.lemmas.List.{append-nil}
use Rattle.cvc_base.specs.declared.param.Pair.{Pair}
use Rattle.cvc_card.specs.declared.card.Card.{Card}
use Rattle.cvc_card.specs.declared.card.Card.TheVariants as cards
use Rattle.cvc_cdl.specs.declared.netlist.Cell.{Cell}
use Rattle.cvc_cdl.specs.declared.netlist.Global.{Global}
use Rattle.cvc_cdl.specs.declared.netlist.Item.{Item}
use Rattle.cvc_cdl.specs.declared.netlist.Item.TheVariants.{Device, Inst}
use Rattle.cvc_cdl.specs.declared.netlist.Netlist.{Netlist}
use Rattle.cvc_cdl.specs.Levels.{Entry, Level, level_behind, same_level, cell_cards}
use Rattle.cvc_cdl.specs.Netlist.{name_of_global, mentions}
use Rattle.cvc_cdl.specs.Printed.{global_cards, param_cards, item_cards, cell_cards as printed_cell, printed_cards, numbered}
use Rattle.cvc_cdl.proofs.RebuiltParts.{items_from, pairs_from, behind-append, behind-nil, behind-cons, items-append, items-nil, items-cons, pairs-append, pairs-nil, pairs-cons, cell_cards-append, cell_cards-nil, cell_cards-cons, mentions-append, mentions-nil, mentions-cons, numbered-nil, numbered-cons, numbered-append}
use Rattle.cvc_cdl.proofs.RebuiltTwice.{map-map}
use Rattle.cvc_cdl.proofs.RebuiltGiven.{item_on, items_on, cells_on, global_on, Gives, none_given, both_given}

pub either_way : {A : Type 0} (b : Bool) (x : A) → cond b x x ≡ x
either_way true x = refl
either_way false x = refl

-- ## Items on their lines, at a level

abbrev pub item_entries : ℕ → List Item → List Entry
item_entries i items = numbered i (item_cards items)

pub behind_items : (level : Level) (i : ℕ) (items : List Item) → level_behind level (item_entries i items) ≡ level
behind_items level i [] = rw (numbered-nil i) (behind-nil level)
behind_items level i (Device d ∷ items) = rw (numbered-cons i (cards.Device d) (item_cards items), behind-cons) (behind_items level (i + 1) items)
behind_items level i (Inst x ∷ items) = rw (numbered-cons i (cards.Inst x) (item_cards items), behind-cons) (behind_items level (i + 1) items)

pub items_here : (level start : Level) (i : ℕ) (items : List Item) → items_from level start (item_entries i items) ≡ cond (same_level level start) (items_on i items) []
items_here level start i items = go (same_level level start) refl i items
  where
    go : (b : Bool) → same_level level start ≡ b → (i : ℕ) (items : List Item) → items_from level start (item_entries i items) ≡ cond b (items_on i items) []
    go true h i [] = rw (numbered-nil i) (items-nil level start)
    go false h i [] = rw (numbered-nil i) (items-nil level start)
    go true h i (Device d ∷ items) = rw (numbered-cons i (cards.Device d) (item_cards items)) (items-cons level start _ _ ∙ rw h (ap (λ (xs : List Item). item_on i (Device d) ∷ xs) (go true h (i + 1) items)))
    go true h i (Inst x ∷ items) = rw (numbered-cons i (cards.Inst x) (item_cards items)) (items-cons level start _ _ ∙ rw h (ap (λ (xs : List Item). item_on i (Inst x) ∷ xs) (go true h (i + 1) items)))
    go false h i (Device d ∷ items) = rw (numbered-cons i (cards.Device d) (item_cards items)) (items-cons level start _ _ ∙ rw h (go false h (i + 1) items))
    go false h i (Inst x ∷ items) = rw (numbered-cons i (cards.Inst x) (item_cards items)) (items-cons level start _ _ ∙ rw h (go false h (i + 1) items))

pub pairs_here : (level start : Level) (i : ℕ) (items : List Item) → pairs_from level start (item_entries i items) ≡ []
pairs_here level start i [] = rw (numbered-nil i) (pairs-nil level start)
pairs_here level start i (Device d ∷ items) = rw (numbered-cons i (cards.Device d) (item_cards items)) (pairs-cons level start _ _ ∙ rw (either_way {A = List Pair} (same_level level start) []) (pairs_here level start (i + 1) items))
pairs_here level start i (Inst x ∷ items) = rw (numbered-cons i (cards.Inst x) (item_cards items)) (pairs-cons level start _ _ ∙ rw (either_way {A = List Pair} (same_level level start) []) (pairs_here level start (i + 1) items))

pub no_cells : (i : ℕ) (items : List Item) → cell_cards (item_entries i items) ≡ []
no_cells i [] = rw (numbered-nil i) cell_cards-nil
no_cells i (Device d ∷ items) = rw (numbered-cons i (cards.Device d) (item_cards items)) (cell_cards-cons _ _ ∙ no_cells (i + 1) items)
no_cells i (Inst x ∷ items) = rw (numbered-cons i (cards.Inst x) (item_cards items)) (cell_cards-cons _ _ ∙ no_cells (i + 1) items)

no_globals : (i : ℕ) (items : List Item) → mentions (item_entries i items) ≡ []
no_globals i [] = rw (numbered-nil i) mentions-nil
no_globals i (Device d ∷ items) = rw (numbered-cons i (cards.Device d) (item_cards items)) (mentions-cons _ _ ∙ no_globals (i + 1) items)
no_globals i (Inst x ∷ items) = rw (numbered-cons i (cards.Inst x) (item_cards items)) (mentions-cons _ _ ∙ no_globals (i + 1) items)

pub given_items : (i : ℕ) (items : List Item) → Gives (item_entries i items) [] [] [] (items_on i items)
given_items i items = record {
  behind = behind_items None i items;
  globals_are = no_globals i items;
  params_are = pairs_here None None i items;
  no_params = λ name. pairs_here (Some name) None i items;
  cells_are = no_cells i items;
  main_is = items_here None None i items;
  items_are = λ name. items_here (Some name) None i items;
}

-- ## Global nets and parameters

given_globals : (i : ℕ) (globals : List Global) → Gives (numbered i (global_cards globals)) (map (global_on i) globals) [] [] []
given_globals i [] = rw (numbered-nil i) none_given
given_globals i (g ∷ gs) =
    let names : List (List ℕ) = map name_of_global (g ∷ gs) in
    rw (numbered-cons i (cards.Global names) [], numbered-nil (i + 1)) record {
      behind = behind-cons None _ [] ∙ behind-nil None;
      globals_are = mentions-cons _ [] ∙ rw mentions-nil (append-nil _ ∙ map-map (λ (name : List ℕ). record { name = name; line = i }) name_of_global (g ∷ gs));
      params_are = pairs-cons None None _ [] ∙ pairs-nil None None;
      no_params = λ name. pairs-cons (Some name) None _ [] ∙ pairs-nil (Some name) None;
      cells_are = cell_cards-cons _ [] ∙ cell_cards-nil;
      main_is = items-cons None None _ [] ∙ items-nil None None;
      items_are = λ name. items-cons (Some name) None _ [] ∙ items-nil (Some name) None;
    }

given_params : (i : ℕ) (params : List Pair) → Gives (numbered i (param_cards params)) [] params [] []
given_params i [] = rw (numbered-nil i) none_given
given_params i (p ∷ ps) =
    rw (numbered-cons i (cards.Params (p ∷ ps)) [], numbered-nil (i + 1)) record {
      behind = behind-cons None _ [] ∙ behind-nil None;
      globals_are = mentions-cons _ [] ∙ mentions-nil;
      params_are = pairs-cons None None _ [] ∙ rw (pairs-nil None None) (append-nil (p ∷ ps));
      no_params = λ name. pairs-cons (Some name) None _ [] ∙ pairs-nil (Some name) None;
      cells_are = cell_cards-cons _ [] ∙ cell_cards-nil;
      main_is = items-cons None None _ [] ∙ items-nil None None;
      items_are = λ name. items-cons (Some name) None _ [] ∙ items-nil (Some name) None;
    }

-- ## Cells

-- the entries of a cell: its begin, its items and its end
abbrev pub begin_on : ℕ → Cell → Entry
begin_on i c = record { card = cards.Subckt (record { name = c.name; ports = c.ports; pairs = c.pairs; line = i }); line = i }

abbrev pub end_on : ℕ → Entry
end_on j = record { card = cards.Ends None; line = j }

abbrev pub end_line : ℕ → Cell → ℕ
end_line i c = (i + 1) + length (item_cards c.items)

pub cell_entries-is : (i : ℕ) (c : Cell) → numbered i (printed_cell c) ≡ begin_on i c ∷ (item_entries (i + 1) c.items ++ end_on (end_line i c) ∷ [])
cell_entries-is i c =
    numbered-cons i _ (item_cards c.items ++ cards.Ends None ∷ [])
    ∙ ap (λ (es : List Entry). begin_on i c ∷ es)
    (numbered-append (i + 1) (item_cards c.items) (cards.Ends None ∷ [])
    ∙ rw (numbered-cons (end_line i c) (cards.Ends None) [], numbered-nil (end_line i c + 1)) refl)

cell_items : (level : Level) (i : ℕ) (c : Cell) → items_from level None (numbered i (printed_cell c)) ≡ cond (same_level level (Some c.name)) (items_on (i + 1) c.items) [] ++ []
cell_items level i c =
    let more : List Entry = item_entries (i + 1) c.items in
    let last : List Entry = end_on (end_line i c) ∷ [] in
    let end : items_from level (level_behind (Some c.name) more) last ≡ [] =
    items-cons level (level_behind (Some c.name) more) _ [] ∙ rw (either_way {A = Option Item} (same_level level (level_behind (Some c.name) more)) None) (items-nil level None) in
    rw (cell_entries-is i c)
    (items-cons level None _ (more ++ last)
    ∙ rw (either_way {A = Option Item} (same_level level None) None)
    (items-append level (Some c.name) more last ∙ rw (end, items_here level (Some c.name) (i + 1) c.items) refl))

cell_pairs : (level : Level) (i : ℕ) (c : Cell) → pairs_from level None (numbered i (printed_cell c)) ≡ []
cell_pairs level i c =
    let more : List Entry = item_entries (i + 1) c.items in
    let last : List Entry = end_on (end_line i c) ∷ [] in
    let end : pairs_from level (level_behind (Some c.name) more) last ≡ [] =
    pairs-cons level (level_behind (Some c.name) more) _ [] ∙ rw (either_way {A = List Pair} (same_level level (level_behind (Some c.name) more)) []) (pairs-nil level None) in
    rw (cell_entries-is i c)
    (pairs-cons level None _ (more ++ last)
    ∙ rw (either_way {A = List Pair} (same_level level None) [])
    (pairs-append level (Some c.name) more last ∙ rw (end, pairs_here level (Some c.name) (i + 1) c.items) refl))

cell_behind : (i : ℕ) (c : Cell) → level_behind None (numbered i (printed_cell c)) ≡ None
cell_behind i c =
    let more : List Entry = item_entries (i + 1) c.items in
    let last : List Entry = end_on (end_line i c) ∷ [] in
    rw (cell_entries-is i c)
    (behind-cons None _ (more ++ last) ∙ behind-append (Some c.name) more last ∙ behind-cons (level_behind (Some c.name) more) _ [] ∙ behind-nil None)

cell_cards_one : (i : ℕ) (c : Cell) → cell_cards (numbered i (printed_cell c)) ≡ record { name = c.name; ports = c.ports; pairs = c.pairs; line = i } ∷ []
cell_cards_one i c =
    let more : List Entry = item_entries (i + 1) c.items in
    let last : List Entry = end_on (end_line i c) ∷ [] in
    rw (cell_entries-is i c)
    (cell_cards-cons _ (more ++ last) ∙ rw (cell_cards-append more last, no_cells (i + 1) c.items, cell_cards-cons _ [], cell_cards-nil) refl)

cell_mentions : (i : ℕ) (c : Cell) → mentions (numbered i (printed_cell c)) ≡ []
cell_mentions i c =
    let more : List Entry = item_entries (i + 1) c.items in
    let last : List Entry = end_on (end_line i c) ∷ [] in
    rw (cell_entries-is i c)
    (mentions-cons _ (more ++ last) ∙ mentions-append more last ∙ rw (no_globals (i + 1) c.items, mentions-cons _ [], mentions-nil) refl)

abbrev pub cell_on : ℕ → Cell → Cell
cell_on i c = record c { items = items_on (i + 1) c.items; line = i }

pub given_cell : (i : ℕ) (c : Cell) → Gives (numbered i (printed_cell c)) [] [] (cell_on i c ∷ []) []
given_cell i c = record {
  behind = cell_behind i c;
  globals_are = cell_mentions i c;
  params_are = cell_pairs None i c;
  no_params = λ name. cell_pairs (Some name) i c;
  cells_are = cell_cards_one i c;
  main_is = cell_items None i c;
  items_are = λ name. cell_items (Some name) i c;
}

pub given_cells : (i : ℕ) (cells : List Cell) → Gives (numbered i (flat_map printed_cell cells)) [] [] (cells_on i cells) []
given_cells i [] = rw (numbered-nil i) none_given
given_cells i (c ∷ cs) =
    let j : ℕ = i + length (printed_cell c) in
    rw (numbered-append i (printed_cell c) (flat_map printed_cell cs))
    (both_given (numbered i (printed_cell c)) (numbered j (flat_map printed_cell cs)) [] [] [] [] (cell_on i c ∷ []) (cells_on j cs) [] [] (given_cell i c) (given_cells j cs))

-- ## All of it

abbrev pub head_cards : Netlist → List Card
head_cards n = global_cards n.globals ++ param_cards n.params

-- the lines where the cells and the main level begin
abbrev pub cells_line : ℕ → Netlist → ℕ
cells_line i n = i + length (head_cards n)

abbrev pub main_line : ℕ → Netlist → ℕ
main_line i n = i + length (head_cards n ++ flat_map printed_cell n.cells)

pub printed-is : (i : ℕ) (n : Netlist) → numbered i (printed_cards n) ≡ (numbered i (head_cards n) ++ numbered (cells_line i n) (flat_map printed_cell n.cells)) ++ item_entries (main_line i n) n.main.items
unfolding printed_cards
printed-is i n =
    numbered-append i (head_cards n ++ flat_map printed_cell n.cells) (item_cards n.main.items)
    ∙ ap (λ (es : List Entry). es ++ item_entries (main_line i n) n.main.items) (numbered-append i (head_cards n) (flat_map printed_cell n.cells))

pub given_head : (i : ℕ) (n : Netlist) → Gives (numbered i (head_cards n)) (map (global_on i) n.globals) n.params [] []
given_head i n =
    let j : ℕ = i + length (global_cards n.globals) in
    rw (numbered-append i (global_cards n.globals) (param_cards n.params))
    (subst (λ (gs : List Global). Gives (numbered i (global_cards n.globals) ++ numbered j (param_cards n.params)) gs n.params [] []) (append-nil (map (global_on i) n.globals))
    (both_given (numbered i (global_cards n.globals)) (numbered j (param_cards n.params)) (map (global_on i) n.globals) [] [] n.params [] [] [] [] (given_globals i n.globals) (given_params j n.params)))

pub given_all : (i : ℕ) (n : Netlist) → Gives (numbered i (printed_cards n)) (map (global_on i) n.globals) n.params (cells_on (cells_line i n) n.cells) (items_on (main_line i n) n.main.items)
given_all i n =
    let cells : List Cell = cells_on (cells_line i n) n.cells in
    let main : List Item = items_on (main_line i n) n.main.items in
    let globals : List Global = map (global_on i) n.globals in
    let front = both_given (numbered i (head_cards n)) (numbered (cells_line i n) (flat_map printed_cell n.cells)) globals [] n.params [] [] cells [] [] (given_head i n) (given_cells (cells_line i n) n.cells) in
    let all = both_given _ (item_entries (main_line i n) n.main.items) (globals ++ []) [] (n.params ++ []) [] cells [] [] main front (given_items (main_line i n) n.main.items) in
    rw (printed-is i n) (simp append-nil at all)
