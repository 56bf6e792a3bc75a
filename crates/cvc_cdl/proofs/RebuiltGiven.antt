-- What a part of a printed netlist gives, where it begins and ends outside of cells: global nets, parameters, cells, and items of the main level.
use Rattle.std.proofs.Common.{◌≡◌, ℕ, ◌+◌, List, [], ◌∷◌, ◌++◌, length, map, flat_map, cond, Some, None, bytes_eq, refl, sym, ap, ◌∙◌}
use Rattle.std.proofs.lemmas.List.{map-append}
use Rattle.std.proofs.lemmas.List.Concat.{flat_map-append}
use Rattle.cvc_base.specs.declared.param.Pair.{Pair}
use Rattle.cvc_card.specs.declared.card.CellCard.{CellCard}
use Rattle.cvc_cdl.specs.declared.netlist.Cell.{Cell}
use Rattle.cvc_cdl.specs.declared.netlist.Global.{Global}
use Rattle.cvc_cdl.specs.declared.netlist.Item.{Item}
use Rattle.cvc_cdl.specs.declared.netlist.Item.TheVariants.{Device, Inst}
use Rattle.cvc_cdl.specs.Levels.{Entry, level_behind, cell_cards}
use Rattle.cvc_cdl.specs.Netlist.{name_of_global, mentions}
use Rattle.cvc_cdl.specs.Building.{name_of_item}
use Rattle.cvc_cdl.specs.Alike.{item_without_line, cell_without_lines, global_without_line}
use Rattle.cvc_cdl.specs.Printed.{cell_cards as printed_cell}
use Rattle.cvc_cdl.proofs.RebuiltParts.{items_from, pairs_from, behind-append, behind-nil, items-append, items-nil, pairs-append, pairs-nil, cell_cards-append, cell_cards-nil, mentions-append, mentions-nil}

-- ## What is printed, on its lines

abbrev pub item_on : ℕ → Item → Item
item_on i (Device d) = Device (record d { line = i })
item_on i (Inst x) = Inst (record x { line = i })

abbrev pub items_on : ℕ → List Item → List Item
items_on i [] = []
items_on i (item ∷ items) = item_on i item ∷ items_on (i + 1) items

abbrev pub cells_on : ℕ → List Cell → List Cell
cells_on i [] = []
cells_on i (c ∷ cs) = record c { items = items_on (i + 1) c.items; line = i } ∷ cells_on (i + length (printed_cell c)) cs

abbrev pub global_on : ℕ → Global → Global
global_on i g = record g { line = i }

abbrev pub card_of_cell : Cell → CellCard
card_of_cell c = record { name = c.name; ports = c.ports; pairs = c.pairs; line = c.line }

-- the items of the cells of a name
abbrev pub some_items : List ℕ → Cell → List Item
some_items name c = cond (bytes_eq name c.name) c.items []

abbrev pub items_in : List Cell → List ℕ → List Item
items_in cells name = flat_map (some_items name) cells

pub items_on-alike : (i : ℕ) (items : List Item) → map item_without_line (items_on i items) ≡ map item_without_line items
items_on-alike i [] = refl
items_on-alike i (Device d ∷ items) = ap (λ (xs : List Item). Device (record d { line = 0 }) ∷ xs) (items_on-alike (i + 1) items)
items_on-alike i (Inst x ∷ items) = ap (λ (xs : List Item). Inst (record x { line = 0 }) ∷ xs) (items_on-alike (i + 1) items)

pub items_on-names : (i : ℕ) (items : List Item) → map name_of_item (items_on i items) ≡ map name_of_item items
items_on-names i [] = refl
items_on-names i (Device d ∷ items) = ap (λ (xs : List (List ℕ)). d.name ∷ xs) (items_on-names (i + 1) items)
items_on-names i (Inst x ∷ items) = ap (λ (xs : List (List ℕ)). x.name ∷ xs) (items_on-names (i + 1) items)

pub cells_on-alike : (i : ℕ) (cells : List Cell) → map cell_without_lines (cells_on i cells) ≡ map cell_without_lines cells
cells_on-alike i [] = refl
cells_on-alike i (c ∷ cs) = rw (items_on-alike (i + 1) c.items) (ap (λ (xs : List Cell). cell_without_lines c ∷ xs) (cells_on-alike (i + length (printed_cell c)) cs))

pub cells_on-names : (i : ℕ) (cells : List Cell) → map (λ (c : Cell). c.name) (cells_on i cells) ≡ map (λ (c : Cell). c.name) cells
cells_on-names i [] = refl
cells_on-names i (c ∷ cs) = ap (λ (xs : List (List ℕ)). c.name ∷ xs) (cells_on-names (i + length (printed_cell c)) cs)

pub globals_on-alike : (i : ℕ) (globals : List Global) → map global_without_line (map (global_on i) globals) ≡ map global_without_line globals
globals_on-alike i [] = refl
globals_on-alike i (g ∷ gs) = ap (λ (xs : List Global). global_without_line g ∷ xs) (globals_on-alike i gs)

pub globals_on-names : (i : ℕ) (globals : List Global) → map name_of_global (map (global_on i) globals) ≡ map name_of_global globals
globals_on-names i [] = refl
globals_on-names i (g ∷ gs) = ap (λ (xs : List (List ℕ)). g.name ∷ xs) (globals_on-names i gs)

-- ## What a part gives

pub record Gives (entries : List Entry) (globals : List Global) (params : List Pair) (cells : List Cell) (main : List Item) : Type 0 where
  pub behind : level_behind None entries ≡ None
  pub globals_are : mentions entries ≡ globals
  pub params_are : pairs_from None None entries ≡ params
  pub no_params : (name : List ℕ) → pairs_from (Some name) None entries ≡ []
  pub cells_are : cell_cards entries ≡ map card_of_cell cells
  pub main_is : items_from None None entries ≡ main
  pub items_are : (name : List ℕ) → items_from (Some name) None entries ≡ items_in cells name

pub none_given : Gives [] [] [] [] []
none_given = record {
  behind = behind-nil None;
  globals_are = mentions-nil;
  params_are = pairs-nil None None;
  no_params = λ name. pairs-nil (Some name) None;
  cells_are = cell_cards-nil;
  main_is = items-nil None None;
  items_are = λ name. items-nil (Some name) None;
}

pub both_given : (xs ys : List Entry) (g h : List Global) (p q : List Pair) (c d : List Cell) (m n : List Item) → Gives xs g p c m → Gives ys h q d n → Gives (xs ++ ys) (g ++ h) (p ++ q) (c ++ d) (m ++ n)
both_given xs ys g h p q c d m n a b = record {
  behind = behind-append None xs ys ∙ rw a.behind b.behind;
  globals_are = mentions-append xs ys ∙ rw (a.globals_are, b.globals_are) refl;
  params_are = pairs-append None None xs ys ∙ rw (a.behind, a.params_are, b.params_are) refl;
  no_params = λ name. pairs-append (Some name) None xs ys ∙ rw (a.behind, a.no_params name, b.no_params name) refl;
  cells_are = cell_cards-append xs ys ∙ rw (a.cells_are, b.cells_are) (sym (map-append card_of_cell c d));
  main_is = items-append None None xs ys ∙ rw (a.behind, a.main_is, b.main_is) refl;
  items_are = λ name. items-append (Some name) None xs ys ∙ rw (a.behind, a.items_are name, b.items_are name) (sym (flat_map-append (some_items name) c d));
}
