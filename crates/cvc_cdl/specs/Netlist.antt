-- The netlist of a list of cards: its global nets by first mention, the pairs of `.PARAM` cards on the main level, its cells in file order, what
-- stands on the main level, and its top. The top is the cell that was asked for; else the main level, if a device or an instance stands there; else the
-- file's last cell; else the empty main level.
use Rattle.std.specs.Prelude.{ℕ, Bool, List, [], ◌∷◌, ◌++◌, map, Option, Some, None, if◌then◌else◌}
use Rattle.std.specs.List.{flat_map, list_any}
use Rattle.std.specs.Option.{option_map}
use Rattle.std.specs.Str.{bytes_eq}
use Rattle.cvc_card.specs.declared.card.Card.{Card}
use Rattle.cvc_card.specs.declared.card.Card.TheVariants.{Device, Inst, Subckt, Ends, Global, Params, Ignored}
use Rattle.cvc_card.specs.declared.card.CellCard.{CellCard}
use Rattle.cvc_card.specs.Parts.{last_of}
use Rattle.cvc_cdl.specs.declared.netlist.Cell.{Cell}
use Rattle.cvc_cdl.specs.declared.netlist.Global.{Global as GlobalNet}
use Rattle.cvc_cdl.specs.declared.netlist.Item.{Item}
use Rattle.cvc_cdl.specs.declared.netlist.Netlist.{Netlist}
use Rattle.cvc_cdl.specs.Levels.{Entry, items_at, pairs_at, cell_cards}

-- ## Global nets

abbrev pub globals_in : ℕ → Card → List GlobalNet
globals_in line (Global names) = map (λ name. record { name = name; line = line }) names
globals_in line (Device d) = []
globals_in line (Inst x) = []
globals_in line (Subckt c) = []
globals_in line (Ends name) = []
globals_in line (Params pairs) = []
globals_in line Ignored = []

-- the names of all cards that name global nets, with the card's line
unfoldable pub mentions : List Entry → List GlobalNet
mentions entries = flat_map (λ (e : Entry). globals_in e.line e.card) entries

abbrev pub name_of_global : GlobalNet → List ℕ
name_of_global g = g.name

abbrev pub is_known : List GlobalNet → List ℕ → Bool
is_known known name = list_any (bytes_eq name) (map name_of_global known)

-- those that are known, and then each further one where it is first mentioned
unfoldable pub each_once : List GlobalNet → List GlobalNet → List GlobalNet
each_once known [] = known
each_once known (g ∷ gs) = each_once (if is_known known g.name then known else known ++ g ∷ []) gs

abbrev pub globals_of : List Entry → List GlobalNet
globals_of entries = each_once [] (mentions entries)

-- ## Cells

abbrev pub cell_of : List Entry → CellCard → Cell
cell_of entries c = record { name = c.name; ports = c.ports; pairs = c.pairs ++ pairs_at (Some c.name) entries; items = items_at (Some c.name) entries; line = c.line }

unfoldable pub cells_of : List Entry → List Cell
cells_of entries = map (cell_of entries) (cell_cards entries)

abbrev pub main_of : List Entry → Cell
main_of entries = record { name = []; ports = []; pairs = []; items = items_at None entries; line = 0 }

-- ## The top

abbrev pub name_of_cell : Cell → List ℕ
name_of_cell c = c.name

abbrev pub top_if_any : List Item → List Cell → Option (List ℕ)
top_if_any [] cells = option_map name_of_cell (last_of cells)
top_if_any (item ∷ items) cells = None

abbrev pub top_of : Option (List ℕ) → List Item → List Cell → Option (List ℕ)
top_of (Some name) items cells = Some name
top_of None items cells = top_if_any items cells

-- ## The netlist

unfoldable pub netlist_of : List Entry → Option (List ℕ) → Netlist
netlist_of entries top = record {
  globals = globals_of entries;
  params = pairs_at None entries;
  cells = cells_of entries;
  main = main_of entries;
  top = top_of top (items_at None entries) (cells_of entries);
}
