-- The faults of a netlist as a whole, which are looked at once all its cards are there. First a cell that has no `.ENDS`. Then, card by card in file
-- order, an instance that names no cell (UnknownCell), or by order connects another number of nets than the cell has ports (PortCount), or by name
-- something that is no port of the cell (UnknownPort). Then the first instance in file order that names an endless cell: one in which a chain of as many
-- instances starts as there are cells. Last a top that is no cell.
use Rattle.std.specs.Prelude.{ℕ, zero, suc, Bool, true, ◌==◌, List, [], ◌∷◌, map, length, Option, Some, None, Result, Ok, Err, find, if◌then◌else◌}
use Rattle.std.specs.List.{filter_map, list_any, list_all}
use Rattle.std.specs.Option.{option_map}
use Rattle.std.specs.Borrow.{Bor}
use Rattle.std.specs.Str.{bytes_eq}
use Rattle.cvc_base.specs.declared.cause.Cause.{Cause}
use Rattle.cvc_base.specs.declared.cause.Cause.TheVariants.{OpenSubckt, UnknownCell, PortCount, UnknownPort, Recursive, NoTop}
use Rattle.cvc_base.specs.declared.fault.Fault.{Fault}
use Rattle.cvc_base.specs.declared.param.Pair.{Pair}
use Rattle.cvc_card.specs.declared.card.Card.{Card}
use Rattle.cvc_card.specs.declared.card.Card.TheVariants.{Device, Inst, Subckt, Ends, Global, Params, Ignored}
use Rattle.cvc_card.specs.declared.card.CellCard.{CellCard}
use Rattle.cvc_card.specs.declared.card.InstCard.{InstCard}
use Rattle.cvc_card.specs.declared.card.Ports.{Ports}
use Rattle.cvc_card.specs.declared.card.Ports.TheVariants.{ByOrder, ByName}
use Rattle.cvc_card.specs.Parts.{last_of}
use Rattle.cvc_cdl.specs.declared.netlist.Cell.{Cell}
use Rattle.cvc_cdl.specs.declared.netlist.Item.{Item}
use Rattle.cvc_cdl.specs.declared.netlist.Item.TheVariants as items
use Rattle.cvc_cdl.specs.declared.netlist.Netlist.{Netlist}
use Rattle.cvc_cdl.specs.Levels.{Entry, Level, level_behind, cell_cards}
use Rattle.cvc_cdl.specs.Netlist.{cells_of, name_of_cell, netlist_of}
use Rattle.cvc_cdl.specs.Building.{fault_at, is_among, or_else, building_fault}

-- ## An open cell

abbrev pub open_fault_at : Level → List CellCard → Option Fault
open_fault_at None cards = None
open_fault_at (Some name) cards = option_map (λ (c : CellCard). fault_at c.line OpenSubckt) (last_of cards)

abbrev pub open_fault : List Entry → Option Fault
open_fault entries = open_fault_at (level_behind None entries) (cell_cards entries)

-- ## Instances

abbrev pub instance_in : Card → Option InstCard
instance_in (Inst x) = Some x
instance_in (Device d) = None
instance_in (Subckt c) = None
instance_in (Ends name) = None
instance_in (Global names) = None
instance_in (Params pairs) = None
instance_in Ignored = None

-- the instances of all levels, in file order
unfoldable pub instances : List Entry → List InstCard
instances entries = filter_map (λ (e : Entry). instance_in e.card) entries

abbrev pub inst_in : Item → Option InstCard
inst_in (items.Device d) = None
inst_in (items.Inst x) = Some x

abbrev pub inst_held : Bor InstCard → InstCard
inst_held x = x.now

abbrev pub cell_named : List Cell → List ℕ → Option Cell
cell_named cells name = find (λ (c : Cell). bytes_eq name c.name) cells

abbrev pub connects_ports : List (List ℕ) → List Pair → Bool
connects_ports ports pairs = list_all (λ (p : Pair). is_among ports p.name) pairs

abbrev pub ports_cause : List (List ℕ) → Ports → Option Cause
ports_cause ports (ByOrder nets) = if length nets == length ports then None else Some PortCount
ports_cause ports (ByName pairs) = if connects_ports ports pairs then None else Some UnknownPort

abbrev pub cell_cause : Option Cell → Ports → Option Cause
cell_cause None ports = Some UnknownCell
cell_cause (Some c) ports = ports_cause c.ports ports

abbrev pub instance_cause : List Cell → InstCard → Option Cause
instance_cause cells x = cell_cause (cell_named cells x.cell) x.ports

abbrev pub instance_fault : List Cell → InstCard → Option Fault
instance_fault cells x = option_map (fault_at x.line) (instance_cause cells x)

unfoldable pub first_instance_fault : List Cell → List InstCard → Option Fault
first_instance_fault cells [] = None
first_instance_fault cells (x ∷ xs) = or_else (instance_fault cells x) (first_instance_fault cells xs)

-- ## Endless cells

abbrev pub used_in : Item → Option (List ℕ)
used_in (items.Device d) = None
used_in (items.Inst x) = Some x.cell

abbrev pub used_by : Option Cell → List (List ℕ)
used_by None = []
used_by (Some c) = filter_map used_in c.items

-- the cells that the instances of a cell name
abbrev pub used : List Cell → List ℕ → List (List ℕ)
used cells name = used_by (cell_named cells name)

-- a chain of so many instances starts in the cell: each stands in the cell that the one before it names
unfoldable pub has_chain : List Cell → ℕ → List ℕ → Bool
has_chain cells zero name = true
has_chain cells (suc n) name = list_any (has_chain cells n) (used cells name)

unfoldable pub is_endless : List Cell → List ℕ → Bool
is_endless cells name = has_chain cells (length cells) name

abbrev pub endless_fault : List Cell → List InstCard → Option Fault
endless_fault cells xs = option_map (λ (x : InstCard). fault_at x.line Recursive) (find (λ (x : InstCard). is_endless cells x.cell) xs)

-- ## The top

abbrev pub top_fault : List Cell → Option (List ℕ) → Option Fault
top_fault cells None = None
top_fault cells (Some name) = if is_among (map name_of_cell cells) name then None else Some (fault_at 0 NoTop)

-- ## All of them

abbrev pub cells_fault : List Cell → List InstCard → Option (List ℕ) → Option Fault
cells_fault cells xs top = or_else (first_instance_fault cells xs) (or_else (endless_fault cells xs) (top_fault cells top))

unfoldable pub ending_fault : List Entry → Option (List ℕ) → Option Fault
ending_fault entries top = or_else (open_fault entries) (cells_fault (cells_of entries) (instances entries) top)

abbrev pub unless_fault : {A : Type 0} → Option Fault → A → Result A Fault
unless_fault None x = Ok x
unless_fault (Some fault) x = Err fault

-- the netlist of all cards, or the first fault
unfoldable pub reading_of : List Entry → Option (List ℕ) → Result Netlist Fault
reading_of entries top = unless_fault (or_else (building_fault entries) (ending_fault entries top)) (netlist_of entries top)
