-- The faults of a netlist as a whole, by the places of its cells, and the netlist that a draft gives. Only the builder's own parts speak of this.
use Rattle.std.specs.Prelude.{◌≡◌, ℕ, ◌-◌, Bool, false, List, [], ◌∷◌, ◌++◌, map, take, drop, Option, Some, None, Result, Ok, Err, find}
use Rattle.std.specs.List.{filter_map}
use Rattle.std.specs.Option.{option_map}
use Rattle.cvc_base.specs.declared.cause.Cause.TheVariants.{OpenSubckt, Recursive}
use Rattle.cvc_base.specs.declared.fault.Fault.{Fault}
use Rattle.cvc_base.specs.declared.fault.Refusal.{Refusal}
use Rattle.cvc_base.specs.declared.fault.Refusal.TheVariants.{At, NoMemory}
use Rattle.cvc_card.specs.declared.card.InstCard.{InstCard}
use Rattle.cvc_card.specs.Parts.{last_of}
use Rattle.cvc_cdl.specs.declared.netlist.Cell.{Cell}
use Rattle.cvc_cdl.specs.declared.netlist.Item.{Item}
use Rattle.cvc_cdl.specs.declared.netlist.Item.TheVariants as items
use Rattle.cvc_cdl.specs.declared.netlist.Netlist.{Netlist}
use Rattle.cvc_cdl.specs.Levels.{Level}
use Rattle.cvc_cdl.specs.Netlist.{name_of_cell, top_of}
use Rattle.cvc_cdl.specs.Building.{fault_at, or_else}
use Rattle.cvc_cdl.specs.Ending.{first_instance_fault, inst_in, top_fault}
use Rattle.cvc_cdl.specs.Builder.{Draft}
use Rattle.cvc_cdl.specs.Chains.{is_endless_by}
use Rattle.cvc_cdl.specs.Lookup.{place_of}

-- ## Instances in file order

abbrev pub instances_in : List Item → List InstCard
instances_in is = filter_map inst_in is

abbrev pub items_of_cell : Cell → List Item
items_of_cell c = c.items

abbrev pub place_at : ℕ → List ℕ → ℕ
place_at from [] = from
place_at from (p ∷ ps) = p

abbrev pub places_after : List ℕ → List ℕ
places_after [] = []
places_after (p ∷ ps) = ps

-- the items of all levels, in file order: before each cell those of the main level up to its place
unfoldable pub file_items : ℕ → List Item → List (List Item) → List ℕ → List Item
file_items from rest [] places = rest
file_items from rest (inner ∷ cells) places =
    take (place_at from places - from) rest ++ inner ++ file_items (place_at from places) (drop (place_at from places - from) rest) cells (places_after places)

abbrev pub file_instances : List Item → List Cell → List ℕ → List InstCard
file_instances is cells places = instances_in (file_items 0 is (map items_of_cell cells) places)

-- ## Faults

-- the place of the cell that an instance names
abbrev pub place_used : List (List ℕ) → Item → Option ℕ
place_used names (items.Device d) = None
place_used names (items.Inst x) = place_of names x.cell

-- the places of the cells that the instances of a cell name
abbrev pub uses_in : List (List ℕ) → Cell → List ℕ
uses_in names c = filter_map (place_used names) c.items

abbrev pub all_uses_in : List Cell → List (List ℕ)
all_uses_in cells = map (uses_in (map name_of_cell cells)) cells

abbrev pub endless_at : List Cell → Option ℕ → Bool
endless_at cells None = false
endless_at cells (Some place) = is_endless_by (all_uses_in cells) place

abbrev pub names_endless : List Cell → InstCard → Bool
names_endless cells x = endless_at cells (place_of (map name_of_cell cells) x.cell)

abbrev pub endless_fault_in : List Cell → List InstCard → Option Fault
endless_fault_in cells xs = option_map (λ (x : InstCard). fault_at x.line Recursive) (find (names_endless cells) xs)

abbrev pub cells_fault_in : List Cell → List InstCard → Option (List ℕ) → Option Fault
cells_fault_in cells xs top = or_else (first_instance_fault cells xs) (or_else (endless_fault_in cells xs) (top_fault cells top))

abbrev pub open_in : Level → List Cell → Option Fault
open_in None cells = None
open_in (Some name) cells = option_map (λ (c : Cell). fault_at c.line OpenSubckt) (last_of cells)

unfoldable pub draft_fault : Draft → Option (List ℕ) → Option Fault
draft_fault d top = or_else (open_in d.level d.cells) (cells_fault_in d.cells (file_instances d.items d.cells d.places) top)

-- ## The netlist

abbrev pub main_with : List Item → Cell
main_with is = record { name = []; ports = []; pairs = []; items = is; line = 0 }

abbrev pub draft_netlist : Draft → Option (List ℕ) → Netlist
draft_netlist d top = record { globals = d.globals; params = d.params; cells = d.cells; main = main_with d.items; top = top_of top d.items d.cells }

abbrev pub Finishes : Draft → Option (List ℕ) → Result Netlist Refusal → Type 0
Finishes d top (Ok n) = (draft_fault d top ≡ None) × (n ≡ draft_netlist d top)
Finishes d top (Err (At fault)) = draft_fault d top ≡ Some fault
Finishes d top (Err NoMemory) = Unit {0}
