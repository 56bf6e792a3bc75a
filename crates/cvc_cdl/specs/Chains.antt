-- Cells by their numbers: for each cell the numbers of the cells that its instances name, with repeats. A chain of so many uses starts in a cell where it
-- uses a cell in which a chain of one use less starts. A cell is endless where a chain of as many uses as there are cells starts in it.
use Rattle.std.specs.Prelude.{◌≡◌, ℕ, zero, suc, ◌<◌, Bool, true, false, List, [], map, length, slice_get, slice_index_or, All, Vec}
use Rattle.std.specs.List.{list_any}
use Rattle.std.specs.declared.alloc.Global.{Global}
use Rattle.cvc_cdl.specs.declared.netlist.Cell.{Cell}
use Rattle.cvc_cdl.specs.Netlist.{name_of_cell}
use Rattle.cvc_cdl.specs.Ending.{used_by}

-- the cells that a cell uses
abbrev pub used_at : List (List ℕ) → ℕ → List ℕ
used_at uses i = slice_index_or uses i []

unfoldable pub chain_by : List (List ℕ) → ℕ → ℕ → Bool
chain_by uses zero i = true
chain_by uses (suc n) i = list_any (chain_by uses n) (used_at uses i)

abbrev pub is_endless_by : List (List ℕ) → ℕ → Bool
is_endless_by uses i = chain_by uses (length uses) i

-- only cells are used
abbrev pub AreBelow : List (List ℕ) → Type 0
AreBelow uses = All (All (λ i. i < length uses)) uses

-- for each cell whether it is endless
pub record TellsEndless (uses : List (List ℕ)) (answers : List Bool) : Type 0 where
  pub sized : length answers ≡ length uses
  pub each : (i : ℕ) → i < length uses → slice_index_or answers i false ≡ is_endless_by uses i

-- ## Cells as the netlist has them

abbrev pub name_at : List Cell → ℕ → List ℕ
name_at cells i = slice_index_or (map name_of_cell cells) i []

-- these are the uses of the cells: at each place the places of the cells that the instances there name
pub record AreUses (cells : List Cell) (uses : List (List ℕ)) : Type 0 where
  pub sized : length uses ≡ length cells
  pub below : AreBelow uses
  pub named : (i : ℕ) → map (name_at cells) (used_at uses i) ≡ used_by (slice_get cells i)

-- ## Lists of numbers as the code keeps them

abbrev pub numbers_of : Vec ℕ Global → List ℕ
numbers_of v = v.items

abbrev pub all_numbers : List (Vec ℕ Global) → List (List ℕ)
all_numbers vs = map numbers_of vs
