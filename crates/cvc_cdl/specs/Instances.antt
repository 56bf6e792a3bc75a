-- Instances. An instance is the list of the cards on the way to it from the top, its own card first; the top is the empty list. So the parent of an
-- instance is the list without its first card. What stands in an instance is printed behind the names on the way, with `/` between.
use Rattle.std.specs.Prelude.{ℕ, Bool, true, false, ◌&&◌, List, [], ◌∷◌, ◌++◌, map, Option, Some, None, codes}
use Rattle.std.specs.Option.{unwrap_or}
use Rattle.std.specs.Str.{bytes_eq}
use Rattle.cvc_card.specs.declared.card.InstCard.{InstCard}
use Rattle.cvc_cdl.specs.declared.netlist.Cell.{Cell}
use Rattle.cvc_cdl.specs.declared.netlist.Netlist.{Netlist}
use Rattle.cvc_cdl.specs.Ending.{cell_named}

abbrev pub Instance : Type 0
Instance = List InstCard

-- what stands for a cell that isn't there, which no well formed netlist shows
abbrev pub no_cell : Cell
no_cell = record { name = []; ports = []; pairs = []; items = []; line = 0 }

abbrev pub cell_for : Netlist → List ℕ → Cell
cell_for n name = unwrap_or (cell_named n.cells name) no_cell

abbrev pub top_cell : Netlist → Option (List ℕ) → Cell
top_cell n None = n.main
top_cell n (Some name) = cell_for n name

-- the cell of an instance; that of the top is the netlist's top
abbrev pub cell_at : Netlist → Instance → Cell
cell_at n [] = top_cell n n.top
cell_at n (x ∷ up) = cell_for n x.cell

-- all cells: the netlist's, and its main level behind them
abbrev pub all_cells : Netlist → List Cell
all_cells n = n.cells ++ n.main ∷ []

-- ## Names on the way

-- the names on the way to an instance, its own first
abbrev pub names_to : Instance → List (List ℕ)
names_to p = map (λ (x : InstCard). x.name) p

-- the same names
abbrev pub same_names : List (List ℕ) → List (List ℕ) → Bool
same_names [] [] = true
same_names [] (b ∷ bs) = false
same_names (a ∷ more) [] = false
same_names (a ∷ more) (b ∷ rest) = bytes_eq a b && same_names more rest

-- a name as it is printed behind the names on the way, of which the innermost comes first
abbrev pub printed : List (List ℕ) → List ℕ → List ℕ
printed [] name = name
printed (own ∷ up) name = printed up (own ++ codes "/" ++ name)
