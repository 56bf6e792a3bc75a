use Rattle.std.proofs.Common.{◌≡◌, map, take}
use Rattle.cvc_cdl.specs.Netlist.{name_of_cell}
use Rattle.cvc_plan.proofs.cards.cell_names.Given as goal

abbrev pub invariant-loop-cell : goal.invariant-loop-cell
invariant-loop-cell l = l.names ≡ take l.cell-index (map name_of_cell l.cells)
