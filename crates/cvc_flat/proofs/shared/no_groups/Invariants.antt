use Rattle.std.proofs.Common.{take}
use Rattle.std.specs.List.{AllZip}
use Rattle.cvc_flat.specs.Sharing.{HasNoGroups}
use Rattle.cvc_flat.proofs.shared.no_groups.Given as goal

abbrev pub invariant-loop-cell : goal.invariant-loop-cell
invariant-loop-cell l = AllZip HasNoGroups (take l.cell-index l.cell-items) l.cells.items
