use Rattle.std.proofs.Common.{take}
use Rattle.cvc_params.specs.PairLists.{AreListed, ListsMore}
use Rattle.cvc_params.proofs.pair_lists.lists_of.Given as goal

abbrev pub invariant-loop-cell : goal.invariant-loop-cell
invariant-loop-cell l = record {
  more : ListsMore l.initial.sight l.sight;
  listed : AreListed l.sight.indexes (take l.cell-index l.cell-items) l.cells.items;
}
