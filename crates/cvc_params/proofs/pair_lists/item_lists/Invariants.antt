use Rattle.std.proofs.Common.{take}
use Rattle.cvc_params.specs.PairLists.{AreItemsListed, ListsMore}
use Rattle.cvc_params.proofs.pair_lists.item_lists.Given as goal

abbrev pub invariant-loop-item : goal.invariant-loop-item
invariant-loop-item l = record {
  more : ListsMore l.initial.sight l.sight;
  listed : AreItemsListed l.sight.indexes (take l.item-index l.items) l.lists.items;
}
