use Rattle.std.proofs.Common.{◌≡◌, ◌++◌, take}
use Rattle.std.specs.Prelude.{All}
use Rattle.cvc_cdl.specs.Finishing.{instances_in}
use Rattle.cvc_cdl.specs.Placed.{IsPlaced, insts_placed}
use Rattle.cvc_cdl.proofs.ending.add_instances.Given as goal

abbrev pub invariant-loop-item : goal.invariant-loop-item
invariant-loop-item l = record {
  insts : insts_placed l.found.items ≡ insts_placed l.initial.found.items ++ instances_in (take l.item-index l.items);
  placed : All (IsPlaced l.library.cells.now) l.found.items;
}
