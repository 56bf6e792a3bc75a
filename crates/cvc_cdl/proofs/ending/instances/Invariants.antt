use Rattle.std.proofs.Common.{◌≡◌, ◌++◌, drop, map, take}
use Rattle.std.specs.Prelude.{All}
use Rattle.cvc_cdl.specs.Chains.{all_numbers}
use Rattle.cvc_cdl.specs.Netlist.{name_of_cell}
use Rattle.cvc_cdl.specs.Finishing.{file_items, file_instances, instances_in, items_of_cell, uses_in}
use Rattle.cvc_cdl.specs.Placed.{IsPlaced, insts_placed}
use Rattle.cvc_cdl.proofs.ending.instances.Given as goal

-- what is left makes it whole
abbrev pub invariant-loop-i : goal.invariant-loop-i
invariant-loop-i l = record {
  insts : file_instances l.initial.rest l.library.cells.now l.places
      ≡ insts_placed l.placed.items ++ instances_in (file_items l.from l.rest (map items_of_cell (drop l.i l.library.cells.now)) (drop l.i l.places));
  placed : All (IsPlaced l.library.cells.now) l.placed.items;
  uses : all_numbers l.uses.items ≡ map (uses_in (map name_of_cell l.library.cells.now)) (take l.i l.library.cells.now);
}
