use Rattle.std.proofs.Common.{◌≡◌, ◌≤◌, ◌++◌, length}
use Rattle.cvc_flat.specs.Tables.{way_at, ways_of}
use Rattle.cvc_flat.proofs.way.way_up.Given as goal

abbrev pub invariant-loop-at : goal.invariant-loop-at
invariant-loop-at l = record {
  inside : l.at ≤ length l.instances;
  way : way_at (ways_of l.instances) l.instance ≡ l.way.items ++ way_at (ways_of l.instances) l.at;
}

abbrev pub decreases-loop-at : goal.decreases-loop-at
decreases-loop-at l = l.at
