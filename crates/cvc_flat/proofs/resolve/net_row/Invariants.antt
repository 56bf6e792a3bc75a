use Rattle.std.proofs.Common.{◌≡◌, ℕ, ◌<◌, ◌≤◌, List, length, take}
use Rattle.cvc_plan.specs.Nets.{net_of}
use Rattle.cvc_plan.specs.Parts.{text}
use Rattle.cvc_flat.specs.Resolving.{AreNames}
use Rattle.cvc_flat.specs.Tables.{path_of, way_at, ways_of}
use Rattle.cvc_flat.proofs.resolve.net_row.Given as goal

abbrev pub invariant-loop-at : goal.invariant-loop-at
invariant-loop-at l = record {
  inside : l.at ≤ length l.instances;
  net : (names : List (List ℕ)) → AreNames names l.globals l.parts → l.fn.name < length names → net_of (take l.globals names) (path_of names l.parts (way_at (ways_of l.instances) l.at)) (text names l.name) ≡ net_of (take l.globals names) (path_of names l.parts (way_at (ways_of l.instances) l.instance)) (text names l.fn.name);
  name : (names : List (List ℕ)) → AreNames names l.globals l.parts → l.fn.name < length names → l.name < length names;
}

abbrev pub decreases-loop-at : goal.decreases-loop-at
decreases-loop-at l = l.at
