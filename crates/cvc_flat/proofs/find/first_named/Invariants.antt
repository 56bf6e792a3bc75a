use Rattle.std.proofs.Common.{◌≡◌, ◌≤◌, [], length, map, take, drop}
use Rattle.cvc_flat.specs.FindNet.{net_named, pieces}
use Rattle.cvc_flat.specs.Flat.{FlatList}
use Rattle.cvc_flat.specs.Tables.{names_on, path_of, way_at, ways_of}
use Rattle.cvc_flat.proofs.find.first_named.Given as goal

abbrev pub invariant-loop-place : goal.invariant-loop-place
invariant-loop-place l = record {
  inside : l.up ≤ length l.instances;
  named : (f : FlatList) → f.globals ≡ take l.globals l.names → f.instances ≡ map (path_of l.names l.parts) (drop 1 (ways_of l.instances)) → net_named f (names_on l.names l.parts (way_at (ways_of l.instances) l.up)) (pieces l.rest) ≡ net_named f [] (pieces l.text);
}

abbrev pub decreases-loop-place : goal.decreases-loop-place
decreases-loop-place l = length l.rest
