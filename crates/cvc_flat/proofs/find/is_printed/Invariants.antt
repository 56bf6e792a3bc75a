use Rattle.std.proofs.Common.{◌≡◌, ◌≤◌, [], length}
use Rattle.std.specs.Str.{bytes_eq}
use Rattle.cvc_cdl.specs.Instances.{printed}
use Rattle.cvc_flat.specs.FindNet.{printed_net}
use Rattle.cvc_flat.specs.Tables.{names_on, net_at, way_at, ways_of}
use Rattle.cvc_flat.proofs.find.is_printed.Given as goal

abbrev pub invariant-loop-at : goal.invariant-loop-at
invariant-loop-at l = record {
  inside : l.at ≤ length l.instances;
  same : bytes_eq l.text (printed_net (net_at l.names l.parts (ways_of l.instances) l.fn.row)) ≡ bytes_eq l.rest (printed (names_on l.names l.parts (way_at (ways_of l.instances) l.at)) []);
}

abbrev pub decreases-loop-at : goal.decreases-loop-at
decreases-loop-at l = l.at
