use Rattle.std.proofs.Common.{◌≡◌, map, take}
use Rattle.cvc_plan.specs.Names.{Grows}
use Rattle.cvc_plan.specs.Parts.{AreConnections, pair_of}
use Rattle.cvc_plan.proofs.plan.connections_by_name.Given as goal

abbrev pub invariant-loop-pair : goal.invariant-loop-pair
invariant-loop-pair l = record {
  grows : Grows l.initial.names l.names;
  within : AreConnections l.names l.connections.items;
  pairs : map (pair_of l.names) l.connections.items ≡ take l.pair-index l.pairs;
}
