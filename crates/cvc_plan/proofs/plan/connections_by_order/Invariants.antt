use Rattle.std.proofs.Common.{◌≡◌, map, take}
use Rattle.cvc_plan.specs.Names.{Grows}
use Rattle.cvc_plan.specs.Nets.{paired}
use Rattle.cvc_plan.specs.Parts.{AreConnections, pair_of}
use Rattle.cvc_plan.proofs.plan.connections_by_order.Given as goal

abbrev pub invariant-loop-place : goal.invariant-loop-place
invariant-loop-place l = record {
  grows : Grows l.initial.names l.names;
  within : AreConnections l.names l.connections.items;
  pairs : map (pair_of l.names) l.connections.items ≡ take l.place (paired l.ports l.nets);
}
