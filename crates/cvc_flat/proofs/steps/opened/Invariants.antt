use Rattle.std.proofs.Common.{◌≡◌, ◌<◌, ◌≤◌, [], length, map, drop}
use Rattle.std.specs.Prelude.{All}
use Rattle.cvc_plan.specs.declared.rows.NetRow.{NetRow}
use Rattle.cvc_plan.specs.Planning.{opening_of}
use Rattle.cvc_flat.specs.Flat.{limits, opening_fault}
use Rattle.cvc_flat.specs.Making.{known_nets}
use Rattle.cvc_flat.proofs.Openings.{nets_to}
use Rattle.cvc_flat.proofs.steps.opened.Given as goal

abbrev pub invariant-loop-opening : goal.invariant-loop-opening
invariant-loop-opening l = record {
  known : known_nets l.plan.cards [] l.nets ≡ nets_to (map (opening_of l.plan.cards.names) l.plan.openings.items) l.opening-index;
  fault : opening_fault limits [] (map (opening_of l.plan.cards.names) l.plan.openings.items) ≡ opening_fault limits (known_nets l.plan.cards [] l.nets) (drop l.opening-index (map (opening_of l.plan.cards.names) l.plan.openings.items));
  within : All (λ (r : NetRow). (r.instance ≤ 0) × (r.name < length l.plan.cards.names)) l.nets;
  room : length l.nets ≤ 1000000;
}
