use Rattle.std.proofs.Common.{◌+◌, ◌*◌, ◌-◌, length}
use Rattle.std.specs.Prelude.{reverse}
use Rattle.cvc_cdl.specs.Instances.{all_cells}
use Rattle.cvc_plan.specs.Planning.{IsPlan}
use Rattle.cvc_flat.specs.Joining.{ArePorts}
use Rattle.cvc_flat.specs.Sharing.{AreShared}
use Rattle.cvc_flat.proofs.Seen.{Sees}
use Rattle.cvc_flat.proofs.States.{IsState}
use Rattle.cvc_flat.proofs.walk.walk.Given as goal

abbrev pub invariant-visits : goal.invariant-visits
invariant-visits l = record {
  plan : IsPlan l.source.netlist.now l.plan;
  state : IsState l.source.netlist.now l.plan l.instances.items l.made l.sight.levels.items l.mark l.above.items;
  ports : ArePorts l.source.netlist.now l.plan l.instances.items (reverse l.sight.levels.items) l.ports.items l.mark (reverse l.above.items);
  sees : Sees l.source.netlist.now l.source.lists.now.cells.items l.sight;
  shared : AreShared l.plan.cards.names l.made.groups (all_cells l.source.netlist.now) l.shared.items;
}

abbrev pub decreases-visits : goal.decreases-visits
decreases-visits l = 2 * (1500000 - (length l.instances.items + length l.made.devices.items)) + length l.above.items
