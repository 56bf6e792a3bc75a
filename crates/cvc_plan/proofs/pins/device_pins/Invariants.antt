use Rattle.std.proofs.Common.{◌≡◌, length, take}
use Rattle.cvc_plan.specs.Names.{Grows}
use Rattle.cvc_plan.specs.Pins.{ArePins}
use Rattle.cvc_plan.proofs.pins.device_pins.Given as goal

abbrev pub invariant-loop-net : goal.invariant-loop-net
invariant-loop-net l = record {
  grows : Grows l.initial.names l.names;
  count : length l.pins.items ≡ l.net-index;
  pins : ArePins l.names (take l.globals l.initial.names) l.ports (take l.net-index l.nets) l.pins.items;
}
