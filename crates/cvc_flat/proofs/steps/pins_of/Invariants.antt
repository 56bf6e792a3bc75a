use Rattle.std.proofs.Common.{◌≡◌, List, length, map, take}
use Rattle.cvc_plan.specs.declared.cards.Plan.{Plan}
use Rattle.cvc_plan.specs.Pins.{pin_row}
use Rattle.cvc_flat.specs.declared.rows.InstanceRow.{InstanceRow}
use Rattle.cvc_flat.specs.Making.{AreNetsWithin, AreRows, NumbersPins, known_nets}
use Rattle.cvc_flat.proofs.steps.pins_of.Given as goal

abbrev pub invariant-loop-pin : goal.invariant-loop-pin
invariant-loop-pin l = record {
  count : length l.ids.items ≡ l.pin-index;
  ids : (p : Plan) (rows : List InstanceRow) → AreRows p rows l.initial.nets → AreNetsWithin p rows (map (pin_row l.instance l.ports) l.pin-items)
      → NumbersPins p rows l.initial.nets l.nets (known_nets p.cards rows (map (pin_row l.instance l.ports) (take l.pin-index l.pin-items))) l.ids.items;
}
