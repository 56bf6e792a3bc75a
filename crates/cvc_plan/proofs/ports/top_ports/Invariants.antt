use Rattle.std.proofs.Common.{◌≡◌, map, take}
use Rattle.cvc_plan.specs.Pins.{row_of_opening}
use Rattle.cvc_plan.proofs.ports.top_ports.Given as goal

abbrev pub invariant-loop-opening : goal.invariant-loop-opening
invariant-loop-opening l = l.rows.items ≡ map row_of_opening (take l.opening-index l.opening-items)
