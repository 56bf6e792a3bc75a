use Rattle.std.proofs.Common.{◌≡◌, ◌++◌, drop, map, take}
use Rattle.cvc_plan.specs.Pins.{port_row}
use Rattle.cvc_plan.proofs.ports.join.Given as goal

abbrev pub invariant-loop-plan : goal.invariant-loop-plan
invariant-loop-plan l = l.ports.items ≡ l.initial.ports.items ++ map (port_row l.above (drop l.first l.initial.ports.items) l.instance) (take l.plan-index l.plans)
