use Rattle.std.proofs.Common.{take}
use Rattle.cvc_plan.specs.Names.{Grows}
use Rattle.cvc_plan.specs.Pins.{ArePortPlans}
use Rattle.cvc_plan.proofs.pins.plans_by_name.Given as goal

abbrev pub invariant-loop-port : goal.invariant-loop-port
invariant-loop-port l = record {
  grows : Grows l.initial.names l.names;
  plans : ArePortPlans l.names (take l.globals l.initial.names) l.ports l.pairs (take l.port-index l.used) l.plans.items;
}
