use Rattle.std.proofs.Common.{take}
use Rattle.cvc_plan.specs.Names.{Grows}
use Rattle.cvc_plan.specs.Nets.{paired}
use Rattle.cvc_plan.specs.Pins.{ArePortPlans}
use Rattle.cvc_plan.proofs.pins.plans_by_order.Given as goal

abbrev pub invariant-loop-place : goal.invariant-loop-place
invariant-loop-place l = record {
  grows : Grows l.initial.names l.names;
  plans : ArePortPlans l.names (take l.globals l.initial.names) l.ports (paired l.used l.nets) (take l.place l.used) l.plans.items;
}
