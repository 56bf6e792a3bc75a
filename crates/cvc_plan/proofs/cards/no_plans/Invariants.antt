use Rattle.std.proofs.Common.{take}
use Rattle.std.specs.List.{AllZip}
use Rattle.cvc_plan.specs.Planning.{HasNoPlan}
use Rattle.cvc_plan.proofs.cards.no_plans.Given as goal

abbrev pub invariant-loop-cell : goal.invariant-loop-cell
invariant-loop-cell l = AllZip HasNoPlan (take l._cell-index l._cell-items) l.plans.items
