use Rattle.std.proofs.Common.{refl, subst}
use Rattle.cvc_cdl.specs.Instances.{all_cells}
use Rattle.cvc_plan.specs.Planning.{IsItemPlan}
use Rattle.cvc_plan.proofs.Planned.{cells_stay, plan_with}
use Rattle.cvc_plan.proofs.walked.plan_item.Goals as goal

pub returns-clause-plan : goal.returns-clause-plan
returns-clause-plan c =
    let n = c.args.netlist.now in
    let p = c.args.plan.now in
    let is = c.requires.plan in
    let new = c.item_plan.new.cards in
    let own = c.in_ok-own.ensures in
    plan_with n p _ is own.grows own.sound c.check_count.ensures.apart c.in_ok-check_count.ensures.count
    (cells_stay n p.cards new (all_cells n) p.cells.items own.grows is.cards is.cells)
    refl refl refl refl refl

pub returns-clause-own : goal.returns-clause-own
returns-clause-own c =
    subst (λ ports. IsItemPlan c.args.netlist.now c.item_plan.new.cards ports c.args.item.now c.in_ok-own.own) c.requires.plan.ports c.in_ok-own.ensures.plan
