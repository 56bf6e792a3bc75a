use Rattle.std.proofs.Common.{[], ◌∙◌, refl, sym, subst, arith}
use Rattle.std.specs.Prelude.{None}
use Rattle.std.specs.List.{AllZip}
use Rattle.std.proofs.lemmas.List.{take_all}
use Rattle.cvc_cdl.specs.Instances.{all_cells}
use Rattle.cvc_cdl.proofs.Zips.{zip_more, zip_push}
use Rattle.cvc_plan.specs.Planning.{HasNoPlan}
use Rattle.cvc_plan.proofs.cards.no_plans.Goals as goal

pub loop-cell-init : goal.loop-cell-init
loop-cell-init c = subst (AllZip HasNoPlan []) (sym c.new-plans.ensures.items) tt

pub loop-cell-preserved : goal.loop-cell-preserved
loop-cell-preserved c =
    zip_more HasNoPlan c.as_slice-cell-items.result.now c.loop-cell._cell-index c._cell-item.result c.loop-cell.plans.items c.push.new.self.items None c.loop-cell-test.true c._cell-item.is c.in_ok-push.ensures.items c.loop-cell.invariant refl

pub returns : goal.returns
returns c =
    let n = c.args.netlist.now in
    let cells = c.as_slice-cell-items.result.now in
    let before = subst (λ cs. AllZip HasNoPlan cs c.loop-cell.plans.items) (take_all c.loop-cell._cell-index cells (omega (arith, c.loop-cell-test.false)) ∙ c.as_slice-cell-items.ensures) c.loop-cell.invariant in
    subst (AllZip HasNoPlan (all_cells n)) (sym c.in_ok-push-2.ensures.items) (zip_push HasNoPlan n.cells c.loop-cell.plans.items n.main None before refl)
