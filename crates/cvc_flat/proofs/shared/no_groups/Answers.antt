use Rattle.std.proofs.Common.{List, [], ◌∙◌, sym, subst, arith}
use Rattle.std.specs.List.{AllZip}
use Rattle.std.proofs.lemmas.List.{take_all}
use Rattle.cvc_cdl.specs.Instances.{all_cells}
use Rattle.cvc_cdl.proofs.Zips.{zip_more, zip_push}
use Rattle.cvc_flat.specs.declared.shared.CellGroups.{CellGroups}
use Rattle.cvc_flat.specs.Sharing.{HasNoGroups}
use Rattle.cvc_flat.proofs.shared.no_groups.Goals as goal

pub loop-cell-init : goal.loop-cell-init
loop-cell-init c = subst (AllZip HasNoGroups []) (sym c.new-cells.ensures.items) tt

pub loop-cell-preserved : goal.loop-cell-preserved
loop-cell-preserved c =
    zip_more HasNoGroups c.as_slice-cell-items.result.now c.loop-cell.cell-index c.cell-item.result c.loop-cell.cells.items c.push.new.self.items c.in_ok-no_groups_in.field-0 c.loop-cell-test.true c.cell-item.is c.in_ok-push.ensures.items
    c.loop-cell.invariant c.in_ok-no_groups_in.ensures

pub returns : goal.returns
returns c =
    let n = c.args.netlist.now in
    let cells = c.as_slice-cell-items.result.now in
    let before = subst (λ cs. AllZip HasNoGroups cs c.loop-cell.cells.items) (take_all c.loop-cell.cell-index cells (omega (arith, c.loop-cell-test.false)) ∙ c.as_slice-cell-items.ensures) c.loop-cell.invariant in
    subst (AllZip HasNoGroups (all_cells n)) (sym {A = List CellGroups} c.in_ok-push-2.ensures.items) (zip_push HasNoGroups n.cells c.loop-cell.cells.items n.main c.in_ok-no_groups_in-2.field-0 before c.in_ok-no_groups_in-2.ensures)
