use Rattle.std.proofs.Common.{sym, subst}
use Rattle.cvc_cdl.specs.WellFormed.{IsFormedItem, IsFormedLevel}
use Rattle.cvc_plan.proofs.Planned.{cell_kept, formed_at}
use Rattle.cvc_flat.proofs.walk.plan_next.Goals as goal

pub plan_item-requires-clause-formed : goal.plan_item-requires-clause-formed
plan_item-requires-clause-formed c =
    let n = c.args.source.now.netlist.now in
    let mark = c.args.mark.now in
    let level = subst (IsFormedLevel n.cells) c.requires.cell (formed_at n mark.plan c.requires.well c.requires.known) in
    subst (IsFormedItem n.cells) (sym c.requires.item) (level.items mark.next c.args.item.now c.requires.inside)

pub returns-clause-kept : goal.returns-clause-kept
returns-clause-kept c =
    let mark = c.args.mark.now in
    let kept = c.in_ok-plan_cell.ensures in
    cell_kept c.args.source.now.netlist.now c.plan_cell.new.plan c.args.item.now mark.plan mark.next mark.cell.now kept.plan c.requires.known kept.kept c.requires.cell c.requires.inside c.requires.item
