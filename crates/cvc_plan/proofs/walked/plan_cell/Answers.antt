use Rattle.std.proofs.Common.{◌≡◌, get_or, refl, sym, ap, subst, ◌∙◌, arith}
use Rattle.std.specs.Prelude.{None, is_some}
use Rattle.std.proofs.lemmas.List.{get_or_default}
use Rattle.cvc_cdl.specs.declared.netlist.Cell.{Cell}
use Rattle.cvc_cdl.specs.Instances.{all_cells}
use Rattle.cvc_plan.specs.Planning.{IsCellPlan}
use Rattle.cvc_plan.proofs.Planned.{cell_planned, cells_count, cells_stay, plan_same, plan_with, some_there}
use Rattle.cvc_plan.proofs.walked.plan_cell.Goals as goal

pub index-requires : goal.index-requires
index-requires c =
    let p = c.args.plan.now in
    omega (arith, c.requires.known, cells_count c.args.netlist.now p.cards p.cells.items c.requires.plan.cells)

pub returns-then-is_some-clause-grows : goal.returns-then-is_some-clause-grows
returns-then-is_some-clause-grows c = plan_same c.args.plan.now

pub returns-then-is_some-clause-kept : goal.returns-then-is_some-clause-kept
returns-then-is_some-clause-kept c =
    let p = c.args.plan.now in
    let at : c.index.result.now ≡ get_or p.cells.items c.args.number None =
    c.index.ensures ∙ get_or_default p.cells.items c.args.number c.index.result.now None (omega (arith, c.requires.known, cells_count c.args.netlist.now p.cards p.cells.items c.requires.plan.cells)) in
    ap is_some (sym at) ∙ sym c.is_some.ensures ∙ c.if-is_some.true

pub index_mut-requires : goal.index_mut-requires
index_mut-requires c =
    let p = c.args.plan.now in
    omega (arith, c.requires.known, cells_count c.args.netlist.now p.cards p.cells.items c.requires.plan.cells)

pub returns-clause-plan : goal.returns-clause-plan
returns-clause-plan c =
    let n = c.args.netlist.now in
    let p = c.args.plan.now in
    let is = c.requires.plan in
    let new = c.cell_plan.new.cards in
    let kept = c.in_ok-kept.ensures in
    let cell = subst (λ (x : Cell). IsCellPlan n new x c.in_ok-kept.kept) c.cell_of-cell.ensures kept.plan in
    plan_with n p _ is kept.grows kept.sound c.check_count.ensures.apart c.in_ok-check_count.ensures.count
    (cell_planned n new p.cells.items c.args.number c.in_ok-kept.kept (cells_stay n p.cards new (all_cells n) p.cells.items kept.grows is.cards is.cells) cell)
    refl refl refl refl refl

pub returns-clause-kept : goal.returns-clause-kept
returns-clause-kept c =
    let p = c.args.plan.now in
    some_there p.cells.items c.args.number c.in_ok-kept.kept (omega (arith, c.requires.known, cells_count c.args.netlist.now p.cards p.cells.items c.requires.plan.cells))
