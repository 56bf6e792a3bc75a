use Rattle.std.proofs.Common.{List}
use Rattle.std.proofs.lemmas.Result.{err_from_is_err_and}
use Rattle.cvc_cdl.specs.Builder.{named_top}
use Rattle.cvc_modes.specs.declared.row.ModeRow.{ModeRow}
use Rattle.cvc_run.proofs.Loading.{read_through}
use Rattle.cvc_top.specs.declared.modes.Listed.{Listed}
use Rattle.cvc_top.proofs.ModesDue.{list_failed}
use Rattle.cvc_top.proofs.ModesSaid.{both_read, parts_in, stops_at_design, stops_at_list}
use Rattle.cvc_top.proofs.modes.read_listed.Goals as goal

pub returns-in_err-design-clause-said : goal.returns-in_err-design-clause-said
returns-in_err-design-clause-said g c =
    let p = err_from_is_err_and c.from_residual.result c.from_residual.ensures.1 in
    rw (p.1, p.2)
    (stops_at_design (g.S.Shelf.files c.args.shelf.now) (named_top c.args.top) c.args.netlist.now c.args.models.now c.args.list.now c.in_err-design.field-0.0 c.in_err-design.ensures.design)

pub returns-in_err-list-clause-said : goal.returns-in_err-list-clause-said
returns-in_err-list-clause-said g c =
    let p = err_from_is_err_and c.from_residual-in_err-list.result c.from_residual-in_err-list.ensures.1 in
    rw (p.1, p.2)
    (stops_at_list (g.S.Shelf.files c.args.shelf.now) (named_top c.args.top) c.args.netlist.now c.args.models.now c.args.list.now c.in_ok-design.design c.in_ok-design.ensures.design c.in_err-list.field-0.0
    (rw c.read_design.ensures.shelf.files at c.in_err-list.ensures.rows))

pub returns-in_err-list-clause-cause : goal.returns-in_err-list-clause-cause
returns-in_err-list-clause-cause g c =
    let p = err_from_is_err_and c.from_residual-in_err-list.result c.from_residual-in_err-list.ensures.1 in
    let before = g.S.Shelf.faults c.args.shelf.now in
    let between = g.S.Shelf.faults c.read_design.new.shelf in
    let after = g.S.Shelf.faults c.read_list.new.shelf in
    rw (p.1, p.2)
    (read_through (List ModeRow) Listed c.in_err-list.field-0.0 _ _
    (λ rose. list_failed (g.S.Shelf.files c.args.shelf.now) (named_top c.args.top) c.args.netlist.now c.args.models.now c.args.list.now (parts_in c.in_ok-design.design) c.in_ok-design.ensures.design
    before between after c.read_design.ensures.shelf.counts rose)
    c.in_err-list.ensures.cause)

pub returns-clause-said : goal.returns-clause-said
returns-clause-said g c =
    both_read (g.S.Shelf.files c.args.shelf.now) (named_top c.args.top) c.args.netlist.now c.args.models.now c.args.list.now c.in_ok-design.design c.in_ok-design.ensures.design c.in_ok-list.list
    (rw c.read_design.ensures.shelf.files at c.in_ok-list.ensures.rows)
