use Rattle.std.proofs.Common.{List}
use Rattle.std.proofs.lemmas.Result.{err_from_is_err_and}
use Rattle.cvc_cdl.specs.Builder.{named_top}
use Rattle.cvc_power.specs.declared.row.PowerRow.{PowerRow}
use Rattle.cvc_run.specs.declared.stages.Design.{Design}
use Rattle.cvc_run.specs.declared.whole.Whole.{Whole}
use Rattle.cvc_run.proofs.Loading.{read_through}
use Rattle.cvc_run.proofs.Runs.{design_failed, files_read, files_stop_at_design, files_stop_at_power, power_failed}
use Rattle.cvc_run.proofs.whole.bind_files.Goals as goal

pub returns-in_err-design-clause-said : goal.returns-in_err-design-clause-said
returns-in_err-design-clause-said g c =
    let p = err_from_is_err_and c.from_residual.result c.from_residual.ensures.1 in
    rw (p.1, p.2) (files_stop_at_design (g.S.Shelf.files c.args.shelf.now) (named_top c.args.top) c.args.netlist.now c.args.models.now c.args.power.now c.in_err-design.field-0.0 c.in_err-design.ensures.design)

pub returns-in_err-design-clause-cause : goal.returns-in_err-design-clause-cause
returns-in_err-design-clause-cause g c =
    let p = err_from_is_err_and c.from_residual.result c.from_residual.ensures.1 in
    rw (p.1, p.2)
    (read_through Design Whole c.in_err-design.field-0.0 _ _ (λ failed. design_failed (g.S.Shelf.files c.args.shelf.now) (named_top c.args.top) c.args.netlist.now c.args.models.now c.args.power.now (g.S.Shelf.faults c.args.shelf.now) (g.S.Shelf.faults c.read_design.new.shelf) failed)
    c.in_err-design.ensures.cause)

pub returns-in_err-power-clause-said : goal.returns-in_err-power-clause-said
returns-in_err-power-clause-said g c =
    let p = err_from_is_err_and c.from_residual-in_err-power.result c.from_residual-in_err-power.ensures.1 in
    rw (p.1, p.2)
    (files_stop_at_power (g.S.Shelf.files c.args.shelf.now) (named_top c.args.top) c.args.netlist.now c.args.models.now c.args.power.now c.in_ok-design.design c.in_ok-design.ensures.design c.in_err-power.field-0.0
    (rw c.read_design.ensures.shelf.files at c.in_err-power.ensures.rows))

pub returns-in_err-power-clause-cause : goal.returns-in_err-power-clause-cause
returns-in_err-power-clause-cause g c =
    let p = err_from_is_err_and c.from_residual-in_err-power.result c.from_residual-in_err-power.ensures.1 in
    rw (p.1, p.2)
    (read_through (List PowerRow) Whole c.in_err-power.field-0.0 _ _
    (λ rose. power_failed (g.S.Shelf.files c.args.shelf.now) (named_top c.args.top) c.args.netlist.now c.args.models.now c.args.power.now c.in_ok-design.design c.in_ok-design.ensures.design (g.S.Shelf.faults c.args.shelf.now) (g.S.Shelf.faults c.read_design.new.shelf)
    (g.S.Shelf.faults c.read_power_file.new.shelf) c.read_design.ensures.shelf.counts rose)
    c.in_err-power.ensures.cause)

pub returns-clause-said : goal.returns-clause-said
returns-clause-said g c =
    files_read (g.S.Shelf.files c.args.shelf.now) (named_top c.args.top) c.args.netlist.now c.args.models.now c.args.power.now c.in_ok-design.design c.in_ok-design.ensures.design c.in_ok-power.power
    (rw c.read_design.ensures.shelf.files at c.in_ok-power.ensures.rows) c.bind_design.result c.bind_design.ensures.said
