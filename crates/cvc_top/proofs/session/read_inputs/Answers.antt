use Rattle.std.proofs.Common.{◌∙◌, List, refl, arith}
use Rattle.std.proofs.lemmas.Result.{err_from_is_err_and}
use Rattle.cvc_cdl.specs.Builder.{named_top}
use Rattle.cvc_delta.specs.declared.edit.Edit.{Edit}
use Rattle.cvc_power.specs.declared.row.PowerRow.{PowerRow}
use Rattle.cvc_run.proofs.Loading.{read_through}
use Rattle.cvc_top.specs.declared.session.Inputs.{Inputs}
use Rattle.cvc_top.specs.Sessions.{session_files}
use Rattle.cvc_top.proofs.SessionInputs.{all_read, edits_failed, power_failed, stops_at_design, stops_at_edits, stops_at_power}
use Rattle.cvc_top.proofs.session.read_inputs.Goals as goal

pub returns-in_err-design-clause-said : goal.returns-in_err-design-clause-said
returns-in_err-design-clause-said g c =
    let p = err_from_is_err_and c.from_residual.result c.from_residual.ensures.1 in
    let x = session_files c.args.netlist.now c.args.models.now c.args.power.now c.args.edits.now (named_top c.args.top) in
    rw (p.1, p.2) (stops_at_design (g.S.Shelf.files c.args.shelf.now) x c.in_err-design.field-0.0 c.in_err-design.ensures.design)

pub returns-in_err-power-clause-said : goal.returns-in_err-power-clause-said
returns-in_err-power-clause-said g c =
    let p = err_from_is_err_and c.from_residual-in_err-power.result c.from_residual-in_err-power.ensures.1 in
    let x = session_files c.args.netlist.now c.args.models.now c.args.power.now c.args.edits.now (named_top c.args.top) in
    rw (p.1, p.2)
    (stops_at_power (g.S.Shelf.files c.args.shelf.now) x c.in_ok-design.design c.in_ok-design.ensures.design c.in_err-power.field-0.0
    (rw c.read_design.ensures.shelf.files at c.in_err-power.ensures.rows))

pub returns-in_err-power-clause-cause : goal.returns-in_err-power-clause-cause
returns-in_err-power-clause-cause g c =
    let p = err_from_is_err_and c.from_residual-in_err-power.result c.from_residual-in_err-power.ensures.1 in
    let x = session_files c.args.netlist.now c.args.models.now c.args.power.now c.args.edits.now (named_top c.args.top) in
    let before = g.S.Shelf.faults c.args.shelf.now in
    let between = g.S.Shelf.faults c.read_design.new.shelf in
    let after = g.S.Shelf.faults c.read_supplies.new.shelf in
    rw (p.1, p.2)
    (read_through (List PowerRow) Inputs c.in_err-power.field-0.0 _ _
    (λ rose. power_failed (g.S.Shelf.files c.args.shelf.now) x c.in_ok-design.design c.in_ok-design.ensures.design before between after c.read_design.ensures.shelf.counts rose)
    c.in_err-power.ensures.cause)

pub returns-in_err-edits-clause-said : goal.returns-in_err-edits-clause-said
returns-in_err-edits-clause-said g c =
    let p = err_from_is_err_and c.from_residual-in_err-edits.result c.from_residual-in_err-edits.ensures.1 in
    let x = session_files c.args.netlist.now c.args.models.now c.args.power.now c.args.edits.now (named_top c.args.top) in
    let kept = c.read_supplies.ensures.shelf.files ∙ c.read_design.ensures.shelf.files in
    rw (p.1, p.2)
    (stops_at_edits (g.S.Shelf.files c.args.shelf.now) x c.in_ok-design.design c.in_ok-design.ensures.design c.in_ok-power.power (rw c.read_design.ensures.shelf.files at c.in_ok-power.ensures.rows)
    c.in_err-edits.field-0.0 (rw kept at c.in_err-edits.ensures.edits))

pub returns-in_err-edits-clause-cause : goal.returns-in_err-edits-clause-cause
returns-in_err-edits-clause-cause g c =
    let p = err_from_is_err_and c.from_residual-in_err-edits.result c.from_residual-in_err-edits.ensures.1 in
    let x = session_files c.args.netlist.now c.args.models.now c.args.power.now c.args.edits.now (named_top c.args.top) in
    let before = g.S.Shelf.faults c.args.shelf.now in
    let between = g.S.Shelf.faults c.read_supplies.new.shelf in
    let after = g.S.Shelf.faults c.read_edits_file.new.shelf in
    rw (p.1, p.2)
    (read_through (List Edit) Inputs c.in_err-edits.field-0.0 _ _
    (λ rose. edits_failed (g.S.Shelf.files c.args.shelf.now) x c.in_ok-design.design c.in_ok-design.ensures.design c.in_ok-power.power (rw c.read_design.ensures.shelf.files at c.in_ok-power.ensures.rows)
    before between after (λ name. let first = c.read_design.ensures.shelf.counts name in let then = c.read_supplies.ensures.shelf.counts name in omega (arith, first, then)) rose)
    c.in_err-edits.ensures.cause)

pub returns-clause-said : goal.returns-clause-said
returns-clause-said g c =
    let x = session_files c.args.netlist.now c.args.models.now c.args.power.now c.args.edits.now (named_top c.args.top) in
    let kept = c.read_supplies.ensures.shelf.files ∙ c.read_design.ensures.shelf.files in
    all_read (g.S.Shelf.files c.args.shelf.now) x c.in_ok-design.design c.in_ok-design.ensures.design c.in_ok-power.power (rw c.read_design.ensures.shelf.files at c.in_ok-power.ensures.rows)
    (record { design = c.in_ok-design.design; power = c.in_ok-power.power; edits = c.in_ok-edits.edits }) refl refl (rw kept at c.in_ok-edits.ensures.edits)
