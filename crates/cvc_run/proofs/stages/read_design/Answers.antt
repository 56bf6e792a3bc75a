use Rattle.std.proofs.Common.{inl}
use Rattle.std.proofs.lemmas.Result.{err_from_is_err_and}
use Rattle.cvc_cdl.specs.Builder.{named_top}
use Rattle.cvc_model.specs.Bindable.{AreBindable}
use Rattle.cvc_run.specs.declared.stage.Stage.TheVariants.{Netlist, Models}
use Rattle.cvc_run.specs.declared.stages.Design.{Design}
use Rattle.cvc_run.proofs.Loading.{ok_of_step, step_failed}
use Rattle.cvc_run.proofs.Runs.{both_read, models_failed, stops_at_models, stops_at_netlist}
use Rattle.cvc_run.proofs.stages.read_design.Goals as goal

pub returns-in_err-flat-clause-design : goal.returns-in_err-flat-clause-design
returns-in_err-flat-clause-design g c =
    let p = err_from_is_err_and c.from_residual.result c.from_residual.ensures.1 in
    rw (p.1, p.2)
    (stops_at_netlist (g.S.Shelf.files c.args.shelf.now) (named_top c.args.top) c.args.netlist.now c.args.models.now c.load_flat.result (rw c.name_bytes.ensures at c.load_flat.ensures.flat) c.in_err-flat.field-0.0 c.in_err-flat.ensures)

pub returns-in_err-flat-clause-cause : goal.returns-in_err-flat-clause-cause
returns-in_err-flat-clause-cause g c =
    let p = err_from_is_err_and c.from_residual.result c.from_residual.ensures.1 in
    rw (p.1, p.2) (step_failed Design Netlist c.load_flat.result c.in_err-flat.field-0.0 c.in_err-flat.ensures _ _ (λ rose. inl rose) c.load_flat.ensures.cause)

pub returns-in_err-models-clause-design : goal.returns-in_err-models-clause-design
returns-in_err-models-clause-design g c =
    let p = err_from_is_err_and c.from_residual-in_err-models.result c.from_residual-in_err-models.ensures.1 in
    rw (p.1, p.2)
    (stops_at_models (g.S.Shelf.files c.args.shelf.now) (named_top c.args.top) c.args.netlist.now c.args.models.now c.load_flat.result (rw c.name_bytes.ensures at c.load_flat.ensures.flat) c.in_ok-flat.flat c.in_ok-flat.ensures c.load_models.result
    (rw c.load_flat.ensures.shelf.files at c.load_models.ensures.rows) c.in_err-models.field-0.0 c.in_err-models.ensures)

pub returns-in_err-models-clause-cause : goal.returns-in_err-models-clause-cause
returns-in_err-models-clause-cause g c =
    let p = err_from_is_err_and c.from_residual-in_err-models.result c.from_residual-in_err-models.ensures.1 in
    rw (p.1, p.2)
    (step_failed Design Models c.load_models.result c.in_err-models.field-0.0 c.in_err-models.ensures _ _
    (λ rose. models_failed (g.S.Shelf.files c.args.shelf.now) (named_top c.args.top) c.args.netlist.now c.args.models.now c.load_flat.result (rw c.name_bytes.ensures at c.load_flat.ensures.flat) c.in_ok-flat.flat c.in_ok-flat.ensures c.load_models.result
    (rw c.load_flat.ensures.shelf.files at c.load_models.ensures.rows) (g.S.Shelf.faults c.args.shelf.now) (g.S.Shelf.faults c.load_flat.new.shelf) (g.S.Shelf.faults c.load_models.new.shelf) c.load_flat.ensures.shelf.counts rose)
    c.load_models.ensures.cause)

pub returns-clause-design : goal.returns-clause-design
returns-clause-design g c =
    both_read (g.S.Shelf.files c.args.shelf.now) (named_top c.args.top) c.args.netlist.now c.args.models.now c.load_flat.result (rw c.name_bytes.ensures at c.load_flat.ensures.flat) c.in_ok-flat.flat c.in_ok-flat.ensures c.load_models.result
    (rw c.load_flat.ensures.shelf.files at c.load_models.ensures.rows) c.in_ok-models.models c.in_ok-models.ensures

pub returns-clause-bindable : goal.returns-clause-bindable
returns-clause-bindable g c = ok_of_step Models c.load_models.result c.in_ok-models.models AreBindable c.in_ok-models.ensures c.load_models.ensures.bindable
