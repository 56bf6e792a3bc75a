use Rattle.std.proofs.Common.{None}
use Rattle.std.proofs.lemmas.Result.{err_from_is_err_and}
use Rattle.cvc_model.specs.Bindable.{AreBindable}
use Rattle.cvc_model.specs.Models.{models_of}
use Rattle.cvc_run.specs.Said.{flat_of_file}
use Rattle.cvc_run.specs.declared.stage.Stage.TheVariants.{Models}
use Rattle.cvc_run.specs.declared.stages.Design.{Design}
use Rattle.cvc_run.proofs.Loading.{loads_both, loads_gives, ok_in_step, unread_step}
use Rattle.cvc_run.proofs.Runs.{list_of, rows_of, text_read, text_stops_at_models, text_stops_at_netlist}
use Rattle.cvc_run.proofs.stages.design_of_texts.Goals as goal

pub returns-in_err-flat-clause-design : goal.returns-in_err-flat-clause-design
returns-in_err-flat-clause-design c =
    let p = err_from_is_err_and c.from_residual.result c.from_residual.ensures.1 in
    rw (p.1, p.2)
    (text_stops_at_netlist None c.args.netlist.now c.args.models.now c.as_load.result (rw c.as_load.ensures (loads_gives list_of c.flat_of_text.result (flat_of_file None c.args.netlist.now) c.flat_of_text.ensures)) c.in_err-flat.field-0.0
    c.in_err-flat.ensures)

pub returns-in_err-models-clause-design : goal.returns-in_err-models-clause-design
returns-in_err-models-clause-design c =
    let p = err_from_is_err_and c.from_residual-in_err-models.result c.from_residual-in_err-models.ensures.1 in
    rw (p.1, p.2)
    (text_stops_at_models None c.args.netlist.now c.args.models.now c.as_load.result (rw c.as_load.ensures (loads_gives list_of c.flat_of_text.result (flat_of_file None c.args.netlist.now) c.flat_of_text.ensures)) c.in_ok-flat.flat c.in_ok-flat.ensures
    c.as_load-2.result (loads_both rows_of c.read_models.result c.as_load-2.result (models_of c.args.models.now) c.as_load-2.ensures (rw c.bytes.ensures at c.read_models.ensures.rows) (rw c.bytes.ensures at c.read_models.ensures.fault))
    c.in_err-models.field-0.0 c.in_err-models.ensures)

pub returns-clause-design : goal.returns-clause-design
returns-clause-design c =
    text_read None c.args.netlist.now c.args.models.now c.as_load.result (rw c.as_load.ensures (loads_gives list_of c.flat_of_text.result (flat_of_file None c.args.netlist.now) c.flat_of_text.ensures)) c.in_ok-flat.flat c.in_ok-flat.ensures
    c.as_load-2.result (loads_both rows_of c.read_models.result c.as_load-2.result (models_of c.args.models.now) c.as_load-2.ensures (rw c.bytes.ensures at c.read_models.ensures.rows) (rw c.bytes.ensures at c.read_models.ensures.fault))
    c.in_ok-models.models c.in_ok-models.ensures

pub returns-clause-bindable : goal.returns-clause-bindable
returns-clause-bindable c = ok_in_step Models c.read_models.result c.as_load-2.result c.in_ok-models.models AreBindable c.as_load-2.ensures c.in_ok-models.ensures c.read_models.ensures.bindable

pub returns-in_err-models-clause-unread : goal.returns-in_err-models-clause-unread
returns-in_err-models-clause-unread c =
    let p = err_from_is_err_and c.from_residual-in_err-models.result c.from_residual-in_err-models.ensures.1 in
    rw (p.1, p.2) (unread_step Design Models c.read_models.result c.as_load-2.result c.in_err-models.field-0.0 c.as_load-2.ensures c.in_err-models.ensures)
