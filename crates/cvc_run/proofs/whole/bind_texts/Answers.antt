use Rattle.std.proofs.Common.{All, None}
use Rattle.std.proofs.lemmas.Result.{err_from_is_err_and}
use Rattle.cvc_power.specs.Power.{IsOrdered, power_of}
use Rattle.cvc_run.specs.declared.stage.Stage.TheVariants.{Power}
use Rattle.cvc_run.specs.declared.whole.Whole.{Whole}
use Rattle.cvc_run.proofs.Loading.{loads_both, ok_in_step, unread_step}
use Rattle.cvc_run.proofs.Runs.{parts_of, spans_of, whole_of}
use Rattle.cvc_run.proofs.Steps.{bound_at_design, bound_at_power, bound_read, says_accepted, says_stopped}
use Rattle.cvc_run.proofs.whole.bind_texts.Goals as goal

pub returns-in_err-design-clause-said : goal.returns-in_err-design-clause-said
returns-in_err-design-clause-said c =
    let p = err_from_is_err_and c.from_residual.result c.from_residual.ensures.1 in
    let texts = c.args.texts.now in
    rw (p.1, p.2) (bound_at_design None texts.netlist texts.models texts.power whole_of parts_of c.in_err-design.field-0.0 c.in_err-design.ensures.design)

pub returns-in_err-power-clause-said : goal.returns-in_err-power-clause-said
returns-in_err-power-clause-said c =
    let p = err_from_is_err_and c.from_residual-in_err-power.result c.from_residual-in_err-power.ensures.1 in
    let texts = c.args.texts.now in
    rw (p.1, p.2)
    (bound_at_power None texts.netlist texts.models texts.power whole_of (parts_of c.in_ok-design.design) c.in_ok-design.ensures.design spans_of c.in_err-power.field-0.0
    (says_stopped spans_of Power c.as_load.result (power_of texts.power) c.in_err-power.field-0.0 c.in_err-power.ensures
    (loads_both spans_of c.read_power.result c.as_load.result (power_of texts.power) c.as_load.ensures (rw c.bytes.ensures at c.read_power.ensures.rows) (rw c.bytes.ensures at c.read_power.ensures.fault))))

pub bind_design-requires-clause-ordered : goal.bind_design-requires-clause-ordered
bind_design-requires-clause-ordered c = ok_in_step Power c.read_power.result c.as_load.result c.in_ok-power.power (All IsOrdered) c.as_load.ensures c.in_ok-power.ensures c.read_power.ensures.ordered

pub returns-clause-said : goal.returns-clause-said
returns-clause-said c =
    let texts = c.args.texts.now in
    bound_read None texts.netlist texts.models texts.power whole_of (parts_of c.in_ok-design.design) c.in_ok-design.ensures.design c.in_ok-power.power
    (says_accepted spans_of Power c.as_load.result (power_of texts.power) c.in_ok-power.power c.in_ok-power.ensures
    (loads_both spans_of c.read_power.result c.as_load.result (power_of texts.power) c.as_load.ensures (rw c.bytes.ensures at c.read_power.ensures.rows) (rw c.bytes.ensures at c.read_power.ensures.fault)))
    c.bind_design.result c.bind_design.ensures.said

pub returns-in_err-power-clause-unread : goal.returns-in_err-power-clause-unread
returns-in_err-power-clause-unread c =
    let p = err_from_is_err_and c.from_residual-in_err-power.result c.from_residual-in_err-power.ensures.1 in
    rw (p.1, p.2) (unread_step Whole Power c.read_power.result c.as_load.result c.in_err-power.field-0.0 c.as_load.ensures c.in_err-power.ensures)
