use Rattle.std.proofs.Common.{length, map}
use Rattle.cvc_law.specs.Bound.{IsBound}
use Rattle.cvc_run.specs.declared.stage.Stage.TheVariants.{Binding}
use Rattle.std.proofs.lemmas.Result.{err_from_is_err_and}
use Rattle.cvc_run.proofs.Runs.{whole_of}
use Rattle.cvc_run.proofs.Loading.{ok_in_step}
use Rattle.cvc_run.proofs.Steps.{bind_accepted, bind_stopped}
use Rattle.cvc_run.proofs.whole.bind_design.Goals as goal

pub returns-in_err-circuit-clause-said : goal.returns-in_err-circuit-clause-said
returns-in_err-circuit-clause-said c =
    let p = err_from_is_err_and c.from_residual.result c.from_residual.ensures.1 in
    rw (p.1, p.2)
    (bind_stopped c.args.design.flat.list c.args.design.models c.args.power.now c.bind.result c.bind.ensures.circuit c.as_load.result c.as_load.ensures whole_of c.in_err-circuit.field-0.0 c.in_err-circuit.ensures)

pub returns-clause-said : goal.returns-clause-said
returns-clause-said c = bind_accepted c.args.design.flat.list c.args.design.models c.args.power.now c.bind.result c.bind.ensures.circuit c.as_load.result c.as_load.ensures c.in_ok-circuit.circuit c.in_ok-circuit.ensures

pub returns-clause-bound : goal.returns-clause-bound
returns-clause-bound c =
    let f = c.args.design.flat.list in
    ok_in_step Binding c.bind.result c.as_load.result c.in_ok-circuit.circuit (IsBound (length f.nets) (map (λ d. d.pins) f.devices)) c.as_load.ensures c.in_ok-circuit.ensures c.bind.ensures.bound
