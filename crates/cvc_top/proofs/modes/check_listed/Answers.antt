use Rattle.std.proofs.lemmas.Result.{err_from_is_err_and}
use Rattle.cvc_top.specs.ModesHeld.{listed_view}
use Rattle.cvc_top.proofs.ModesRead.{as_many_results}
use Rattle.cvc_top.proofs.ModesSaid.{all_checked, stops_at_binding, stops_at_powers}
use Rattle.cvc_top.proofs.modes.check_listed.Goals as goal

pub returns-in_err-powers-clause-said : goal.returns-in_err-powers-clause-said
returns-in_err-powers-clause-said g c =
    let p = err_from_is_err_and c.from_residual.result c.from_residual.ensures.1 in
    rw (p.1, p.2) (stops_at_powers (g.S.Shelf.files c.args.shelf.now) (listed_view c.args.listed.now) c.in_err-powers.field-0.0 (rw c.as_slice.ensures at c.in_err-powers.ensures.powers))

pub returns-in-Ok-clause-said : goal.returns-in-Ok-clause-said
returns-in-Ok-clause-said g c =
    all_checked (g.S.Shelf.files c.args.shelf.now) (listed_view c.args.listed.now) c.in_ok-powers.powers (rw c.as_slice.ensures at c.in_ok-powers.ensures.powers) c.in-Ok.results c.in-Ok.ensures.circuits

pub returns-in-Ok-clause-as_many : goal.returns-in-Ok-clause-as_many
returns-in-Ok-clause-as_many g c =
    as_many_results c.args.listed.now.design.flat.list c.args.listed.now.design.models c.in_ok-powers.powers c.in-Ok.results _ (rw c.as_slice.ensures at c.in_ok-powers.ensures.as_many) c.in-Ok.ensures.circuits

pub returns-clause-said : goal.returns-clause-said
returns-clause-said g c =
    rw c.binding_stop.ensures
    (stops_at_binding (g.S.Shelf.files c.args.shelf.now) (listed_view c.args.listed.now) c.in_ok-powers.powers (rw c.as_slice.ensures at c.in_ok-powers.ensures.powers) c.in-Err.refusal c.in-Err.ensures.circuits)
