use Rattle.std.proofs.Common.{sym, take, List, ℕ, ap, subst}
use Rattle.std.specs.List.{flat_map, zip}
use Rattle.std.proofs.lemmas.List.{take_all}
use Rattle.std.proofs.lemmas.Result.{err_from_is_err_and}
use Rattle.cvc_text.proofs.Putting.{item_put, item_stopped, nothing_put}
use Rattle.cvc_modes.specs.Text.{mode_text}
use Rattle.cvc_modes.proofs.Pairs.{pair_at, pair_inside, pairs_end}
use Rattle.cvc_modes.proofs.text.put_each.Goals as goal

pub returns-in_err-put_mode : goal.returns-in_err-put_mode
returns-in_err-put_mode g c =
    let p = err_from_is_err_and c.from_residual.result c.from_residual.ensures.1 in
    let rows = c.args.rows.now in
    let modes = c.args.modes.now in
    let k = c.loop-place.place in
    rw p.1 (item_stopped (mode_text c.args.flat.now.list) (zip rows modes) k (c.index-rows-place.result, c.index-modes-place.result) _ _ p.0 _ _ _
    (pair_at rows modes c.requires.as_many k _ _ c.loop-place-test.true c.index-rows-place.is c.index-modes-place.is) (pair_inside rows modes c.requires.as_many k c.loop-place-test.true)
    c.loop-place.invariant c.in_err-put_mode.ensures)

pub loop-place-preserved : goal.loop-place-preserved
loop-place-preserved g c =
    let rows = c.args.rows.now in
    let modes = c.args.modes.now in
    let k = c.loop-place.place in
    item_put (mode_text c.args.flat.now.list) (zip rows modes) k (c.index-rows-place.result, c.index-modes-place.result) _ _ _ _ _
    (pair_at rows modes c.requires.as_many k _ _ c.loop-place-test.true c.index-rows-place.is c.index-modes-place.is) (pair_inside rows modes c.requires.as_many k c.loop-place-test.true)
    c.loop-place.invariant c.in_ok-put_mode.ensures

pub returns : goal.returns
returns g c =
    let rows = c.args.rows.now in
    let modes = c.args.modes.now in
    rw (sym (take_all c.loop-place.place (zip rows modes) (pairs_end rows modes c.requires.as_many c.loop-place.place c.loop-place-test.false))) c.loop-place.invariant
