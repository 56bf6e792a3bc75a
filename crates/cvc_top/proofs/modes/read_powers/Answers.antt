use Rattle.std.proofs.Common.{◌∙◌, ◌∷◌, [], All, List, ap, arith, length, length-append, sym, subst}
use Rattle.std.proofs.lemmas.List.Elements.{All-append, All-cons, All-nil}
use Rattle.std.proofs.lemmas.Result.{err_from_is_err_and}
use Rattle.cvc_power.specs.declared.row.PowerRow.{PowerRow}
use Rattle.cvc_power.specs.Power.{IsOrdered}
use Rattle.cvc_run.proofs.Loading.{read_through}
use Rattle.cvc_top.proofs.ModesDue.{one_accepted, power_failed}
use Rattle.cvc_top.proofs.ModesRead.{power_plain}
use Rattle.cvc_top.proofs.ModesSaid.{all_read, one_read, one_stopped}
use Rattle.cvc_top.proofs.modes.read_powers.Goals as goal

pub returns-in_err-power-clause-powers : goal.returns-in_err-power-clause-powers
returns-in_err-power-clause-powers g c =
    let p = err_from_is_err_and c.from_residual.result c.from_residual.ensures.1 in
    let at = c.loop-row.invariant in
    rw (p.1, p.2)
    (one_stopped c.args.rows.now (g.S.Shelf.files c.args.shelf.now) c.loop-row.powers c.loop-row.row-index c.row-item.result c.loop-row-test.true c.row-item.is at.count at.so_far c.in_err-power.field-0.0
    (rw (at.leaves.files, at.place) at c.in_err-power.ensures.rows))

pub returns-in_err-power-clause-cause : goal.returns-in_err-power-clause-cause
returns-in_err-power-clause-cause g c =
    let p = err_from_is_err_and c.from_residual.result c.from_residual.ensures.1 in
    let at = c.loop-row.invariant in
    rw (p.1, p.2)
    (read_through (List PowerRow) (List (List PowerRow)) c.in_err-power.field-0.0 _ _
    (λ rose. power_failed c.args.rows.now c.loop-row.row-index c.row-item.result c.loop-row-test.true c.row-item.is (g.S.Shelf.files c.args.shelf.now) at.accepted (g.S.Shelf.faults c.args.shelf.now)
    (g.S.Shelf.faults c.loop-row.shelf) (g.S.Shelf.faults c.read_power.new.shelf) at.leaves.counts rose)
    c.in_err-power.ensures.cause)

pub loop-row-preserved : goal.loop-row-preserved
loop-row-preserved g c =
    let at = c.loop-row.invariant in
    let pushed = c.in_ok-push.ensures.ok in
    let read = rw (at.leaves.files, at.place) at c.in_ok-power.ensures.rows in
    record {
      leaves = record {
        closed = c.read_power.ensures.shelf.closed;
        files = c.read_power.ensures.shelf.files ∙ at.leaves.files;
        counts = λ name. let first = at.leaves.counts name in let then = c.read_power.ensures.shelf.counts name in omega (arith, first, then);
      };
      place = let before = at.place in omega (arith, before);
      count = let long = ap length pushed ∙ length-append c.loop-row.powers (c.in_ok-power.power ∷ []) in let before = at.count in omega (arith, long, before);
      ordered = subst (All (All IsOrdered)) (sym pushed) (All-append (All IsOrdered) c.loop-row.powers (c.in_ok-power.power ∷ []) at.ordered (All-cons (All IsOrdered) c.in_ok-power.power [] c.in_ok-power.ensures.ordered (All-nil (All IsOrdered))));
      so_far = one_read c.args.rows.now (g.S.Shelf.files c.args.shelf.now) c.loop-row.powers c.loop-row.row-index c.row-item.result c.loop-row-test.true c.row-item.is at.count at.so_far c.in_ok-power.power _ pushed read;
      accepted = one_accepted c.args.rows.now c.loop-row.row-index c.row-item.result c.loop-row-test.true c.row-item.is (g.S.Shelf.files c.args.shelf.now) at.accepted c.in_ok-power.power (power_plain _ _ _ c.in_ok-power.power read);
    }

pub returns-clause-powers : goal.returns-clause-powers
returns-clause-powers g c =
    all_read c.args.rows.now (g.S.Shelf.files c.args.shelf.now) c.loop-row.powers c.loop-row.row-index c.loop-row-test.false c.loop-row.invariant.so_far
