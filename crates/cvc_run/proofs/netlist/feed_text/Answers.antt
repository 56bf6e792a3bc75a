use Rattle.std.proofs.Common.{◌++◌}
use Rattle.std.proofs.lemmas.Result.{err_from_is_err_and}
use Rattle.cvc_run.proofs.Feeding.{decided_by_front, piece_behind}
use Rattle.cvc_run.proofs.netlist.feed_text.Goals as goal

pub returns-in_err-feed-clause-decided : goal.returns-in_err-feed-clause-decided
returns-in_err-feed-clause-decided c =
    let inv = c.pieces.invariant in
    let p = err_from_is_err_and c.from_residual.result c.from_residual.ensures.1 in
    rw (p.1, p.2)
    (decided_by_front c.args.text.now (inv.fed ++ c.split_at.result.0.now) c.split_at.result.1.now c.in_err-feed.field-0.0
    (piece_behind c.args.text.now inv.fed c.pieces.rest.now c.split_at.result.0.now c.split_at.result.1.now c.min.result inv.split c.split_at.ensures.front c.split_at.ensures.back)
    (c.in_err-feed.ensures.decided inv.fed inv.read))

pub pieces-preserved : goal.pieces-preserved
pieces-preserved c =
    let inv = c.pieces.invariant in
    record {
      fed = inv.fed ++ c.split_at.result.0.now;
      split = piece_behind c.args.text.now inv.fed c.pieces.rest.now c.split_at.result.0.now c.split_at.result.1.now c.min.result inv.split c.split_at.ensures.front c.split_at.ensures.back;
      read = c.in_ok-feed.ensures.read inv.fed inv.read;
    }
