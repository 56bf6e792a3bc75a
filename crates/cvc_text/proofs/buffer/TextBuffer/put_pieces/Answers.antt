use Rattle.std.proofs.Common.{refl}
use Rattle.std.proofs.lemmas.Result.{err_from_is_err_and}
use Rattle.cvc_text.proofs.Putting.{item_put, item_stopped}
use Rattle.cvc_text.proofs.buffer.TextBuffer.put_pieces.Goals as goal

pub returns-in_err-put : goal.returns-in_err-put
returns-in_err-put g c =
    let p = err_from_is_err_and c.from_residual.result c.from_residual.ensures.1 in
    rw p.1 (item_stopped (λ w. w.now) c.args.pieces.now c.loop-piece.piece-index _ _ _ p.0 _ _ _ refl c.loop-piece-test.true c.loop-piece.invariant c.in_err-put.ensures)

pub loop-piece-preserved : goal.loop-piece-preserved
loop-piece-preserved g c = item_put (λ w. w.now) c.args.pieces.now c.loop-piece.piece-index _ _ _ _ _ _ refl c.loop-piece-test.true c.loop-piece.invariant c.in_ok-put.ensures
