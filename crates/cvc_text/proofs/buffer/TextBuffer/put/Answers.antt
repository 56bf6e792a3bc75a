use Rattle.std.proofs.Common.{List, ℕ, ◌++◌, ◌-◌, ◌∙◌, ap, take, drop, length}
use Rattle.std.proofs.lemmas.Result.{err_from_is_err_and}
use Rattle.cvc_text.proofs.Putting.{put_inside, put_piece, put_stopped}
use Rattle.cvc_text.proofs.buffer.TextBuffer.put.Goals as goal

pub returns-in_err-make_room : goal.returns-in_err-make_room
returns-in_err-make_room g c =
    let p = err_from_is_err_and c.from_residual.result c.from_residual.ensures.1 in
    rw p.1 (put_stopped _ p.0 _ _ _ c.args.text.now c.loop-done.done c.loop-done.invariant.put c.in_err-make_room.ensures.put)

pub loop-done-preserved : goal.loop-done-preserved
loop-done-preserved g c = record {
  within = put_inside c.args.text.now c.loop-done.done c.fill-done.result c.loop-done.invariant.within c.fill-done.ensures.bound;
  put = put_piece _ _ _ _ c.make_room.new.self _ _ c.args.text.now c.loop-done.done c.fill-done.result c.loop-done.invariant.put c.in_ok-make_room.ensures.put (c.fill-done.ensures.put ∙ ap (λ (l : List ℕ). l ++ take c.fill-done.result (take (length c.args.text.now - c.loop-done.done) (drop c.loop-done.done c.args.text.now))) c.self.view_is);
}
