use Rattle.std.proofs.Common.{◌∙◌, arith}
use Rattle.std.proofs.lemmas.Result.{err_from_is_err_and}
use Rattle.cvc_text.proofs.Putting.{part_front, written_more, put_inside}
use Rattle.cvc_text.proofs.buffer.write_all.Goals as goal

pub returns-in_err-done-clause-written : goal.returns-in_err-done-clause-written
returns-in_err-done-clause-written g c =
    let p = err_from_is_err_and c.from_residual.result c.from_residual.ensures.1 in
    rw p.1 (part_front c.args.text.now c.loop-done.done (g.K.Sink.written c.args.sink.now) (g.K.Sink.written c.write.new.self) (c.in_err-done.ensures.bytes ∙ c.loop-done.invariant.written))

pub loop-done-preserved : goal.loop-done-preserved
loop-done-preserved g c = record {
  within = put_inside c.args.text.now c.loop-done.done c.in_ok-done.field-0 c.loop-done.invariant.within c.in_ok-done.ensures.bound.1;
  written = written_more c.args.text.now c.loop-done.done c.in_ok-done.field-0 (g.K.Sink.written c.args.sink.now) (g.K.Sink.written c.loop-done.sink) (g.K.Sink.written c.write.new.self) c.loop-done.invariant.written c.in_ok-done.ensures.bytes;
  later = omega (arith, c.loop-done.invariant.later, c.in_ok-done.ensures.cause.later);
}
