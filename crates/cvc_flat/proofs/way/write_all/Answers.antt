use Rattle.std.proofs.Common.{◌∙◌, arith}
use Rattle.std.proofs.lemmas.Result.{err_from_is_err_and}
use Rattle.cvc_flat.proofs.Writing.{part_front, written_more}
use Rattle.cvc_flat.proofs.way.write_all.Goals as goal

pub returns-in_err-done-clause-written : goal.returns-in_err-done-clause-written
returns-in_err-done-clause-written g c =
    let p = err_from_is_err_and c.from_residual.result c.from_residual.ensures.1 in
    rw p.1 (part_front c.args.text.now c.loop-done.done (g.K.Sink.written c.args.sink.now) (g.K.Sink.written c.write.new.self) (c.in_err-done.ensures.bytes ∙ c.loop-done.invariant.written))

pub loop-done-preserved : goal.loop-done-preserved
loop-done-preserved g c = record {
  counts = omega (arith, c.loop-done.invariant.counts, c.in_ok-done.ensures.cause.later);
  inside = omega (arith, c.in_ok-done.ensures.bound.1, c.loop-done-test.true);
  written = written_more c.args.text.now c.loop-done.done c.in_ok-done.field-0 (g.K.Sink.written c.args.sink.now) (g.K.Sink.written c.loop-done.sink) (g.K.Sink.written c.write.new.self) c.loop-done.invariant.written c.in_ok-done.ensures.bytes;
}
