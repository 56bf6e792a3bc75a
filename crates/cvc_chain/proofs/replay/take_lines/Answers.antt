use Rattle.cvc_chain.proofs.Replays.{at_next, at_stop}
use Rattle.cvc_chain.proofs.replay.take_lines.Goals as goal

pub returns-then-not-take_justified-clause-some : goal.returns-then-not-take_justified-clause-some
returns-then-not-take_justified-clause-some c =
    let off = rw c.if-not-take_justified.true at c.take_justified.ensures.left in
    at_stop c.args.circuit.now c.args.log.now c.loop-place.bounds c.loop-place.place c.index-log-place.result c.loop-place-test.true c.index-log-place.is off c.loop-place.invariant

pub loop-place-preserved : goal.loop-place-preserved
loop-place-preserved c =
    let taken = rw c.if-not-take_justified.false at c.take_justified.ensures.taken in
    at_next c.args.circuit.now c.args.log.now c.loop-place.bounds c.take_justified.new.bounds c.loop-place.place c.index-log-place.result c.loop-place-test.true c.index-log-place.is taken.0 taken.1 c.loop-place.invariant
