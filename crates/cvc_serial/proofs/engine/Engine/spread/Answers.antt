use Rattle.std.proofs.Common.{arith}
use Rattle.cvc_serial.proofs.Settles.{popped_net, onward_popped, popped_less, onward_emptied, onward_more}
use Rattle.cvc_serial.proofs.engine.Engine.spread.Goals as goal

pub visit-requires-clause-net : goal.visit-requires-clause-net
visit-requires-clause-net c = popped_net c.args.circuit.now c.loop-bound.self c.in-Some.bound c.pop.new.self c.loop-bound.invariant.settling c.in-Some.ensures.permutation

pub visit-requires-clause-settling : goal.visit-requires-clause-settling
visit-requires-clause-settling c = (onward_popped c.args.circuit.now c.loop-bound.self c.in-Some.bound c.pop.new.self c.loop-bound.invariant.settling c.in-Some.ensures.permutation).settling

pub loop-bound-smaller : goal.loop-bound-smaller
loop-bound-smaller c = omega (arith, popped_less c.args.circuit.now c.loop-bound.self c.in-Some.bound c.pop.new.self c.in-Some.ensures.permutation, c.in_ok-visit.ensures.work)

pub loop-bound-preserved : goal.loop-bound-preserved
loop-bound-preserved c =
    onward_more c.args.circuit.now c.args.self.now c.loop-bound.self c.visit.new.self c.loop-bound.invariant
    (onward_more c.args.circuit.now c.loop-bound.self (record c.loop-bound.self { waiting = c.pop.new.self }) c.visit.new.self
    (onward_popped c.args.circuit.now c.loop-bound.self c.in-Some.bound c.pop.new.self c.loop-bound.invariant.settling c.in-Some.ensures.permutation) c.in_ok-visit.ensures)

pub returns : goal.returns
returns c = onward_more c.args.circuit.now c.args.self.now c.loop-bound.self (record c.loop-bound.self { waiting = c.pop.new.self }) c.loop-bound.invariant
    (onward_emptied c.args.circuit.now c.loop-bound.self c.pop.new.self c.loop-bound.invariant.settling c.in_default.ensures.none)
