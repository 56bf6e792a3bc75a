use Rattle.std.proofs.Common.{◌<◌, length, arith}
use Rattle.cvc_core.proofs.Openings.{bounds_pushed}
use Rattle.cvc_core.proofs.opening.opening_bounds.Goals as goal

pub loop-n-preserved : goal.loop-n-preserved
loop-n-preserved c = let lt : c.loop-n.n < length c.args.circuit.now.fixed = omega arith in
    bounds_pushed c.args.circuit.now c.loop-n.n c.loop-n.bounds.items c.push.new.self.items c.push-in-loop-n.new.self.items c.opening_low.result c.opening_high.result lt c.loop-n.invariant c.in_ok-push.ensures.items c.in_ok-push-2.ensures.items c.opening_low.ensures c.opening_high.ensures
