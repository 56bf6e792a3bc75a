use Rattle.std.proofs.Common.{length}
use Rattle.cvc_names.proofs.Chaining.{IsReached}
use Rattle.cvc_names.proofs.chains.Chains.find.Given as goal

abbrev pub invariant-loop-link : goal.invariant-loop-link
invariant-loop-link g l = IsReached (length l.self-inside.heads.items) l.self l.hash (goal.F-post g l.passes) l.link

abbrev pub decreases-loop-link : goal.decreases-loop-link
decreases-loop-link g l = l.link
