use Rattle.std.proofs.Common.{◌≡◌, length}
use Rattle.cvc_crew.proofs.deques.members_of.Given as goal

abbrev pub invariant-loop-worker : goal.invariant-loop-worker
invariant-loop-worker l = length l.members.items ≡ l.worker
