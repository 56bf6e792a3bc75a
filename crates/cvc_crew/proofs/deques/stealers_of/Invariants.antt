use Rattle.std.proofs.Common.{◌≡◌, length}
use Rattle.cvc_crew.proofs.deques.stealers_of.Given as goal

abbrev pub invariant-loop-member : goal.invariant-loop-member
invariant-loop-member l = length l.stealers.items ≡ l.member-index
