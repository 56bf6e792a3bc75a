use Rattle.std.proofs.Common.{◌≡◌, ◌++◌, take}
use Rattle.cvc_findings.proofs.join.put_all.Given as goal

abbrev pub invariant-loop-finding : goal.invariant-loop-finding
invariant-loop-finding l = l.list ≡ l.initial.list ++ take l.finding-index l.found
