use Rattle.std.proofs.Common.{map, take}
use Rattle.cvc_names.proofs.Repeats.{AreOnce}
use Rattle.cvc_names.proofs.twice.has_twice.Given as goal

abbrev pub invariant-loop-name : goal.invariant-loop-name
invariant-loop-name l = AreOnce (map (λ name. name) (take l.name-index l.names)) l.seen
