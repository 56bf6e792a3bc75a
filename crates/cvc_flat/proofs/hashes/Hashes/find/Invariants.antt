use Rattle.std.proofs.Common.{◌-◌, length}
use Rattle.cvc_flat.proofs.Hashing.{IsReached}
use Rattle.cvc_flat.proofs.hashes.Hashes.find.Given as goal

abbrev pub invariant-loop-place : goal.invariant-loop-place
invariant-loop-place g l = IsReached (length l.self-inside.first.items) l.self l.hash (goal.F-post g l.passes) l.place

abbrev pub decreases-loop-place : goal.decreases-loop-place
decreases-loop-place g l = length l.self - l.place
