use Rattle.std.proofs.Common.{length}
use Rattle.cvc_flat.proofs.Hashing.{AreChainedFrom}
use Rattle.cvc_flat.proofs.hashes.Hashes.of.Given as goal

abbrev pub invariant-loop-place : goal.invariant-loop-place
invariant-loop-place l = AreChainedFrom (length l.initial.first.items) l.list.items l.place l.first.items l.next.items
