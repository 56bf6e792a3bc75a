use Rattle.cvc_delta.proofs.Searching.{NotBefore}
use Rattle.cvc_delta.proofs.rows.place_of.Given as goal

abbrev pub invariant-loop-place : goal.invariant-loop-place
invariant-loop-place l = NotBefore l.rows l.name l.place
