use Rattle.cvc_model.proofs.Entries.{IsIndexFrom}
use Rattle.cvc_model.proofs.index.index_of.Given as goal

abbrev pub invariant-loop-place : goal.invariant-loop-place
invariant-loop-place l = IsIndexFrom l.rows l.place l.first.entries l.next.items
