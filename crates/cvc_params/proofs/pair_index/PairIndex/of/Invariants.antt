use Rattle.cvc_params.proofs.Indexing.{IsIndexUpTo}
use Rattle.cvc_params.proofs.pair_index.PairIndex.of.Given as goal

abbrev pub invariant-loop-place : goal.invariant-loop-place
invariant-loop-place l = IsIndexUpTo l.pairs l.place l.last.entries
