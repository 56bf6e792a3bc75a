use Rattle.std.proofs.Common.{◌≡◌, ◌++◌}
use Rattle.cvc_cdl.proofs.draft.append.Given as goal

-- the pairs that are left make it whole
abbrev pub invariant-loop-pair : goal.invariant-loop-pair
invariant-loop-pair l = l.list ++ l.pair-iterator.rest.items ≡ l.initial.list ++ l.initial.pair-iterator.rest.items
