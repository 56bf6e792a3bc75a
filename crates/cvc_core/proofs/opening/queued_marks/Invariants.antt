use Rattle.std.proofs.Common.{◌≡◌, map, replicate}
use Rattle.cvc_core.specs.Store.{mark_word}
use Rattle.cvc_core.proofs.opening.queued_marks.Given as goal

abbrev pub invariant-loop : goal.invariant-loop
invariant-loop l = map mark_word l.marks.items ≡ replicate l.counter 1
