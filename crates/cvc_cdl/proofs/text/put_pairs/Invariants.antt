use Rattle.std.proofs.Common.{◌≡◌, ◌++◌, take}
use Rattle.cvc_cdl.specs.Text.{pairs_text}
use Rattle.cvc_cdl.proofs.text.put_pairs.Given as goal

abbrev pub invariant-loop-pair : goal.invariant-loop-pair
invariant-loop-pair l = l.out.items ≡ l.initial.out.items ++ pairs_text (take l.pair-index l.pairs)
