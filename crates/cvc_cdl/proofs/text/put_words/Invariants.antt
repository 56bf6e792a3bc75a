use Rattle.std.proofs.Common.{◌≡◌, ◌++◌, take}
use Rattle.cvc_cdl.specs.Text.{spaced_words}
use Rattle.cvc_cdl.proofs.text.put_words.Given as goal

abbrev pub invariant-loop-word : goal.invariant-loop-word
invariant-loop-word l = l.out.items ≡ l.initial.out.items ++ spaced_words (take l.word-index l.words)
