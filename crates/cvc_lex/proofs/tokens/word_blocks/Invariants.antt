use Rattle.std.proofs.Common.{◌-◌, length}
use Rattle.cvc_lex.specs.Bytes.{is_word}
use Rattle.cvc_lex.specs.Skips.{SkipsTo}
use Rattle.cvc_lex.proofs.tokens.word_blocks.Given as goal

abbrev pub invariant-loop-i : goal.invariant-loop-i
invariant-loop-i l = SkipsTo (is_word l.file) l.text l.i

abbrev pub decreases-loop-i : goal.decreases-loop-i
decreases-loop-i l = length l.text - l.i
