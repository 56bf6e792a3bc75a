use Rattle.std.proofs.Common.{◌-◌, length}
use Rattle.cvc_lex.proofs.Adding.{IsAdding}
use Rattle.cvc_lex.proofs.tokens.add_tokens.Given as goal

abbrev pub invariant-loop-start : goal.invariant-loop-start
invariant-loop-start l = IsAdding l.file l.number l.text l.from l.i l.initial.tokens l.tokens

abbrev pub decreases-loop-start : goal.decreases-loop-start
decreases-loop-start l = length l.text - l.i
