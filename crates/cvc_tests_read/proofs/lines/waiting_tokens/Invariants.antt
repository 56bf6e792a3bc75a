use Rattle.std.proofs.Common.{◌≡◌, length}
use Rattle.cvc_tests_read.proofs.lines.waiting_tokens.Given as goal

abbrev pub invariant-loop-line : goal.invariant-loop-line
invariant-loop-line l = l.lexer.finished ≡ l.initial.lexer.finished

abbrev pub decreases-loop-line : goal.decreases-loop-line
decreases-loop-line l = length l.lexer.waiting
