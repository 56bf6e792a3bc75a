use Rattle.std.proofs.Common.{◌≡◌, false}
use Rattle.cvc_tests_read.proofs.lexed.fed.Given as goal

abbrev pub invariant-loop : goal.invariant-loop
invariant-loop l = l.lexer.finished ≡ false
