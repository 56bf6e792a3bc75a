use Rattle.std.proofs.Common.{◌≤◌, ◌-◌, length, take, Ok}
use Rattle.cvc_lex.specs.Scanning.{lexing_of, Reads}
use Rattle.cvc_lex.proofs.scanner.Scanner.read_piece.Given as goal

abbrev pub invariant-loop-len : goal.invariant-loop-len
invariant-loop-len l = (l.start ≤ length l.piece) × Reads (lexing_of l.initial.self) (lexing_of l.self) (take l.start l.piece) (Ok tt)

abbrev pub decreases-loop-len : goal.decreases-loop-len
decreases-loop-len l = length l.piece - l.start
