use Rattle.std.proofs.Common.{◌≡◌, ◌+◌, [], All, length}
use Rattle.cvc_rows.specs.Rows.{rows_behind}
use Rattle.cvc_rows.proofs.reading.judge_lines.Given as goal

-- the lines that wait decide the rest
abbrev pub invariant-loop-line : goal.invariant-loop-line
invariant-loop-line g l = record {
  knows : g.J.Judge.knows l.judge l.rows;
  rest : rows_behind (g.J.Judge.verdict l.fn.judge) [] l.fn.lexer.waiting ≡ rows_behind (g.J.Judge.verdict l.judge) l.rows l.lexer.waiting;
  fine : All g.J.Judge.fine l.rows;
  few : length l.rows + length l.lexer.waiting ≡ length l.fn.lexer.waiting;
}

abbrev pub decreases-loop-line : goal.decreases-loop-line
decreases-loop-line g l = length l.lexer.waiting
