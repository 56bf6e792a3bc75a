use Rattle.std.proofs.Common.{◌≡◌, All, List, ◌++◌, length}
use Rattle.cvc_base.specs.declared.line.Line.{Line}
use Rattle.cvc_lex.specs.Laws.{HasToken}
use Rattle.cvc_run.specs.Reader.{Passes}
use Rattle.cvc_run.proofs.netlist.pass_lines.Given as goal

-- the first of the lines that waited are passed on
abbrev pub invariant-loop-line : goal.invariant-loop-line
invariant-loop-line l = record {
  lines : List Line;
  rest : l.fn.lexer.waiting ≡ lines ++ l.lexer.waiting;
  passed : Passes l.fn.builder lines l.builder;
  same : l.lexer ≡ record l.fn.lexer { waiting = l.lexer.waiting };
  tokens : All HasToken l.lexer.waiting;
}

abbrev pub decreases-loop-line : goal.decreases-loop-line
decreases-loop-line l = length l.lexer.waiting
