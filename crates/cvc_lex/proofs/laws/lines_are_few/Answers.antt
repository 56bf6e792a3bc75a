use Rattle.cvc_lex.proofs.Counted.{few_lines}
use Rattle.cvc_lex.proofs.laws.lines_are_few.Goals as goal

pub returns : goal.returns
returns c = few_lines
