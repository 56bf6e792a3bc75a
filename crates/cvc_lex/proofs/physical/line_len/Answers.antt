use Rattle.cvc_lex.proofs.Finding.{line_none, line_some}
use Rattle.cvc_lex.proofs.physical.line_len.Goals as goal

pub returns-in-Some : goal.returns-in-Some
returns-in-Some c = line_some c.args.bytes.now c.in-Some.place c.in-Some.ensures

pub returns-in-None : goal.returns-in-None
returns-in-None c = line_none c.args.bytes.now c.in-None.ensures
