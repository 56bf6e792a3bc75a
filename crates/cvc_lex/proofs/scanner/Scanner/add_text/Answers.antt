use Rattle.std.proofs.Common.{sym}
use Rattle.cvc_lex.proofs.LineEnds.{continuation_netlist, continuation_plus}
use Rattle.cvc_lex.proofs.scanner.Scanner.add_text.Goals as goal

pub continue_line-requires-clause-netlist : goal.continue_line-requires-clause-netlist
continue_line-requires-clause-netlist c = continuation_netlist c.args.self.now.file c.args.text.now (sym c.in-Continuation.ensures)

pub continue_line-requires-clause-plus : goal.continue_line-requires-clause-plus
continue_line-requires-clause-plus c = continuation_plus c.args.self.now.file c.args.text.now (sym c.in-Continuation.ensures)
