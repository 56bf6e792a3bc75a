use Rattle.std.proofs.Common.{sym, ◌∙◌}
use Rattle.cvc_lex.proofs.Comments.{card_found, row_found}
use Rattle.cvc_lex.proofs.physical.begins_comment.Goals as goal

pub returns-then-is_netlist : goal.returns-then-is_netlist
returns-then-is_netlist c = card_found c.args.file c.args.line.now c.indent.result c.card_comment.result (sym c.is_netlist.ensures ∙ c.if-is_netlist.true) c.indent.ensures.place c.card_comment.ensures

pub returns-else-is_netlist : goal.returns-else-is_netlist
returns-else-is_netlist c = row_found c.args.file c.args.line.now c.indent.result c.row_comment.result (sym c.is_netlist.ensures ∙ c.if-is_netlist.false) c.indent.ensures.place c.row_comment.ensures
