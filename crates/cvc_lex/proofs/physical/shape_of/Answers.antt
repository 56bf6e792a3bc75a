use Rattle.std.proofs.Common.{sym, ◌∙◌, true, false}
use Rattle.cvc_lex.proofs.Texts.{card_at, row_at}
use Rattle.cvc_lex.proofs.physical.shape_of.Goals as goal

pub returns-then-is_netlist : goal.returns-then-is_netlist
returns-then-is_netlist c = c.card_shape.ensures ∙ card_at c.args.file c.args.text.now c.indent.result (sym c.is_netlist.ensures ∙ c.if-is_netlist.true) c.indent.ensures.place

pub returns-then-is_empty : goal.returns-then-is_empty
returns-then-is_empty c = row_at c.args.file c.args.text.now c.indent.result true (sym c.is_netlist.ensures ∙ c.if-is_netlist.false) c.indent.ensures.place (sym c.is_empty.ensures ∙ c.if-is_empty.true)

pub returns-else-is_empty : goal.returns-else-is_empty
returns-else-is_empty c = row_at c.args.file c.args.text.now c.indent.result false (sym c.is_netlist.ensures ∙ c.if-is_netlist.false) c.indent.ensures.place (sym c.is_empty.ensures ∙ c.if-is_empty.false)
