use Rattle.std.proofs.Common.{◌∙◌, arith}
use Rattle.cvc_card.proofs.Finding.{nets_before_slash, cell_after_slash, nets_but_last, cell_at_end, no_nets, no_cell}
use Rattle.cvc_card.proofs.instance.nets_and_cell.Goals as goal

pub returns-then-slash-plain-clause-nets : goal.returns-then-slash-plain-clause-nets
returns-then-slash-plain-clause-nets c = nets_before_slash c.args.plain.now c.slash_place-slash.result c.slash_place-slash.ensures c.if-slash-plain.true

pub returns-then-slash-plain-clause-cell : goal.returns-then-slash-plain-clause-cell
returns-then-slash-plain-clause-cell c = c.first_token.ensures ∙ cell_after_slash c.args.plain.now c.slash_place-slash.result c.slash_place-slash.ensures c.if-slash-plain.true

pub returns-in-empty-clause-nets : goal.returns-in-empty-clause-nets
returns-in-empty-clause-nets c = no_nets c.args.plain.now (omega arith)

pub returns-in-empty-clause-cell : goal.returns-in-empty-clause-cell
returns-in-empty-clause-cell c = no_cell c.args.plain.now (omega arith)

pub returns-in-len1-up-clause-nets : goal.returns-in-len1-up-clause-nets
returns-in-len1-up-clause-nets c = nets_but_last c.args.plain.now c.slash_place-slash.result c.slash_place-slash.ensures c.if-slash-plain.false

pub returns-in-len1-up-clause-cell : goal.returns-in-len1-up-clause-cell
returns-in-len1-up-clause-cell c = cell_at_end c.args.plain.now c.slash_place-slash.result c.slash_place-slash.ensures _ c.if-slash-plain.false (omega arith)
