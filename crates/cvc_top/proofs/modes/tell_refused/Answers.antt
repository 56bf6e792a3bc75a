use Rattle.cvc_top.proofs.ModesTold.{told_of_its_row}
use Rattle.cvc_top.proofs.modes.tell_refused.Goals as goal

pub returns-clause-ends : goal.returns-clause-ends
returns-clause-ends g c = told_of_its_row c.args.list.now c.args.refused.now c.get-row.result.now c.bytes.result.now _ c.tell.result c.requires c.get-row.ensures c.bytes.ensures c.tell.ensures.ends
