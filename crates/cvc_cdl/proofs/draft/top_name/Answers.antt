use Rattle.std.proofs.Common.{arith}
use Rattle.std.proofs.lemmas.Bool.Decides.{nat_tests}
use Rattle.cvc_cdl.proofs.Endings.{last_is_top}
use Rattle.cvc_cdl.proofs.draft.top_name.Goals as goal

pub returns-in_ok-of-in-len1-up : goal.returns-in_ok-of-in-len1-up
returns-in_ok-of-in-len1-up c =
    last_is_top c.args.cells.now c.args.items.now c.last-item.result c.in-len1-up.len_at_least c.last-item.is (grind (arith, nat_tests, c.if-is_empty.ensures)) c.bytes.result.now c.in_ok-of-in-len1-up.field-0
    c.in_ok-of-in-len1-up.ensures c.bytes.ensures c.args.top c.in_default.is
