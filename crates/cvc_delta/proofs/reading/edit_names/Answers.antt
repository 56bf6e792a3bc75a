use Rattle.std.proofs.Common.{true, false}
use Rattle.cvc_delta.proofs.Editing.{set_left, unset_left, unset_verdict}
use Rattle.cvc_delta.proofs.reading.edit_names.Goals as goal

pub returns-in_ok-insert-in-Set-clause-left : goal.returns-in_ok-insert-in-Set-clause-left
returns-in_ok-insert-in-Set-clause-left c rows left =
    set_left c.args.left.now c.insert.new.self rows left c.args.edit.now c.in-Set.name c.bytes.result.now c.bytes.ensures c.in-Set.low c.in-Set.high c.in-Set.is c.in_ok-insert-in-Set.ensures

pub returns-then-remove-clause-verdict : goal.returns-then-remove-clause-verdict
returns-then-remove-clause-verdict c rows left =
    unset_verdict c.args.left.now c.remove.new.self rows left c.args.edit.now c.in-Unset.name c.bytes-in-Unset.result.now c.bytes-in-Unset.ensures c.in-Unset.is
    c.remove.result c.remove.ensures.was true c.if-remove.true

pub returns-then-remove-clause-left : goal.returns-then-remove-clause-left
returns-then-remove-clause-left c rows left =
    unset_left c.args.left.now c.remove.new.self rows left c.args.edit.now c.in-Unset.name c.bytes-in-Unset.result.now c.bytes-in-Unset.ensures c.in-Unset.is c.remove.ensures.left

pub returns-else-remove-clause-verdict : goal.returns-else-remove-clause-verdict
returns-else-remove-clause-verdict c rows left =
    unset_verdict c.args.left.now c.remove.new.self rows left c.args.edit.now c.in-Unset.name c.bytes-in-Unset.result.now c.bytes-in-Unset.ensures c.in-Unset.is
    c.remove.result c.remove.ensures.was false c.if-remove.false
