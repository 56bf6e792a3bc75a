use Rattle.std.proofs.Common.{List}
use Rattle.cvc_power.specs.declared.row.PowerRow.{PowerRow}
use Rattle.cvc_top.proofs.SessionInputs.{power_own, supplies_read, supplies_refused}
use Rattle.cvc_top.proofs.session.read_supplies.Goals as goal

pub returns-in-Ok-clause-rows : goal.returns-in-Ok-clause-rows
returns-in-Ok-clause-rows g c =
    supplies_read (g.S.Shelf.files c.args.shelf.now) c.args.name.now c.in_ok-text.text c.in_ok-text.ensures.bytes c.in-Ok.rows (rw c.bytes.ensures at c.in-Ok.ensures.rows)

pub returns-clause-rows : goal.returns-clause-rows
returns-clause-rows g c =
    rw c.power_stop.ensures
    (supplies_refused (g.S.Shelf.files c.args.shelf.now) c.args.name.now c.in_ok-text.text c.in_ok-text.ensures.bytes c.in-Err.refusal (rw c.bytes.ensures at c.in-Err.ensures.fault))

pub returns-clause-own : goal.returns-clause-own
returns-clause-own g c = rw c.power_stop.ensures (power_own (List PowerRow) c.in-Err.refusal)
