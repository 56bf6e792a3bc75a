use Rattle.cvc_top.proofs.ModesSaid.{list_read, list_stopped}
use Rattle.cvc_top.proofs.modes.read_list.Goals as goal

pub returns-in-Ok-clause-rows : goal.returns-in-Ok-clause-rows
returns-in-Ok-clause-rows g c =
    list_read (g.S.Shelf.files c.args.shelf.now) c.args.name.now c.in_ok-text.text c.in_ok-text.ensures.bytes c.in-Ok.list (rw c.bytes.ensures at c.in-Ok.ensures.rows)

pub returns-clause-rows : goal.returns-clause-rows
returns-clause-rows g c =
    rw c.list_stop.ensures
    (list_stopped (g.S.Shelf.files c.args.shelf.now) c.args.name.now c.in_ok-text.text c.in_ok-text.ensures.bytes c.in-Err.refusal (rw c.bytes.ensures at c.in-Err.ensures.rows))
