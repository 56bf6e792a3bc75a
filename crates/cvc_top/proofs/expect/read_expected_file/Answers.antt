use Rattle.cvc_top.proofs.Expecting.{expected_read, expected_refused}
use Rattle.cvc_top.proofs.expect.read_expected_file.Goals as goal

pub returns-in-Ok-clause-rows : goal.returns-in-Ok-clause-rows
returns-in-Ok-clause-rows g c =
    expected_read (g.S.Shelf.files c.args.shelf.now) c.args.name.now c.in_ok-text.text c.in_ok-text.ensures.bytes c.in-Ok.rows (rw c.bytes.ensures at c.in-Ok.ensures.rows)

pub returns-clause-rows : goal.returns-clause-rows
returns-clause-rows g c =
    rw c.stop_about.ensures
    (expected_refused (g.S.Shelf.files c.args.shelf.now) c.args.name.now c.in_ok-text.text c.in_ok-text.ensures.bytes c.in-Err.refused (rw c.bytes.ensures at c.in-Err.ensures.rows))
