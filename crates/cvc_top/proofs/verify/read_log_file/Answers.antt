use Rattle.cvc_top.proofs.Verifying.{log_read, log_refused}
use Rattle.cvc_top.proofs.verify.read_log_file.Goals as goal

pub returns-in-Ok-clause-log : goal.returns-in-Ok-clause-log
returns-in-Ok-clause-log g c = log_read (g.S.Shelf.files c.args.shelf.now) c.args.name.now c.in_ok-text.text c.in_ok-text.ensures.bytes c.in-Ok.log (rw c.bytes.ensures at c.in-Ok.ensures.log)

pub returns-clause-log : goal.returns-clause-log
returns-clause-log g c =
    rw c.stop_about.ensures
    (log_refused (g.S.Shelf.files c.args.shelf.now) c.args.name.now c.in_ok-text.text c.in_ok-text.ensures.bytes c.in-Err.refused (rw c.bytes.ensures at c.in-Err.ensures.log))
