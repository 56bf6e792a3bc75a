use Rattle.cvc_run.proofs.Contents.{models_loaded}
use Rattle.cvc_run.proofs.stages.load_models.Goals as goal

pub returns-clause-rows : goal.returns-clause-rows
returns-clause-rows g c =
    rw c.as_load.ensures
    (models_loaded (g.S.Shelf.files c.args.shelf.now) c.args.name.now c.in_ok-text.text c.in_ok-text.ensures.bytes c.read_models.result (rw c.bytes.ensures at c.read_models.ensures.rows) (rw c.bytes.ensures at c.read_models.ensures.fault))
