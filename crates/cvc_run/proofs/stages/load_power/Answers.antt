use Rattle.std.proofs.Common.{All}
use Rattle.cvc_power.specs.Power.{IsOrdered}
use Rattle.cvc_run.proofs.Loading.{ok_load}
use Rattle.cvc_run.proofs.Contents.{power_loaded}
use Rattle.cvc_run.proofs.stages.load_power.Goals as goal

pub returns-clause-rows : goal.returns-clause-rows
returns-clause-rows g c =
    rw c.as_load.ensures
    (power_loaded (g.S.Shelf.files c.args.shelf.now) c.args.name.now c.in_ok-text.text c.in_ok-text.ensures.bytes c.read_power.result (rw c.bytes.ensures at c.read_power.ensures.rows) (rw c.bytes.ensures at c.read_power.ensures.fault))

pub returns-clause-ordered : goal.returns-clause-ordered
returns-clause-ordered g c = rw c.as_load.ensures (ok_load c.read_power.result (All IsOrdered) c.read_power.ensures.ordered)
