use Rattle.cvc_bind.proofs.BoundCircuits.{bound}
use Rattle.cvc_bind.proofs.binding.bind.Goals as goal

pub returns-clause-bound : goal.returns-clause-bound
returns-clause-bound c =
    bound c.args.flat.now.list c.args.models.now c.in_ok-fixed.fixed.items c.in_ok-devices.devices.items c.in_ok-new.field-0 c.in_ok-devices.ensures.devices c.in_ok-fixed.ensures.sized c.in_ok-new.ensures
