use Rattle.cvc_serial.proofs.Settles.{settling_started}
use Rattle.cvc_serial.proofs.settle.settled.Goals as goal

pub settle-requires : goal.settle-requires
settle-requires c = settling_started c.args.circuit.now _ c.args.family.now c.starting.ensures.circuit c.requires.covered c.in_ok-starting.ensures.started c.new.ensures c.requires.log
