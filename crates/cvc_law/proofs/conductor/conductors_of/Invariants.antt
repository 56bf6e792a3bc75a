use Rattle.std.proofs.Common.{◌≡◌, map, take}
use Rattle.cvc_law.specs.Conductor.{conductor_of}
use Rattle.cvc_law.proofs.conductor.conductors_of.Given as goal

abbrev pub invariant-loop-device : goal.invariant-loop-device
invariant-loop-device l = l.conductors.items ≡ map conductor_of (take l.device-index l.devices)
