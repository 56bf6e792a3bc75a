use Rattle.std.proofs.Common.{◌≡◌, take}
use Rattle.cvc_flat.proofs.flat.Flat.pins.Given as goal

abbrev pub invariant-loop-pin : goal.invariant-loop-pin
invariant-loop-pin l = l.pins.items ≡ take l.pin-index l.pin-items
