use Rattle.std.proofs.Common.{◌≡◌, map, take}
use Rattle.cvc_plan.specs.Pins.{name_of_pair}
use Rattle.cvc_plan.proofs.pins.pair_names.Given as goal

abbrev pub invariant-loop-pair : goal.invariant-loop-pair
invariant-loop-pair l = l.names ≡ take l.pair-index (map name_of_pair l.pairs)
