use Rattle.std.proofs.Common.{◌≡◌, take}
use Rattle.std.specs.List.{filter_map}
use Rattle.cvc_cdl.specs.Placed.{place_placed}
use Rattle.cvc_cdl.proofs.ending.places_of.Given as goal

abbrev pub invariant-loop-inst : goal.invariant-loop-inst
invariant-loop-inst l = l.places.items ≡ filter_map place_placed (take l.inst-index l.placed)
