use Rattle.std.proofs.Common.{◌≡◌, true, take}
use Rattle.std.specs.List.{list_all}
use Rattle.cvc_cdl.specs.Building.{is_among}
use Rattle.cvc_cdl.proofs.library.connects.Given as goal

abbrev pub invariant-loop-pair : goal.invariant-loop-pair
invariant-loop-pair l = list_all (λ p. is_among l.ports p.name) (take l.pair-index l.pairs) ≡ true
