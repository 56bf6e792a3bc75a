use Rattle.std.proofs.Common.{map, take}
use Rattle.cvc_names.proofs.Repeats.{AreOnce}
use Rattle.cvc_card.specs.Reading.{name_of}
use Rattle.cvc_card.proofs.instance.has_twice.Given as goal

abbrev pub invariant-loop-pair : goal.invariant-loop-pair
invariant-loop-pair l = AreOnce (map name_of (take l.pair-index l.pairs)) l.seen
