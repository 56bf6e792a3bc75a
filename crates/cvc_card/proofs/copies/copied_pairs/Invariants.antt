use Rattle.std.proofs.Common.{◌≡◌, ◌++◌, take}
use Rattle.std.specs.Option.{option_map, option_to_list}
use Rattle.cvc_card.specs.Reading.{pair_of, pairs_held}
use Rattle.cvc_card.proofs.copies.copied_pairs.Given as goal

abbrev pub invariant-loop-pair : goal.invariant-loop-pair
invariant-loop-pair l = l.copies ≡ option_to_list (option_map pair_of l.fn.first) ++ pairs_held (take l.pair-index l.pairs)
