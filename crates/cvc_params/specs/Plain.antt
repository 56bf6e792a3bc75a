-- Pairs whose values are all numbers. No name is looked up for them, so a device with such pairs has the same parameters in every instance.
use Rattle.std.specs.Prelude.{Bool, List}
use Rattle.std.specs.List.{list_all}
use Rattle.cvc_base.specs.declared.param.Pair.{Pair}
use Rattle.cvc_card.specs.Words.{is_number}

abbrev pub has_number : Pair → Bool
has_number p = is_number p.value

abbrev pub are_plain : List Pair → Bool
are_plain pairs = list_all has_number pairs
