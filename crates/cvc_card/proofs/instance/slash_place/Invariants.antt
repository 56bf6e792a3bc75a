use Rattle.std.proofs.Common.{◌≡◌, ◌+◌, drop}
use Rattle.std.specs.List.{position_or_len}
use Rattle.cvc_card.specs.Words.{is_slash}
use Rattle.cvc_card.specs.Reading.{texts_held}
use Rattle.cvc_card.proofs.instance.slash_place.Given as goal

abbrev pub invariant-loop-i : goal.invariant-loop-i
invariant-loop-i l = l.i + position_or_len is_slash (texts_held (drop l.i l.plain)) ≡ position_or_len is_slash (texts_held l.plain)
