use Rattle.std.proofs.Common.{◌≡◌, ◌==◌, ◌+◌, drop}
use Rattle.std.specs.List.{position_or_len}
use Rattle.cvc_card.proofs.dots.colon_place.Given as goal

abbrev pub invariant-loop-i : goal.invariant-loop-i
invariant-loop-i l = l.i + position_or_len (λ c. c == 58) (drop l.i l.token) ≡ position_or_len (λ c. c == 58) l.token
