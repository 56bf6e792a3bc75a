use Rattle.std.proofs.Common.{◌≡◌, take}
use Rattle.cvc_card.specs.Card.{globals_of}
use Rattle.cvc_card.specs.Reading.{texts_held}
use Rattle.cvc_card.proofs.dots.global_names.Given as goal

abbrev pub invariant-loop-token : goal.invariant-loop-token
invariant-loop-token l = l.names ≡ globals_of (texts_held (take l.token-index l.plain))
