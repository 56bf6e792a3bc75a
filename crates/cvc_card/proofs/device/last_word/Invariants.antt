use Rattle.std.proofs.Common.{◌≡◌, take}
use Rattle.std.specs.List.{filter}
use Rattle.std.specs.Option.{option_map}
use Rattle.cvc_card.specs.Parts.{last_of}
use Rattle.cvc_card.specs.Card.{is_word}
use Rattle.cvc_card.specs.Reading.{bytes_of, texts_held}
use Rattle.cvc_card.proofs.device.last_word.Given as goal

abbrev pub invariant-loop-token : goal.invariant-loop-token
invariant-loop-token l = option_map bytes_of l.last ≡ last_of (filter is_word (texts_held (take l.token-index l.tokens)))
