use Rattle.std.proofs.Common.{◌≡◌, drop}
use Rattle.std.specs.List.{find}
use Rattle.std.specs.Option.{option_map}
use Rattle.cvc_card.specs.Words.{is_number}
use Rattle.cvc_card.specs.Card.{is_word}
use Rattle.cvc_card.specs.Parts.{or_else}
use Rattle.cvc_card.specs.Reading.{bytes_of, texts_held}
use Rattle.cvc_card.proofs.device.firsts_of.Given as goal

abbrev pub invariant-loop-token : goal.invariant-loop-token
invariant-loop-token l =
    (or_else (option_map bytes_of l.number) (find is_number (texts_held (drop l.token-index l.tokens))) ≡ find is_number (texts_held l.tokens))
    × (or_else (option_map bytes_of l.word) (find is_word (texts_held (drop l.token-index l.tokens))) ≡ find is_word (texts_held l.tokens))
