use Rattle.std.proofs.Common.{◌∙◌, ap, sym}
use Rattle.std.specs.Option.{option_map}
use Rattle.cvc_card.specs.Reading.{bytes_of}
use Rattle.cvc_card.proofs.Finding.{word_kept, word_taken}
use Rattle.cvc_card.proofs.device.last_word.Goals as goal
use Rattle.cvc_card.proofs.device.last_word.Goals.{then-not-is_number, else-not-is_number}

pub loop-token-preserved : goal.loop-token-preserved
loop-token-preserved c =
    elim c.if-not-is_number.branch [
      | then-not-is_number w ↦ ap (option_map bytes_of) w.last-is ∙ word_taken c.args.tokens.now c.loop-token.token-index _ c.loop-token-test.true (sym c.is_number.ensures ∙ w.if-not-is_number.true)
      | else-not-is_number w ↦ ap (option_map bytes_of) w.last-is ∙ c.loop-token.invariant ∙ word_kept c.args.tokens.now c.loop-token.token-index _ c.loop-token-test.true (sym c.is_number.ensures ∙ w.if-not-is_number.false)
    ]
