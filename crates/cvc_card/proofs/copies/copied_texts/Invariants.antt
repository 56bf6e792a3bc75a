use Rattle.std.proofs.Common.{◌≡◌, take}
use Rattle.cvc_card.specs.Reading.{texts_held}
use Rattle.cvc_card.proofs.copies.copied_texts.Given as goal

abbrev pub invariant-loop-text : goal.invariant-loop-text
invariant-loop-text l = l.copies ≡ texts_held (take l.text-index l.texts)
