use Rattle.std.proofs.Common.{refl, ap, []}
use Rattle.cvc_card.specs.Parts.{parts_of}
use Rattle.cvc_card.specs.Reading.{pairs_held, texts_held}
use Rattle.cvc_card.proofs.Plainness.{same_parts}
use Rattle.cvc_card.proofs.parts.Parts.new.Goals as goal

pub returns : goal.returns
unfolding parts_of
returns c = λ form. same_parts _ (parts_of form []) (ap texts_held c.new.ensures.items) refl (ap pairs_held c.new-2.ensures.items) refl refl (ap pairs_held c.new-3.ensures.items)
