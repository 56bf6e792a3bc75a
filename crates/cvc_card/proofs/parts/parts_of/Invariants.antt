use Rattle.std.proofs.Common.{length}
use Rattle.cvc_card.specs.Reading.{parts_held, texts_of}
use Rattle.cvc_card.proofs.Gathering.{IsGathering}
use Rattle.cvc_card.proofs.parts.parts_of.Given as goal

abbrev pub invariant-loop-rest : goal.invariant-loop-rest
invariant-loop-rest l = IsGathering l.form (texts_of l.tokens) (texts_of l.rest) (parts_held l.parts)

abbrev pub decreases-loop-rest : goal.decreases-loop-rest
decreases-loop-rest l = length l.rest
