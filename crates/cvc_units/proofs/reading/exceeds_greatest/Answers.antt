use Rattle.cvc_units.proofs.Exceeding.{whole_exceeds, part_exceeds}
use Rattle.cvc_units.proofs.reading.exceeds_greatest.Goals as goal

pub returns-then-magnitude : goal.returns-then-magnitude
returns-then-magnitude c = λ v h. whole_exceeds c.args.magnitude v _ c.if-magnitude.true h

pub returns-else-magnitude : goal.returns-else-magnitude
returns-else-magnitude c = λ v h. part_exceeds c.args.magnitude v _ c.if-magnitude.false h
