-- Worked stages: the definition computes their lines.
use Rattle.std.proofs.Common.{◌≡◌, [], ◌∷◌, refl, codes}
use Rattle.std.specs.Fmt.{digits}
use Rattle.cvc_gen.specs.Stages.{stage_line, stage_lines, text_of, power_lines}

three-stages : stage_lines 0 3 ≡ codes "X0 n0 n1 / INV" ∷ codes "X1 n1 n2 / INV" ∷ codes "X2 n2 n3 / INV" ∷ []
unfolding digits
three-stages = refl

lost-stage : stage_lines 4 1 ≡ codes "X0 n0 n1 / LOST" ∷ []
unfolding digits
lost-stage = refl

-- the remainder is that of the sum itself: 2 to the power 64 leaves 1, and 2 more leave 3
largest-seed : stage_line 18446744073709551615 3 ≡ codes "X3 n3 n4 / LINK"
unfolding digits
largest-seed = refl

power : text_of power_lines ≡ codes "VDD power 1.2\nVSS power 0\nn0 input 0 1.2\n"
unfolding power_lines
power = refl
