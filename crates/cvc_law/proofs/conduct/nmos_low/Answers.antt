use Rattle.std.proofs.Common.{◌≡◌, ◌+ℤ◌, to_z, of_z, w64, ◌∙◌, arith}
use Rattle.cvc_law.proofs.GivingParts.{then_some_is}
use Rattle.std.proofs.lemmas.Int.{ints}
use Rattle.cvc_law.proofs.conduct.nmos_low.Goals as goal

pub returns : goal.returns
returns c =
    let near : to_z w64 (of_z w64 c.get-low.result) ≡ c.get-low.result = omega (arith, ints) in
    let gate : to_z w64 (of_z w64 c.get-gate_high.result) ≡ c.get-gate_high.result = omega (arith, ints) in
    let threshold : to_z w64 (of_z w64 c.get.result) ≡ c.get.result = omega (arith, ints) in
    let bound : to_z w64 (of_z w64 (c.get-low.result +ℤ c.get.result)) ≡ c.get-low.result +ℤ c.get.result = omega (arith, ints) in
    rw (c.in_ok-near.was, c.in_ok-gate.was, ← c.get-low.ensures.same, ← c.get-gate_high.ensures.same, ← c.get.ensures.same) ((rw (near, gate, threshold, bound) at c.then_some.ensures) ∙ then_some_is _ _)
