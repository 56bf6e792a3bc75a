use Rattle.std.proofs.Common.{◌≡◌, ℤ, ◌-ℤ◌, to_z, of_z, w64, Some, ap, ◌∙◌, arith}
use Rattle.std.proofs.lemmas.Int.{ints}
use Rattle.cvc_law.proofs.conduct.nmos_high.Goals as goal

pub returns : goal.returns
returns c =
    let near : to_z w64 (of_z w64 c.get-high.result) ≡ c.get-high.result = omega (arith, ints) in
    let gate : to_z w64 (of_z w64 c.get-gate_high.result) ≡ c.get-gate_high.result = omega (arith, ints) in
    let threshold : to_z w64 (of_z w64 c.get.result) ≡ c.get.result = omega (arith, ints) in
    let bound : to_z w64 (of_z w64 (c.get-gate_high.result -ℤ c.get.result)) ≡ c.get-gate_high.result -ℤ c.get.result = omega (arith, ints) in
    let whole : to_z w64 (of_z w64 c.min.result) ≡ c.min.result = omega (arith, ints) in
    rw (c.in_ok-near.was, c.in_ok-gate.was, ← c.get-high.ensures.same, ← c.get-gate_high.ensures.same, ← c.get.ensures.same) (rw (near, gate, threshold, bound) at (ap (λ (v : ℤ). Some v) (whole ∙ c.min.ensures.value)))
