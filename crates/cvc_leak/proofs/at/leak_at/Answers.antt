use Rattle.std.proofs.Common.{◌≡◌, to_z, of_z, w64, ◌∙◌, arith}
use Rattle.std.proofs.lemmas.Int.{ints}
use Rattle.cvc_leak.proofs.AtDevice.{told}
use Rattle.cvc_leak.proofs.at.leak_at.Goals as goal

pub returns-in_err-figures : goal.returns-in_err-figures
returns-in_err-figures c =
    c.from_residual.ensures ∙ rw c.in_err-figures.was at (told c.args.circuit.now c.args.family.now c.args.d.0 c.device.result.now c.args.rule c.figures_at.result c.device.ensures.device c.figures_at.ensures)

pub returns : goal.returns
returns c =
    let figures = c.in_ok-figures.figures in
    let first : to_z w64 (of_z w64 figures.first) ≡ figures.first = omega (arith, ints) in
    let second : to_z w64 (of_z w64 figures.second) ≡ figures.second = omega (arith, ints) in
    let third : to_z w64 (of_z w64 figures.third) ≡ figures.third = omega (arith, ints) in
    let fourth : to_z w64 (of_z w64 figures.fourth) ≡ figures.fourth = omega (arith, ints) in
    rw (first, second, third, fourth) (rw c.in_ok-figures.was at (told c.args.circuit.now c.args.family.now c.args.d.0 c.device.result.now c.args.rule c.figures_at.result c.device.ensures.device c.figures_at.ensures))
