use Rattle.std.proofs.Common.{◌≡◌, to_z, of_z, w64, ◌∙◌, arith}
use Rattle.std.proofs.lemmas.Int.{ints}
use Rattle.cvc_bias.proofs.AtDevice.{measured}
use Rattle.cvc_bias.proofs.at.bias_at.Goals as goal

pub returns-in_err-excess : goal.returns-in_err-excess
returns-in_err-excess c =
    c.from_residual.ensures ∙ rw c.in_err-excess.was at (measured c.args.circuit.now c.args.family.now c.args.d.0 c.device.result.now c.args.rule c.excess_at.result c.device.ensures.device c.excess_at.ensures)

pub returns : goal.returns
returns c =
    let excess = c.in_ok-excess.excess in
    let limit : to_z w64 (of_z w64 excess.limit) ≡ excess.limit = omega (arith, ints) in
    let found : to_z w64 (of_z w64 excess.found) ≡ excess.found = omega (arith, ints) in
    rw (limit, found) (rw c.in_ok-excess.was at (measured c.args.circuit.now c.args.family.now c.args.d.0 c.device.result.now c.args.rule c.excess_at.result c.device.ensures.device c.excess_at.ensures))
