use Rattle.std.proofs.Common.{◌≡◌, ℕ, ◌+◌, ◌-◌, ◌/◌, ◌≤◌, ◌∙◌, List, length, ap, subst, arith}
use Rattle.std.specs.Prelude.{IfOk, Result}
use Rattle.std.specs.List.{AllZip, range_with_len}
use Rattle.rayon.specs.Numbers.{nat_range}
use Rattle.rayon.proofs.ListFacts.{IfOk-then}
use Rattle.rayon.proofs.ToStd.{nat_range-All}
use Rattle.cvc_base.specs.declared.ids.NoMemory.{NoMemory}
use Rattle.cvc_base.specs.declared.finding.Finding.{Finding}
use Rattle.cvc_law.specs.Network.{nets, devices}
use Rattle.cvc_findings.specs.Parts.{IsPart}
use Rattle.cvc_findings.proofs.parallel.par_parts.Goals as goal

-- the closure's `requires` at each range
pub collect-requires-clause-ready : goal.collect-requires-clause-ready
collect-requires-clause-ready g c κs within =
    let ends = c.into_par_iter.ensures in
    let inside = nat_range-All (λ k. (length c.args.family.now ≡ nets c.args.circuit.now) × (k ≤ devices c.args.circuit.now)) 0 (devices c.args.circuit.now / 4096 + 1) (λ k low high. (c.requires, omega (arith, high))) in
    rw (c.map.ensures.base, c.map.ensures.f, c.with_min_len.ensures.base, ends.0, ends.1, c.devices.ensures.count) (λ k d lt. (inside k d lt, λ y p. tt))

pub returns : goal.returns
returns g c =
    let ends = c.into_par_iter.ensures in
    let whole : c.devices.result / 4096 + 1 - 0 ≡ devices c.args.circuit.now / 4096 + 1 = rw c.devices.ensures.count (omega arith) in
    let Q : ℕ → Result (List (List Finding)) NoMemory → Type 0 = λ k part. IfOk part (IsPart (g.S.RuleSet.finds c.args.circuit.now c.args.family.now) g.S.RuleSet.rules (devices c.args.circuit.now) k) in
    IfOk-then c.collect.result _ _ c.collect.ensures (λ v h.
    let chain = rw (c.map.ensures.base, c.map.ensures.f, c.with_min_len.ensures.base) at h.1 in
    let places = chain.1 ∙ (λ i. nat_range (ends.0 i) (ends.1 i)) ∙ ap (range_with_len 0) whole in
    rw h.2 (subst (λ (l : List ℕ). AllZip Q l h.0) places chain.2))
