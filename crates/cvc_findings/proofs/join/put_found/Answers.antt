use Rattle.std.proofs.Common.{◌≡◌, ℕ, ◌+◌, ◌/◌, List, [], ◌++◌, subst, arith}
use Rattle.std.specs.Prelude.{IfOk, Result}
use Rattle.cvc_base.specs.declared.ids.NoMemory.{NoMemory}
use Rattle.cvc_base.specs.declared.rule.Rule.{Rule}
use Rattle.cvc_base.specs.declared.finding.Finding.{Finding}
use Rattle.cvc_findings.specs.Listed.{found_below, IsFound}
use Rattle.cvc_findings.specs.Parts.{boundary, IsPart}
use Rattle.cvc_findings.proofs.Places.{at_number, count_of, last_boundary, zip_at}
use Rattle.cvc_findings.proofs.Ranges.{next_range}
use Rattle.cvc_findings.proofs.join.put_found.Goals as goal

pub loop-part-preserved : goal.loop-part-preserved
loop-part-preserved c = λ finds rules count rule all at.
    let k = c.loop-part.part-index in
    let start = boundary count k in
    let end = boundary count (k + 1) in
    let part : IfOk c.part-item.result (IsPart finds rules count k) = at_number (λ (i : ℕ) (p : Result (List (List Finding)) NoMemory). IfOk p (IsPart finds rules count i)) (count / 4096 + 1) k c.args.parts.now c.part-item.result all c.loop-part-test.true c.part-item.is in
    let found = zip_at (λ (r : Rule) (l : List Finding). IsFound (finds r) start end l) rules c.in-Ok.lists c.args.place rule [] (rw c.in-Ok.is at part) at in
    next_range (finds rule) start end c.args.all.now _ _ _ (c.loop-part.invariant finds rules count rule all at) found (rw c.found_at.ensures at c.in_ok-put_all-in-Ok.ensures)

pub returns : goal.returns
returns c = λ finds rules count rule all at.
    let k = c.loop-part.part-index in
    let parts = count_of (λ (i : ℕ) (p : Result (List (List Finding)) NoMemory). IfOk p (IsPart finds rules count i)) 0 (count / 4096 + 1) c.args.parts.now all in
    let whole : k ≡ count / 4096 + 1 = omega (arith, parts, c.loop-part-test.false, c.loop-part.auto.part-index-end) in
    subst (λ (e : ℕ). c.loop-part.all ≡ c.args.all.now ++ found_below (finds rule) e) (last_boundary count k whole) (c.loop-part.invariant finds rules count rule all at)
