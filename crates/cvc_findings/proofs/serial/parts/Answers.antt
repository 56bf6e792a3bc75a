use Rattle.std.proofs.Common.{ℕ, List}
use Rattle.std.specs.Prelude.{IfOk, Result}
use Rattle.cvc_base.specs.declared.ids.NoMemory.{NoMemory}
use Rattle.cvc_base.specs.declared.finding.Finding.{Finding}
use Rattle.cvc_law.specs.Network.{devices}
use Rattle.cvc_findings.specs.Parts.{IsPart}
use Rattle.cvc_findings.proofs.Places.{number_more}
use Rattle.cvc_findings.proofs.serial.parts.Goals as goal

pub loop-k-preserved : goal.loop-k-preserved
loop-k-preserved g c =
    let Q : ℕ → Result (List (List Finding)) NoMemory → Type 0 = λ k part. IfOk part (IsPart (g.S.RuleSet.finds c.args.circuit.now c.args.family.now) g.S.RuleSet.rules (devices c.args.circuit.now) k) in
    rw c.in_ok-push.ensures.items (number_more Q c.loop-k.k c.loop-k.parts.items c.part.result c.loop-k.invariant c.part.ensures)
