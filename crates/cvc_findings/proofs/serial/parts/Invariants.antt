use Rattle.std.specs.Prelude.{IfOk}
use Rattle.std.specs.List.{AllZip, range_with_len}
use Rattle.cvc_law.specs.Network.{devices}
use Rattle.cvc_findings.specs.Parts.{IsPart}
use Rattle.cvc_findings.proofs.serial.parts.Given as goal

abbrev pub invariant-loop-k : goal.invariant-loop-k
invariant-loop-k g l = AllZip (λ k part. IfOk part (IsPart (g.S.RuleSet.finds l.circuit l.family) g.S.RuleSet.rules (devices l.circuit) k)) (range_with_len 0 l.k) l.parts.items
