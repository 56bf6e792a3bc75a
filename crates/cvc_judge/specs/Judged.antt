-- A judged circuit: with its least family and all findings there.
use Rattle.std.specs.Prelude.{◌≡◌}
use Rattle.cvc_law.specs.Least.{IsLeast}
use Rattle.cvc_law.specs.Rules.{findings_of}
use Rattle.cvc_judge.specs.declared.judged.Judged.{Judged}

pub record IsJudged (j : Judged) : Type 0 where
  pub least : IsLeast j.circuit j.family
  pub found : j.findings ≡ findings_of j.circuit j.family
