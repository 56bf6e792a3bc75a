use Rattle.std.proofs.Common.{◌≡◌, Option, Some, sym, ◌∙◌}
use Rattle.cvc_units.specs.Split.{Split}
use Rattle.cvc_units.proofs.Splitting.{finds}
use Rattle.cvc_units.proofs.Found.{finds_only}
use Rattle.cvc_units.proofs.laws.splits_in_one_way.Goals as goal

same_some : (p q : Split) → ◌≡◌ {A = Option Split} (Some p) (Some q) → p ≡ q
same_some p q e = cc

pub returns-clause-one_way : goal.returns-clause-one_way
returns-clause-one_way c = λ text p q hp hq. same_some p q (sym (finds text p hp) ∙ finds text q hq)

pub returns-clause-found : goal.returns-clause-found
returns-clause-found c = λ text p. (finds_only text p, finds text p)
