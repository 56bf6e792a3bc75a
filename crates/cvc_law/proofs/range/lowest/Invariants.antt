use Rattle.std.proofs.Common.{◌≡◌, take}
use Rattle.std.specs.Prelude.{pos, neg_ℤ, ◌≤ℤ◌, IfSome}
use Rattle.cvc_law.specs.Network.{least_low}
use Rattle.cvc_law.proofs.range.lowest.Given as goal

abbrev pub invariant-loop-declared : goal.invariant-loop-declared
invariant-loop-declared l = record {
  so_far : l.floor ≡ least_low (take l.declared-index l.fixed);
  in_million : IfSome l.floor (λ v. neg_ℤ (pos 1000000) ≤ℤ v);
}
