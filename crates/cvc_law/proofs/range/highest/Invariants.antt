use Rattle.std.proofs.Common.{◌≡◌, take}
use Rattle.std.specs.Prelude.{pos, ◌≤ℤ◌, IfSome}
use Rattle.cvc_law.specs.Network.{greatest_high}
use Rattle.cvc_law.proofs.range.highest.Given as goal

abbrev pub invariant-loop-declared : goal.invariant-loop-declared
invariant-loop-declared l = record {
  so_far : l.ceiling ≡ greatest_high (take l.declared-index l.fixed);
  in_million : IfSome l.ceiling (λ v. v ≤ℤ pos 1000000);
}
