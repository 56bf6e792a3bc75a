use Rattle.std.proofs.Common.{◌≡◌, All}
use Rattle.cvc_modes.specs.Checked.{IsBoundFrom}
use Rattle.cvc_modes.proofs.Binding.{IsSoFar}
use Rattle.cvc_modes.proofs.check.bind_modes.Given as goal

abbrev pub invariant-loop-power : goal.invariant-loop-power
invariant-loop-power l = record {
  count : l.mode ≡ l.power-index;
  so_far : IsSoFar l.flat.list l.models l.powers l.tasks.items l.power-index;
  bound : All (λ t. IsBoundFrom l.flat.list t.circuit) l.tasks.items;
}
