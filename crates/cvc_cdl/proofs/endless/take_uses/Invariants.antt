use Rattle.std.proofs.Common.{◌≡◌, ℕ, ◌+◌, ◌++◌, List, take}
use Rattle.std.specs.Prelude.{slice_index}
use Rattle.cvc_cdl.specs.Peeling.{AreListed, times}
use Rattle.cvc_cdl.proofs.endless.take_uses.Given as goal

abbrev pub invariant-loop-user : goal.invariant-loop-user
invariant-loop-user l = record {
  taken : (i : ℕ) → slice_index l.left i + times i (take l.user-index l.users) ≡ slice_index l.initial.left i;
  listed : AreListed l.left l.finite.items;
  more : (more : List ℕ) × (l.finite.items ≡ l.initial.finite.items ++ more);
}
