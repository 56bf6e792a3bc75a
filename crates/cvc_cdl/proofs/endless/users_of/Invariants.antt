use Rattle.std.proofs.Common.{◌≡◌, ℕ, ◌<◌, length, take, []}
use Rattle.cvc_cdl.specs.Chains.{all_numbers, used_at}
use Rattle.cvc_cdl.specs.Peeling.{times}
use Rattle.cvc_cdl.proofs.endless.users_of.Given as goal

abbrev pub invariant-loop : goal.invariant-loop
invariant-loop l = record {
  sized : length l.users.items ≡ l.index;
  empty : (j : ℕ) → used_at (all_numbers l.users.items) j ≡ [];
}

abbrev pub invariant-loop-user : goal.invariant-loop-user
invariant-loop-user l = record {
  sized : length l.users.items ≡ length l.uses;
  each : (i j : ℕ) → j < length l.uses → times i (used_at (all_numbers l.users.items) j) ≡ times j (used_at (take l.user (all_numbers l.uses)) i);
}
