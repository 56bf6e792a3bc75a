use Rattle.std.proofs.Common.{◌≡◌, ℕ, ◌<◌, ◌+◌, ◌*◌, ◌==◌, length, take}
use Rattle.cvc_cdl.specs.Chains.{all_numbers, used_at}
use Rattle.cvc_cdl.specs.Peeling.{one_if, times}
use Rattle.cvc_cdl.proofs.endless.add_user.Given as goal

abbrev pub invariant-loop-cell : goal.invariant-loop-cell
invariant-loop-cell l = (i j : ℕ) → j < length l.initial.users → times i (used_at (all_numbers l.users) j) ≡ times i (used_at (all_numbers l.initial.users) j) + one_if (l.user == i) * times j (take l.cell-index l.used)
