use Rattle.std.proofs.Common.{◌<◌, ℕ, get_or}
use Rattle.cvc_law.specs.Network.{no_net}
use Rattle.cvc_tests_settle.proofs.rules.build.are_on_nets.Given as goal

abbrev pub invariant-loop-n : goal.invariant-loop-n
invariant-loop-n l = (k : ℕ) → k < l.n-index → (get_or l.pins k no_net).0 < l.net_count
