use Rattle.std.proofs.Common.{◌<◌, ℕ, get_or}
use Rattle.cvc_law.specs.Network.{IsDevice}
use Rattle.cvc_law.specs.Reach.{no_device}
use Rattle.cvc_tests_settle.proofs.rules.build.are_devices.Given as goal

abbrev pub invariant-loop-device : goal.invariant-loop-device
invariant-loop-device l = (k : ℕ) → k < l.device-index → IsDevice l.net_count (get_or l.devices k no_device)
