-- What the circuits that tests build must meet, part by part.
use Rattle.std.specs.Prelude.{ℕ, ◌≡◌, ◌<◌, ◌≤ℤ◌, List, length, Option, Some, None, slice_get, slice_index_or}
use Rattle.cvc_base.specs.declared.ids.NetId.{NetId}
use Rattle.cvc_law.specs.declared.interval.Fixed.{Fixed}
use Rattle.cvc_law.specs.declared.device.Device.{Device}
use Rattle.cvc_law.specs.Network.{no_net, IsDevice}

abbrev pub AreOnNets : ℕ → List NetId → Type 0
AreOnNets net_count pins = (k : ℕ) → k < length pins → (slice_index_or pins k no_net).0 < net_count

abbrev pub AreDevices : ℕ → List Device → Type 0
AreDevices net_count devices = (k : ℕ) (d : Device) → slice_get devices k ≡ Some d → IsDevice net_count d

abbrev pub AreOrdered : List (Option Fixed) → Type 0
AreOrdered fixed = (n : ℕ) (w : Fixed) → slice_index_or fixed n None ≡ Some w → w.low ≤ℤ w.high
