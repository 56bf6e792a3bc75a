-- The machine at the start: declared nets have their declared bounds and all others are unknown, every device is Queued and none is run, and the count is the number of devices.
-- Actor 0 is idle without credits, and the others are absent.
use Rattle.std.specs.Prelude.{ℕ, ◌-◌, ◌∷◌, replicate}
use Rattle.cvc_law.specs.Network.{Network, devices}
use Rattle.cvc_law.specs.ReachLeast.{opening}
use Rattle.cvc_core.specs.declared.actor.Actor.TheVariants.{Absent, Idle}
use Rattle.cvc_core.specs.State.{Machine}
use Rattle.cvc_core.specs.Steps.{plain_queued}

-- of that many actors
unfoldable pub start : Network → ℕ → Machine
start c n = record { bounds = opening c; marks = replicate (devices c) plain_queued; count = devices c; actors = Idle 0 ∷ replicate (n - 1) Absent }
