-- What a step or an event that is tried does: it is done exactly where it may be, with its effect, and otherwise nothing changes.
use Rattle.std.specs.Prelude.{◌≡◌, ℕ, Option, Some, None, Bool, false, IsTrue, ◌↔◌}
use Rattle.cvc_law.specs.Network.{Network}
use Rattle.cvc_core.specs.declared.actor.Run.{Run}
use Rattle.cvc_core.specs.declared.actor.Actor.{Actor}
use Rattle.cvc_core.specs.declared.actor.Actor.TheVariants.{Running}
use Rattle.cvc_core.specs.declared.actor.Intent.{Intent}
use Rattle.cvc_core.specs.declared.event.Event.{Event}
use Rattle.cvc_core.specs.State.{Machine}
use Rattle.cvc_core.specs.Steps.{MayStep, after_step}
use Rattle.cvc_core.specs.Events.{IsEnabled, after}

-- the run of an actor that runs a device
abbrev pub run_if : Actor → Option Run
run_if (Running r) = Some r
run_if _ = None

-- from s to t
pub record IsStepTried (c : Network) (s t : Machine) (k : ℕ) (i : Intent) (done : Bool) : Type 0 where
  pub when : IsTrue done ↔ MayStep c s k i
  pub effect : IsTrue done → t ≡ after_step c s k i
  pub unchanged : done ≡ false → t ≡ s

pub record IsEventTried (c : Network) (s t : Machine) (e : Event) (done : Bool) : Type 0 where
  pub when : IsTrue done ↔ IsEnabled c s e
  pub effect : IsTrue done → t ≡ after c s e
  pub unchanged : done ≡ false → t ≡ s
