-- What the laws of the machine say of one kind of event.
use Rattle.cvc_law.specs.Network.{Network}
use Rattle.cvc_core.specs.declared.event.Event.{Event}
use Rattle.cvc_core.specs.State.{Machine}
use Rattle.cvc_core.specs.Events.{IsEnabled, after}
use Rattle.cvc_core.specs.Sound.{Sound}

-- where its guard holds of a sound state, its effect is sound
abbrev pub KeepsSound : Event → Type 0
KeepsSound e = (c : Network) (s : Machine) → Sound c s → IsEnabled c s e → Sound c (after c s e)
