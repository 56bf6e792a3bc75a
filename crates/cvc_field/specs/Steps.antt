-- Steps of one actor, one after the other. Each is of a kind that the machine has, and is made only where its guard holds, by what the actor is at and by the word that the step found.
-- So from the steps one has the entries that they leave in the trail, and what the actor is at in the end.
use Rattle.std.specs.Prelude.{ℕ, List, [], ◌∷◌, ◌++◌, if◌then◌else◌}
use Rattle.cvc_base.specs.declared.ids.DevId.{DevId}
use Rattle.cvc_law.specs.Network.{Network}
use Rattle.cvc_core.specs.declared.actor.Actor.{Actor}
use Rattle.cvc_core.specs.declared.actor.Intent.{Intent}
use Rattle.cvc_core.specs.declared.actor.Intent.TheVariants.{Claim, AskCount, LookAt, Peek}
use Rattle.cvc_core.specs.Steps.{IsAllowed, new_actor, is_queued}
use Rattle.cvc_field.specs.declared.view.View.{View}
use Rattle.cvc_field.specs.declared.view.Entry.{Entry}
use Rattle.cvc_field.specs.declared.view.Entry.TheVariants.{Queued}
use Rattle.cvc_field.specs.Trail.{entry_of}
use Rattle.cvc_field.specs.Views.{value_found}

-- what is meant, and the word that was found
pub record Step : Type 0 where
  pub intent : Intent
  pub word : ℕ

abbrev pub next_actor : Network → Actor → Step → Actor
next_actor c a s = new_actor c s.intent a (value_found c s.intent a s.word)

-- each guard holds when its turn comes
abbrev pub AreAllowed : Network → Actor → List Step → Type 0
AreAllowed c a [] = Unit {0}
AreAllowed c a (s ∷ ss) = IsAllowed c s.intent a (value_found c s.intent a s.word) × AreAllowed c (next_actor c a s) ss

abbrev pub actor_after : Network → Actor → List Step → Actor
actor_after c a [] = a
actor_after c a (s ∷ ss) = actor_after c (next_actor c a s) ss

abbrev pub entries : Network → Actor → List Step → List Entry
entries c a [] = []
entries c a (s ∷ ss) = entry_of c s.intent a s.word ∷ entries c (next_actor c a s) ss

-- ---- the steps of a run
-- a step that belongs to the run of a device, after the device was taken
abbrev pub IsOfRun : Intent → Type 0
IsOfRun (Claim d) = ⊥
IsOfRun AskCount = ⊥
IsOfRun (LookAt d) = ⊥
IsOfRun (Peek b) = ⊥
IsOfRun _ = Unit {0}

abbrev pub AreOfRun : List Step → Type 0
AreOfRun [] = Unit {0}
AreOfRun (s ∷ ss) = IsOfRun s.intent × AreOfRun ss

-- the devices that steps turned from not Queued to Queued, in order
abbrev pub newly : Entry → List DevId
newly (Queued d r) = if is_queued r then [] else record { 0 = d } ∷ []
newly _ = []

abbrev pub newly_queued : List Entry → List DevId
newly_queued [] = []
newly_queued (e ∷ es) = newly e ++ newly_queued es

-- the view after steps
abbrev pub went : View → List Step → View
went v ss = record {
  circuit = v.circuit;
  spent = v.spent;
  first = v.first;
  numbers = v.numbers;
  actor = actor_after v.circuit v.actor ss;
  trail = v.trail ++ entries v.circuit v.actor ss;
}
