-- The history of a field: all that happened on it so far, the newest first. It replays on the machine, from the start on.
-- A step is of one actor, is of a kind that the machine has, and found a word; its guard held then, and the word was the one that it acts on.
-- Hands that are split and put together move trails. So the history says for each actor number which trail its hand has.
use Rattle.std.specs.Prelude.{◌≡◌, ℕ, ◌==◌, List, [], ◌∷◌, ◌++◌, if◌then◌else◌}
use Rattle.cvc_law.specs.Network.{Network}
use Rattle.cvc_core.specs.declared.actor.Intent.{Intent}
use Rattle.cvc_core.specs.declared.event.Event.TheVariants.{Split, Join}
use Rattle.cvc_core.specs.State.{Machine, actor_at, found}
use Rattle.cvc_core.specs.Steps.{place_of, MayStep, after_step}
use Rattle.cvc_core.specs.Events.{IsEnabled, after}
use Rattle.cvc_core.specs.Start.{start}
use Rattle.cvc_field.specs.declared.view.Entry.{Entry}
use Rattle.cvc_field.specs.Words.{word_at}
use Rattle.cvc_field.specs.Trail.{entry_of}

-- an actor's step and the word that it found; the numbers of an actor were cut, and another one begins the second part; an actor took in another one's numbers
pub data Happening : Type 0 where
  Stepped : ℕ → Intent → ℕ → Happening
  WasCut : ℕ → ℕ → Happening
  TookIn : ℕ → ℕ → Happening

-- the word that a step of the actor finds
abbrev pub word_found : Network → Machine → ℕ → Intent → ℕ
word_found c s k i = word_at c (place_of c i (actor_at s k)) (found s (place_of c i (actor_at s k)))

abbrev pub MayHappen : Network → Machine → Happening → Type 0
MayHappen c s (Stepped k i word) = MayStep c s k i × (word ≡ word_found c s k i)
MayHappen c s (WasCut k l) = IsEnabled c s (Split k l)
MayHappen c s (TookIn k l) = IsEnabled c s (Join k l)

abbrev pub happened : Network → Machine → Happening → Machine
happened c s (Stepped k i word) = after_step c s k i
happened c s (WasCut k l) = after c s (Split k l)
happened c s (TookIn k l) = after c s (Join k l)

-- the machine of that many actors, after all that happened
abbrev pub replay : Network → ℕ → List Happening → Machine
replay c n [] = start c n
replay c n (h ∷ hs) = happened c (replay c n hs) h

abbrev pub IsHistory : Network → ℕ → List Happening → Type 0
IsHistory c n [] = Unit {0}
IsHistory c n (h ∷ hs) = IsHistory c n hs × MayHappen c (replay c n hs) h

-- the trails, by actor number: a step stands at the end of its actor's trail; whoever begins the second part of cut numbers has a copy, and a trail that was taken in stands behind the other
abbrev pub trails_after : Network → Machine → (ℕ → List Entry) → Happening → ℕ → List Entry
trails_after c s t (Stepped k i word) j = if j == k then t k ++ entry_of c i (actor_at s k) word ∷ [] else t j
trails_after c s t (WasCut k l) j = if j == l then t k else t j
trails_after c s t (TookIn k l) j = if j == k then t k ++ t l else t j

abbrev pub trail_in : Network → ℕ → List Happening → ℕ → List Entry
trail_in c n [] j = []
trail_in c n (h ∷ hs) j = trails_after c (replay c n hs) (trail_in c n hs) h j
