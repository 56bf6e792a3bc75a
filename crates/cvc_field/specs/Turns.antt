-- What a turn did, told by the entries that it added to the trail of its hand, and which of them are the cause of its answer.
use Rattle.std.specs.Prelude.{◌≡◌, ◌≢◌, ℕ, ◌<◌, ◌≤◌, List, [], ◌∷◌, ◌++◌, Bool, true, false, not, ◌&&◌, ◌||◌, ◌==◌, take, ◌⊎◌}
use Rattle.cvc_base.specs.declared.ids.DevId.{DevId}
use Rattle.cvc_law.specs.Network.{Network, devices}
use Rattle.cvc_core.specs.declared.actor.Actor.TheVariants.{Idle}
use Rattle.cvc_core.specs.declared.actor.Intent.TheVariants.{Claim}
use Rattle.cvc_core.specs.Steps.{plain_queued}
use Rattle.cvc_field.specs.declared.view.View.{View}
use Rattle.cvc_field.specs.declared.view.Entry.{Entry}
use Rattle.cvc_field.specs.declared.view.Entry.TheVariants.{Looked, Counted}
use Rattle.cvc_field.specs.declared.turn.Turn.{Turn}
use Rattle.cvc_field.specs.declared.turn.Turn.TheVariants.{Worked as TurnWorked, Idle as TurnIdle, Quiet as TurnQuiet}
use Rattle.cvc_field.specs.declared.turn.TurnOn.{TurnOn}
use Rattle.cvc_field.specs.declared.turn.TurnOn.TheVariants.{Worked, Missed}
use Rattle.cvc_field.specs.Steps.{Step, AreAllowed, actor_after, entries, AreOfRun, newly_queued}

-- a whole run of the device d: it is taken, its reads are loaded, each slot is given or settled, and what was widened is marked; in the end it is left, and no credit is kept.
-- Every step is allowed by what the actor is at, from idle to idle, and no other device is taken
pub record IsRunOf (c : Network) (d : DevId) (es : List Entry) : Type 0 where
  pub steps : List Step
  pub only_run : AreOfRun steps
  pub allowed : AreAllowed c (Idle 0) (record { intent = Claim d; word = plain_queued } ∷ steps)
  pub ends : actor_after c (Idle 0) (record { intent = Claim d; word = plain_queued } ∷ steps) ≡ Idle 0
  pub are : es ≡ entries c (Idle 0) (record { intent = Claim d; word = plain_queued } ∷ steps)

-- looks at marks alone, of devices of which P holds
abbrev pub AreLooks : (ℕ → Type 0) → List Entry → Type 0
AreLooks P [] = Unit {0}
AreLooks P (Looked d r ∷ es) = P d × AreLooks P es
AreLooks P (e ∷ es) = ⊥

-- whether the step found the device's mark other than plain Queued
abbrev pub is_away : ℕ → Entry → Bool
is_away d (Looked e r) = (e == d) && not (r == plain_queued)
is_away d _ = false

-- whether one of the steps did
abbrev pub was_away : ℕ → List Entry → Bool
was_away d [] = false
was_away d (e ∷ es) = is_away d e || was_away d es

-- the device e comes before d on the way round from the device `first`
abbrev pub IsBefore : ℕ → ℕ → ℕ → Type 0
IsBefore first e d = ((first ≤ e) × (e < d)) ⊎ ((d < first) × ((first ≤ e) ⊎ (e < d)))

abbrev pub IsUpTo : Network → ℕ → ℕ → ℕ → Type 0
IsUpTo c first d e = (e < devices c) × (IsBefore first e d ⊎ (e ≡ d))

abbrev pub IsDevice : Network → ℕ → Type 0
IsDevice c d = d < devices c

-- what a turn added that goes round from the device `first`: looks and then a whole run, where the looks found every device before the one that it ran away, and none is of a device behind it;
-- or looks that found every device away, and then a count, which was 0 or above
abbrev pub IsTurn : Network → ℕ → Turn → List Entry → Type 0
IsTurn c first TurnWorked es = (d : DevId) × (looks : List Entry) × (run : List Entry) × (es ≡ looks ++ run) × AreLooks (IsUpTo c first d.0) looks
    × ((e : ℕ) → e < devices c → IsBefore first e d.0 → was_away e looks ≡ true) × IsRunOf c d run
IsTurn c first TurnIdle es = (looks : List Entry) × (count : ℕ) × (es ≡ looks ++ Counted count ∷ []) × AreLooks (IsDevice c) looks × ((d : ℕ) → d < devices c → was_away d looks ≡ true) × (0 < count)
IsTurn c first TurnQuiet es = (looks : List Entry) × (es ≡ looks ++ Counted 0 ∷ []) × AreLooks (IsDevice c) looks × ((d : ℕ) → d < devices c → was_away d looks ≡ true)

-- what a turn on the device d added: a whole run of it; or one look, which found it away
abbrev pub IsTurnOn : Network → DevId → TurnOn → List Entry → Type 0
IsTurnOn c d Worked es = IsRunOf c d es
IsTurnOn c d Missed es = (word : ℕ) × (word ≢ plain_queued) × (es ≡ Looked d.0 word ∷ [])

-- the answers of single parts, by whether a device was run
-- an exchange on a mark and, where it took the device, its run
abbrev pub IsExchange : Network → DevId → Bool → List Entry → Type 0
IsExchange c d true es = IsRunOf c d es
IsExchange c d false es = (word : ℕ) × (word ≢ plain_queued) × (es ≡ Looked d.0 word ∷ [])

-- a scan of the devices from one up to another, which ends where one was run
abbrev pub IsScan : Network → ℕ → ℕ → Bool → List Entry → Type 0
IsScan c from to true es = (d : DevId) × (looks : List Entry) × (run : List Entry) × (es ≡ looks ++ run) × AreLooks (λ e. (from ≤ e) × (e ≤ d.0)) looks
    × ((e : ℕ) → from ≤ e → e < d.0 → was_away e looks ≡ true) × IsRunOf c d run × (from ≤ d.0) × (d.0 < to)
IsScan c from to false es = AreLooks (λ e. (from ≤ e) × (e < to)) es × ((e : ℕ) → from ≤ e → e < to → was_away e es ≡ true)

abbrev pub quiet_of : Turn → Bool
quiet_of TurnQuiet = true
quiet_of _ = false

-- the view with more steps in its trail
abbrev pub grown : View → List Entry → View
grown v es = record { circuit = v.circuit; spent = v.spent; first = v.first; numbers = v.numbers; actor = v.actor; trail = v.trail ++ es }

-- the devices of the first 32 steps that turned a mark from not Queued to Queued
abbrev pub tray_of : List Entry → List DevId
tray_of es = take 32 (newly_queued es)
