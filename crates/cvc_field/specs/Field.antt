-- A sound field: at every moment its words are a sound state of the machine, in which each hand has a range of the actor numbers, and what a hand's trail tells is so.
-- This is the rule of the words. It holds between any two steps, and each kind of step keeps it.
use Rattle.std.specs.Prelude.{◌≡◌, ℕ, ◌+◌, ◌*◌, ◌%◌, ◌<◌, ◌≤◌, List, true, false, length, slice_index}
use mathlib.Core.Option.{some}
use lib.ListN.{get_elem?}
use Rattle.atomic_table.specs.Table.{State}
use Rattle.cvc_law.specs.Network.{Network, devices}
use Rattle.cvc_law.specs.Reach.{width, is_declared_bound}
use Rattle.cvc_law.specs.ReachWord.{IsInMillion}
use Rattle.cvc_core.specs.declared.actor.Actor.{Actor}
use Rattle.cvc_core.specs.declared.actor.Intent.{Intent}
use Rattle.cvc_core.specs.State.{Machine, Place, CountWord, BoundWord, MarkWord, actor_at, found, credits_of}
use Rattle.cvc_core.specs.Steps.{place_of, new_word, IsAllowed, IsPresent}
use Rattle.cvc_core.specs.Sound.{Sound}
use Rattle.cvc_field.specs.declared.view.View.{View}
use Rattle.cvc_field.specs.declared.view.Entry.{Entry}
use Rattle.cvc_field.specs.Words.{IsPlace, word_index, word_at, value_in}
use Rattle.cvc_field.specs.History.{Happening, IsHistory, replay, trail_in}
use Rattle.cvc_field.specs.Trail.{CoversEach, is_quiet, gave}
use Rattle.cvc_field.specs.Views.{IsBoundWord}

-- what holds of the view v of the seat j: its numbers are its own, the first of them is at what the view says, and the trail is that of the history
pub record ViewFits (c : Network) (hands : ℕ) (m : Machine) (trails : ℕ → List Entry) (owner : ℕ → ℕ) (j : ℕ) (v : View) : Type 0 where
  pub some_number : 0 < v.numbers
  pub within : v.first + v.numbers ≤ hands
  pub owns : (k : ℕ) → v.first ≤ k → k < v.first + v.numbers → owner k ≡ j
  pub actor : actor_at m v.first ≡ v.actor
  pub told : v.trail ≡ trails v.first
  pub covers : CoversEach c m.bounds v.trail
  pub quiet : is_quiet v.trail ≡ true → m.count ≡ 0

-- the number k is one of the view's, and only the first of these is at work
pub record HasNumber (m : Machine) (k : ℕ) (v : View) : Type 0 where
  pub above : v.first ≤ k
  pub below : k < v.first + v.numbers
  pub only_first : IsPresent (actor_at m k) → v.first ≡ k

-- a table without slots, whose seats are the hands
abbrev St : Type 0
St = State (Unit {0}) View

-- some view that isn't spent has this fact
abbrev pub Somewhere : List View → (View → Type 0) → Type 0
Somewhere views P = (j : ℕ) × (v : View) × (get_elem? views j ≡ some v) × (v.spent ≡ false) × P v

pub record IsSoundField (c : Network) (hands : ℕ) (s : St) : Type 0 where
  -- all that happened so far, and the machine that it led to
  pub history : List Happening
  pub happened : IsHistory c hands history
  pub machine : Machine
  pub replayed : machine ≡ replay c hands history
  pub sound : Sound c machine
  pub range : IsInMillion c
  pub actors : length machine.actors ≡ hands
  pub words : length s.words ≡ 1 + width c + devices c
  pub word_is : (q : Place) → IsPlace c q → slice_index s.words (word_index c q) ≡ word_at c q (found machine q)
  -- the seat that has each actor number
  pub owner : ℕ → ℕ
  pub each : (j : ℕ) (v : View) → get_elem? s.views j ≡ some v → v.spent ≡ false → ViewFits c hands machine (trail_in c hands history) owner j v
  -- each number is one of some view's, and its actor is absent unless it is the first of them
  pub dealt : (k : ℕ) → k < hands → Somewhere s.views (HasNumber machine k)
  -- each known bound that is not declared is what some step gave
  pub given : (b : ℕ) → is_declared_bound c b ≡ false → 0 < slice_index machine.bounds b → Somewhere s.views (λ v. gave b (slice_index machine.bounds b) v.trail ≡ true)

-- ---- a step
-- what is known of a word that a step of an actor at a may find
abbrev pub Known : Network → ℕ → Actor → Place → ℕ → Type 0
Known c hands a CountWord r = (credits_of a ≤ r) × (r ≤ devices c + 2 * hands)
Known c hands a (BoundWord b) r = IsBoundWord c (b % 2) r
Known c hands a (MarkWord d) r = r < 4

-- a step that changes this word by f is the step of the machine that is meant
pub record Moves (c : Network) (hands : ℕ) (v : View) (word : ℕ) (f : ℕ → ℕ) (means : ℕ → Intent) : Type 0 where
  pub place : Place
  pub is_place : IsPlace c place
  pub at : word ≡ word_index c place
  pub same_place : (r : ℕ) → place_of c (means r) v.actor ≡ place
  pub allowed : (r : ℕ) → Known c hands v.actor place r → IsAllowed c (means r) v.actor (value_in c place r)
  pub becomes : (r : ℕ) → Known c hands v.actor place r → f r ≡ word_at c place (new_word c (means r) v.actor (value_in c place r))
