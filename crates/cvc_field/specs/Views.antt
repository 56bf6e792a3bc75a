-- The view of a hand: the circuit, its actor numbers, what the first of them is at, and its trail. A hand that was joined into another one leaves a spent view.
-- Each step changes the view of its own hand, and tells the hand what the field holds true of the word that was found.
use Rattle.std.specs.Prelude.{◌≡◌, ℕ, ◌+◌, ◌-◌, ◌%◌, ◌≤◌, List, [], ◌∷◌, ◌++◌, true, false, ◌==◌, if◌then◌else◌}
use Rattle.cvc_base.specs.declared.ids.DevId.{DevId}
use Rattle.cvc_law.specs.Network.{Network}
use Rattle.cvc_law.specs.Reach.{widest}
use Rattle.cvc_law.specs.ReachWord.{word_of, reach_in, IsInMillion}
use Rattle.cvc_core.specs.declared.actor.Actor.{Actor}
use Rattle.cvc_core.specs.declared.actor.Actor.TheVariants.{Idle}
use Rattle.cvc_core.specs.declared.actor.Intent.{Intent}
use Rattle.cvc_core.specs.declared.actor.Intent.TheVariants.{Claim, LookAt}
use Rattle.cvc_core.specs.State.{Place, CountWord, BoundWord, MarkWord}
use Rattle.cvc_core.specs.Steps.{place_of, new_actor}
use Rattle.cvc_field.specs.declared.view.View.{View}
use Rattle.cvc_field.specs.declared.view.Entry.{Entry}
use Rattle.cvc_field.specs.Words.{value_in}
use Rattle.cvc_field.specs.Trail.{entry_of, is_quiet, EachAtMost, WithinClosed}

-- the value that the step finds, of the word that it finds
abbrev pub value_found : Network → Intent → Actor → ℕ → ℕ
value_found c i a r = value_in c (place_of c i a) r

-- the view after a step that found the word r
unfoldable pub advance : Intent → View → ℕ → View
advance i v r = record {
  circuit = v.circuit;
  spent = v.spent;
  first = v.first;
  numbers = v.numbers;
  actor = new_actor v.circuit i v.actor (value_found v.circuit i v.actor r);
  trail = v.trail ++ entry_of v.circuit i v.actor r ∷ [];
}

-- a step that takes a device, or looks at it where its mark isn't plain Queued
abbrev pub take_or_look : DevId → ℕ → Intent
take_or_look d r = if r == 1 then Claim d else LookAt d

-- ---- hands that come and go
abbrev pub first_view : Network → ℕ → View
first_view c n = record { circuit = c; spent = false; first = 0; numbers = n; actor = Idle 0; trail = [] }

-- the first `at` numbers of a view, and the others
abbrev pub left_of : ℕ → View → View
left_of at v = record { circuit = v.circuit; spent = v.spent; first = v.first; numbers = at; actor = v.actor; trail = v.trail }

abbrev pub right_of : ℕ → View → View
right_of at v = record { circuit = v.circuit; spent = v.spent; first = v.first + at; numbers = v.numbers - at; actor = Idle 0; trail = v.trail }

-- two views whose numbers follow one another
abbrev pub both_of : View → View → View
both_of v w = record { circuit = v.circuit; spent = v.spent; first = v.first; numbers = v.numbers + w.numbers; actor = v.actor; trail = v.trail ++ w.trail }

abbrev pub no_circuit : Network
no_circuit = record { fixed = []; devices = [] }

abbrev pub spent_view : View
spent_view = record { circuit = no_circuit; spent = true; first = 0; numbers = 0; actor = Idle 0; trail = [] }

-- ---- what a step tells
-- the word stores a bound of the circuit
pub record IsBoundWord (c : Network) (side : ℕ) (r : ℕ) : Type 0 where
  pub range : IsInMillion c
  pub reach : reach_in c side r ≤ widest c
  pub back : word_of c side (reach_in c side r) ≡ r

-- a hand that had this trail, and finds the word r at a place: a count is 0 if it was before; a bound is as wide as all that the hand had seen or given, and within each closed family
abbrev pub Told : Network → List Entry → Place → ℕ → Type 0
Told c es CountWord r = is_quiet es ≡ true → r ≡ 0
Told c es (BoundWord b) r = IsBoundWord c (b % 2) r × EachAtMost c b (reach_in c (b % 2) r) es × WithinClosed c b (reach_in c (b % 2) r)
Told c es (MarkWord d) r = Unit {0}

abbrev pub Tells : Intent → View → ℕ → Type 0
Tells i v r = Told v.circuit v.trail (place_of v.circuit i v.actor) r
