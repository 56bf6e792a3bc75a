-- What contracts see of a hand: the field that it is of, its actor numbers, and its steps so far with the words that they returned.
use Rattle.std.specs.Prelude.{◌≡◌, ℕ, Bool, false, List, []}
use Rattle.atomic_table.specs.Seated.{TableId}
use Rattle.atomic_table.specs.declared.shared.Seat.{Seat}
use Rattle.cvc_law.specs.Network.{Network}
use Rattle.cvc_core.specs.declared.actor.Actor.TheVariants.{Idle}
use Rattle.cvc_field.specs.declared.view.Entry.{Entry}
use Rattle.cvc_field.specs.declared.view.View.{View}
use Rattle.cvc_field.specs.Trail.{is_quiet}

pub record HandView : Type 0 where
  pub table : TableId
  pub circuit : Network
  pub first : ℕ
  pub numbers : ℕ
  pub trail : List Entry

-- the view of the hand's seat, between two runs
abbrev pub idle_view : HandView → View
idle_view h = record { circuit = h.circuit; spent = false; first = h.first; numbers = h.numbers; actor = Idle 0; trail = h.trail }

abbrev pub hand_of : Seat (Unit {0}) View → HandView
hand_of t = record { table = t.table_id; circuit = t.me.0.circuit; first = t.me.0.first; numbers = t.me.0.numbers; trail = t.me.0.trail }

-- the seat of the hand, and what the hand keeps of its view
abbrev pub IsWithin : HandView → Seat (Unit {0}) View → ℕ → Bool → Type 0
IsWithin h t n quiet = (t.table_id ≡ h.table) × (t.me ≡ (idle_view h, [])) × (n ≡ h.numbers) × (quiet ≡ is_quiet h.trail)
