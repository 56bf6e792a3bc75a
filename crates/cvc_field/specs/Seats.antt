-- Which field a seat or a hand is of.
use Rattle.std.specs.Prelude.{◌≡◌, ℕ, ◌+◌, ◌*◌, ◌<◌, ◌≤◌, ℤ, ◌≤ℤ◌, [], Option, IfSome, IsSomeAnd, false}
use Rattle.atomic_table.specs.Table.{Allows}
use Rattle.atomic_table.specs.declared.shared.Seat.{Seat}
use Rattle.cvc_base.specs.declared.ids.Side.{Side}
use Rattle.cvc_base.specs.declared.ids.Side.TheVariants.{Low, High}
use Rattle.cvc_core.specs.declared.actor.Intent.{Intent}
use Rattle.cvc_field.specs.declared.field.Field.{Field}
use Rattle.cvc_field.specs.declared.view.View.{View}
use Rattle.cvc_field.specs.Views.{advance, Tells}
use Rattle.cvc_field.specs.Field.{IsSoundField}
use Rattle.cvc_field.specs.Hands.{HandView}

-- the seat is one of the field's, holds no slot, and was not joined away
abbrev pub IsSeatOf : Field → Seat (Unit {0}) View → Type 0
IsSeatOf f t = (t.table_id ≡ f.table.shared.table_id) × (t.me.1 ≡ []) × (t.me.0.circuit ≡ f.circuit.now) × (t.me.0.spent ≡ false)

-- the rule of the field allows the seat the step that is meant, by which this word changes by f
abbrev pub MayMove : Field → Seat (Unit {0}) View → ℕ → (ℕ → ℕ) → (ℕ → Intent) → Type 0
MayMove f t word change means = (word < f.table.shared.table_id.words)
    × Allows (IsSoundField f.table.shared.key.circuit.value f.table.shared.key.hands) f.table.shared.table_id.slots t.id t.me word change (λ r after. (after ≡ (advance (means r) t.me.0 r, t.me.1)) × Tells (means r) t.me.0 r)

-- the hand is one of the field's
abbrev pub IsHandOf : Field → HandView → Type 0
IsHandOf f h = (h.table ≡ f.table.shared.table_id) × (h.circuit ≡ f.circuit.now) × (h.first + h.numbers ≤ f.table.shared.key.hands)

-- the hands that the field was made for
abbrev pub hands_of : Field → ℕ
hands_of f = f.table.shared.key.hands

abbrev pub side_number : Side → ℕ
side_number Low = 0
side_number High = 1

-- the index of a net's bound
abbrev pub bound_index : ℕ → Side → ℕ
bound_index n side = 2 * n + side_number side

-- a bound of a side that is known is known to the other one, which is as wide or wider
abbrev pub IsBoundWithin : Side → Option ℤ → Option ℤ → Type 0
IsBoundWithin Low x y = IfSome x (λ v. IsSomeAnd y (λ w. w ≤ℤ v))
IsBoundWithin High x y = IfSome x (λ v. IsSomeAnd y (λ w. v ≤ℤ w))
