use Rattle.std.proofs.Common.{ℕ, ◌≡◌, ◌<◌, true, false, Some, List, arith, sym, subst, ◌∙◌}
use Rattle.std.specs.Prelude.{ℤ}
use Rattle.std.specs.Slots.{slots_items}
use Rattle.cvc_base.specs.declared.ids.Side.{Side}
use Rattle.cvc_law.specs.declared.interval.Interval.{Interval}
use Rattle.cvc_law.specs.Network.{nets, is_declared}
use Rattle.cvc_law.specs.Family.{interval_at, IsFamily, IsWithin}
use Rattle.cvc_law.specs.Least.{IsClosed, IsLeast}
use Rattle.cvc_law.specs.Reach.{bound_on, reach_of}
use Rattle.cvc_field.specs.Words.{last_intervals}
use Rattle.cvc_field.specs.Trail.{is_quiet, gave}
use Rattle.cvc_field.specs.Seats.{side_number, bound_index}
use Rattle.cvc_field.proofs.Ending.{hand_stored, hand_family, hand_within, hand_least, hand_given, hand_history}
use Rattle.cvc_field.specs.Closings.{HasHistory}
use Rattle.cvc_field.proofs.field.Field.close.Goals as goal

pub invariant_of-result : goal.invariant_of-result
invariant_of-result c = let count = c.nets-nets.ensures.count in let sized = c.args.self.sized in let long = c.close_with-table.ensures.counts.0 in let few = c.nets-nets.ensures.circuit.few_nets in record {
  full = c.close_with-table.ensures.values.0;
  empty = c.close_with-table.ensures.counts.1 ∙ c.args.self.no_slots;
  few = omega arith;
  sized = omega arith;
  stored = λ b lt. hand_stored c.args.self.table.shared.key.circuit.value c.args.self.circuit.now c.args.self.table.shared.key.hands c.into_parts-seat.result.0.id c.into_parts-seat.result.0.me c.args.hand (slots_items c.close_with-table.result.words) (slots_items c.close_with-table.result.slots) c.args.self.about c.into_parts-seat.ensures.1 c.requires.whole.0 c.requires.whole.1 c.close_with-table.ensures.values.2 b (omega arith);
}

pub returns-clause-family : goal.returns-clause-family
returns-clause-family c = subst (λ (n : ℕ). IsFamily c.args.self.circuit.now (last_intervals n (slots_items c.close_with-table.result.words))) (sym c.nets-nets.ensures.count)
    (hand_family c.args.self.table.shared.key.circuit.value c.args.self.circuit.now c.args.self.table.shared.key.hands c.into_parts-seat.result.0.id c.into_parts-seat.result.0.me c.args.hand (slots_items c.close_with-table.result.words) (slots_items c.close_with-table.result.slots) c.args.self.about c.into_parts-seat.ensures.1 c.requires.whole.0 c.requires.whole.1 c.close_with-table.ensures.values.2)

pub returns-clause-within : goal.returns-clause-within
returns-clause-within c = subst (λ (n : ℕ). (f : List Interval) → IsFamily c.args.self.circuit.now f → IsClosed c.args.self.circuit.now f → IsWithin (last_intervals n (slots_items c.close_with-table.result.words)) f) (sym c.nets-nets.ensures.count)
    (hand_within c.args.self.table.shared.key.circuit.value c.args.self.circuit.now c.args.self.table.shared.key.hands c.into_parts-seat.result.0.id c.into_parts-seat.result.0.me c.args.hand (slots_items c.close_with-table.result.words) (slots_items c.close_with-table.result.slots) c.args.self.about c.into_parts-seat.ensures.1 c.requires.whole.0 c.requires.whole.1 c.close_with-table.ensures.values.2)

pub returns-clause-least : goal.returns-clause-least
returns-clause-least c = subst (λ (n : ℕ). is_quiet c.args.hand.trail ≡ true → IsLeast c.args.self.circuit.now (last_intervals n (slots_items c.close_with-table.result.words))) (sym c.nets-nets.ensures.count)
    (hand_least c.args.self.table.shared.key.circuit.value c.args.self.circuit.now c.args.self.table.shared.key.hands c.into_parts-seat.result.0.id c.into_parts-seat.result.0.me c.args.hand (slots_items c.close_with-table.result.words) (slots_items c.close_with-table.result.slots) c.args.self.about c.into_parts-seat.ensures.1 c.requires.whole.0 c.requires.whole.1 c.close_with-table.ensures.values.2)

pub returns-clause-given : goal.returns-clause-given
returns-clause-given c = subst (λ (m : ℕ). (n : ℕ) (side : Side) (v : ℤ) → n < nets c.args.self.circuit.now → is_declared c.args.self.circuit.now n ≡ false → bound_on (side_number side) (interval_at (last_intervals m (slots_items c.close_with-table.result.words)) n) ≡ Some v → gave (bound_index n side) (reach_of c.args.self.circuit.now (side_number side) (Some v)) c.args.hand.trail ≡ true) (sym c.nets-nets.ensures.count)
    (hand_given c.args.self.table.shared.key.circuit.value c.args.self.circuit.now c.args.self.table.shared.key.hands c.into_parts-seat.result.0.id c.into_parts-seat.result.0.me c.args.hand (slots_items c.close_with-table.result.words) (slots_items c.close_with-table.result.slots) c.args.self.about c.into_parts-seat.ensures.1 c.requires.whole.0 c.requires.whole.1 c.close_with-table.ensures.values.2)

pub returns-clause-history : goal.returns-clause-history
returns-clause-history c = subst (λ (n : ℕ). HasHistory c.args.self.circuit.now c.args.hand.numbers c.args.hand.trail (last_intervals n (slots_items c.close_with-table.result.words))) (sym c.nets-nets.ensures.count)
    (hand_history c.args.self.table.shared.key.circuit.value c.args.self.circuit.now c.args.self.table.shared.key.hands c.into_parts-seat.result.0.id c.into_parts-seat.result.0.me c.args.hand (slots_items c.close_with-table.result.words) (slots_items c.close_with-table.result.slots) c.args.self.about c.into_parts-seat.ensures.1 c.requires.whole.0 c.requires.whole.1 c.close_with-table.ensures.values.2)
