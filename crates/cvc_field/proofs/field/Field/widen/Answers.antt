use Rattle.std.proofs.Common.{ap, ◌∙◌, sym, subst, ℕ, ◌+◌, ◌*◌, ◌≡◌, ◌%◌, ℤ, Some, arith}
use Rattle.std.specs.Prelude.{pos, neg_ℤ, ◌≤ℤ◌}
use Rattle.cvc_law.specs.ReachWord.{stored}
use Rattle.cvc_field.proofs.Giving.{in_range, value_back, widens, widens_most, lowers_by, raises_by, widened_low, widened_high}
use Rattle.cvc_field.proofs.field.Field.widen.Goals as goal
use Rattle.cvc_field.proofs.field.Field.widen.Goals.{After-value_word-operand}

pub value_word-operand-requires : goal.value_word-operand-requires
value_word-operand-requires c = let fits = in_range c.args.self.now.circuit.now c.requires.range c.args.d c.args.slot c.args.net.0 c.args.value c.args.seat.now.me.0 c.requires.slot c.requires.net.0 c.requires.may in
    subst (λ (z : ℤ). (neg_ℤ (pos 1000000) ≤ℤ z) × (z ≤ℤ pos 1000000)) (sym (value_back c.args.value fits)) fits

place_is : (c : After-value_word-operand) → 2 * c.args.net.0 + c.from.result ≡ 2 * c.args.net.0 + c.args.slot % 2
place_is c = ap (λ (n : ℕ). 2 * c.args.net.0 + n) c.from.ensures

word_is : (c : After-value_word-operand) → c.value_word-operand.result ≡ stored 0 (Some c.args.value)
word_is c = c.value_word-operand.ensures ∙ ap (λ (z : ℤ). stored 0 (Some z)) (value_back c.args.value (in_range c.args.self.now.circuit.now c.requires.range c.args.d c.args.slot c.args.net.0 c.args.value c.args.seat.now.me.0 c.requires.slot c.requires.net.0 c.requires.may))

pub lower-found-requires-clause-operand : goal.lower-found-requires-clause-operand
lower-found-requires-clause-operand c = (
  lowers_by c.args.self.now.circuit.now c.requires.range c.args.d c.args.slot c.args.net.0 c.args.value c.args.seat.now.me.0 c.requires.slot c.requires.net.0 c.requires.may c.value_word-operand.result (word_is (goal.at.lower-found-requires-clause-operand c).After-value_word-operand) c.if-slot-eq0.true,
  widens_most c.args.self.now.circuit.now c.requires.range c.args.d c.args.slot c.args.net.0 c.args.value c.args.seat.now.me.0 c.requires.slot c.requires.net.0 c.requires.may,
)

pub lower-found-requires-clause-allowed : goal.lower-found-requires-clause-allowed
lower-found-requires-clause-allowed c = widens c.args.self.now.circuit.now c.requires.range c.args.d c.args.slot c.args.net.0 c.args.value c.args.seat.now.me.0 c.requires.slot c.requires.net.0 c.requires.may

pub returns-then-slot-eq0-clause-actor : goal.returns-then-slot-eq0-clause-actor
returns-then-slot-eq0-clause-actor c = widened_low c.args.self.now.circuit.now c.requires.range c.args.d c.args.slot c.args.net.0 c.args.value c.args.seat.now.me.0 c.requires.slot c.requires.net.0 c.requires.may c.lower-found.new.seat.me.0 c.lower-found.result c.value_word-operand.result
    (2 * c.args.net.0 + c.from.result) c.requires.seat.2 c.lower-found.ensures.step (place_is (goal.at.returns-then-slot-eq0-clause-actor c).After-value_word-operand) (word_is (goal.at.returns-then-slot-eq0-clause-actor c).After-value_word-operand) c.if-slot-eq0.true c.lower-found.ensures.word

pub raise-found-requires-clause-operand : goal.raise-found-requires-clause-operand
raise-found-requires-clause-operand c = let odd : c.args.slot % 2 ≡ 1 = (let no = c.if-slot-eq0.false in omega arith) in (
  raises_by c.args.self.now.circuit.now c.requires.range c.args.d c.args.slot c.args.net.0 c.args.value c.args.seat.now.me.0 c.requires.slot c.requires.net.0 c.requires.may c.value_word-operand.result (word_is (goal.at.raise-found-requires-clause-operand c).After-value_word-operand) odd,
  widens_most c.args.self.now.circuit.now c.requires.range c.args.d c.args.slot c.args.net.0 c.args.value c.args.seat.now.me.0 c.requires.slot c.requires.net.0 c.requires.may,
)

pub raise-found-requires-clause-allowed : goal.raise-found-requires-clause-allowed
raise-found-requires-clause-allowed c = widens c.args.self.now.circuit.now c.requires.range c.args.d c.args.slot c.args.net.0 c.args.value c.args.seat.now.me.0 c.requires.slot c.requires.net.0 c.requires.may

pub returns-clause-actor : goal.returns-clause-actor
returns-clause-actor c = let odd : c.args.slot % 2 ≡ 1 = (let no = c.if-slot-eq0.false in omega arith) in
    widened_high c.args.self.now.circuit.now c.requires.range c.args.d c.args.slot c.args.net.0 c.args.value c.args.seat.now.me.0 c.requires.slot c.requires.net.0 c.requires.may c.raise-found.new.seat.me.0 c.raise-found.result c.value_word-operand.result
    (2 * c.args.net.0 + c.from.result) c.requires.seat.2 c.raise-found.ensures.step (place_is (goal.at.returns-clause-actor c).After-value_word-operand) (word_is (goal.at.returns-clause-actor c).After-value_word-operand) odd c.raise-found.ensures.word
