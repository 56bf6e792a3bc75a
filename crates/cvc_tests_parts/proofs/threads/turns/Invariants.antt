use Rattle.std.proofs.Common.{◌≡◌}
use Rattle.cvc_field.specs.Seats.{IsHandOf}
use Rattle.cvc_tests_parts.proofs.threads.turns.Given as goal

abbrev pub invariant-loop : goal.invariant-loop
invariant-loop l = record {
  hand : IsHandOf l.field l.hand;
  range : (l.hand.first ≡ l.fn.hand.first) × (l.hand.numbers ≡ l.fn.hand.numbers);
}
