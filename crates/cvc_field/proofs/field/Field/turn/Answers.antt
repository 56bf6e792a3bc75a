use Rattle.std.proofs.Common.{◌≡◌, ◌+◌, ◌≤◌, ◌++◌, ◌||◌, Bool, sym, ap, ◌∙◌, subst}
use Rattle.cvc_field.specs.Hands.{HandView, hand_of, IsWithin}
use Rattle.cvc_field.proofs.Turning.{grew_within, turn_is_quiet}
use Rattle.cvc_field.proofs.field.Field.turn.Goals as goal
use Rattle.cvc_field.proofs.field.Field.turn.Goals.{After-either-quiet}

-- the hand after the turn
after : (c : After-either-quiet) → let h = c.args.hand.now in let u = c.go_round-answer.new.seat in (hand_of u ≡ record { table = h.table; circuit = h.circuit; first = h.first; numbers = h.numbers; trail = h.trail ++ c.go_round-answer.ensures.done.0 }) × IsWithin (hand_of u) u c.hand.inside.numbers c.either-quiet.result
after c = let t = c.hand.inside.seat in let q = c.hand.inside.quiet in
    grew_within c.args.hand.now t c.go_round-answer.new.seat c.hand.inside.numbers q c.either-quiet.result c.go_round-answer.ensures.done.0 (subst (λ (h : HandView). IsWithin h t c.hand.inside.numbers q) c.hand.view_is c.hand.invariant)
    (c.either-quiet.ensures ∙ ap (λ (b : Bool). q || b) (c.is_quiet.ensures ∙ sym (turn_is_quiet c.args.self.now.circuit.now c.args.first c.go_round-answer.result c.go_round-answer.ensures.done.0 c.go_round-answer.ensures.done.2)))
    (c.go_round-answer.ensures.seat.0 ∙ sym (ap (λ (h : HandView). h.table) c.hand.view_is ∙ c.requires.hand.0)) c.go_round-answer.ensures.done.1 c.go_round-answer.ensures.seat.1

pub invariant_of-hand : goal.invariant_of-hand
invariant_of-hand c = (after (goal.at.invariant_of-hand c).After-either-quiet).1

pub returns-clause-hand : goal.returns-clause-hand
returns-clause-hand c = (c.go_round-answer.ensures.seat.0, c.go_round-answer.ensures.seat.2, subst (λ (h : HandView). h.first + h.numbers ≤ c.args.self.now.table.shared.key.hands) (sym (after (goal.at.returns-clause-hand c).After-either-quiet).0) c.requires.hand.2)

pub returns-clause-turn : goal.returns-clause-turn
returns-clause-turn c = (c.go_round-answer.ensures.done.0, (after (goal.at.returns-clause-turn c).After-either-quiet).0, c.go_round-answer.ensures.done.2, c.go_round-answer.ensures.done.3)

pub returns-clause-range : goal.returns-clause-range
returns-clause-range c = (ap (λ (h : HandView). h.first) (after (goal.at.returns-clause-range c).After-either-quiet).0, ap (λ (h : HandView). h.numbers) (after (goal.at.returns-clause-range c).After-either-quiet).0)
