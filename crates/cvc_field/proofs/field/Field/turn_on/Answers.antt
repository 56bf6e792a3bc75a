use Rattle.std.proofs.Common.{◌≡◌, ◌+◌, ◌≤◌, ◌++◌, ◌||◌, Bool, sym, ap, ◌∙◌, subst}
use Rattle.cvc_field.specs.Hands.{HandView, hand_of, IsWithin}
use Rattle.cvc_field.proofs.Turning.{grew_within, turn_on_is_quiet, or_nothing}
use Rattle.cvc_field.proofs.field.Field.turn_on.Goals as goal
use Rattle.cvc_field.proofs.field.Field.turn_on.Goals.{After-go_on}

-- the hand after the turn
after : (c : After-go_on) → let h = c.args.hand.now in let u = c.go_on.new.seat in (hand_of u ≡ record { table = h.table; circuit = h.circuit; first = h.first; numbers = h.numbers; trail = h.trail ++ c.go_on.ensures.done.0 }) × IsWithin (hand_of u) u c.hand.inside.numbers c.hand.inside.quiet
after c = let t = c.hand.inside.seat in let q = c.hand.inside.quiet in
    grew_within c.args.hand.now t c.go_on.new.seat c.hand.inside.numbers q q c.go_on.ensures.done.0 (subst (λ (h : HandView). IsWithin h t c.hand.inside.numbers q) c.hand.view_is c.hand.invariant)
    (sym (ap (λ (b : Bool). q || b) (turn_on_is_quiet c.args.self.now.circuit.now c.args.d c.go_on.result c.go_on.ensures.done.0 c.go_on.ensures.done.2) ∙ or_nothing q))
    (c.go_on.ensures.seat.0 ∙ sym (ap (λ (h : HandView). h.table) c.hand.view_is ∙ c.requires.hand.0)) c.go_on.ensures.done.1 c.go_on.ensures.seat.1

pub invariant_of-hand : goal.invariant_of-hand
invariant_of-hand c = (after c).1

pub returns-clause-hand : goal.returns-clause-hand
returns-clause-hand c = (c.go_on.ensures.seat.0, c.go_on.ensures.seat.2, subst (λ (h : HandView). h.first + h.numbers ≤ c.args.self.now.table.shared.key.hands) (sym (after c).0) c.requires.hand.2)

pub returns-clause-turn : goal.returns-clause-turn
returns-clause-turn c = (c.go_on.ensures.done.0, (after c).0, c.go_on.ensures.done.2, c.go_on.ensures.done.3)

pub returns-clause-range : goal.returns-clause-range
returns-clause-range c = (ap (λ (h : HandView). h.first) (after c).0, ap (λ (h : HandView). h.numbers) (after c).0)
