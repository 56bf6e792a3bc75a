use Rattle.std.proofs.Common.{◌%◌, arith}
use Rattle.cvc_field.proofs.Bounds.{within_words, read_known, read_within}
use Rattle.std.proofs.Common.{◌≡◌, ◌+◌, ◌≤◌, ◌∷◌, ◌++◌, [], ℕ, sym, ap, ◌∙◌, subst}
use Rattle.cvc_law.specs.ReachWord.{bound_in}
use Rattle.cvc_core.specs.declared.actor.Intent.TheVariants.{Peek}
use Rattle.cvc_core.specs.State.{BoundWord}
use Rattle.cvc_field.specs.declared.view.Entry.TheVariants.{Loaded}
use Rattle.cvc_field.specs.Views.{Told, advance}
use Rattle.cvc_field.specs.Hands.{HandView, hand_of, IsWithin}
use Rattle.cvc_field.specs.Seats.{bound_index}
use Rattle.cvc_field.proofs.Parts.{peeked, read_seen}
use Rattle.cvc_field.proofs.field.Field.read.Goals as goal
use Rattle.cvc_field.proofs.field.Field.read.Goals.{After-bound_in}

-- the hand after the load
after : (c : After-bound_in) → let h = c.args.hand.now in (hand_of c.peek-word.new.seat ≡ record { table = h.table; circuit = h.circuit; first = h.first; numbers = h.numbers; trail = h.trail ++ Loaded (bound_index c.args.n.0 c.args.side) c.peek-word.result ∷ [] })
    × IsWithin (hand_of c.peek-word.new.seat) c.peek-word.new.seat c.hand.inside.numbers c.hand.inside.quiet
after c = let t = c.hand.inside.seat in
    peeked c.args.hand.now t c.peek-word.new.seat c.hand.inside.numbers (bound_index c.args.n.0 c.args.side) c.peek-word.result c.hand.inside.quiet (subst (λ (h : HandView). IsWithin h t c.hand.inside.numbers c.hand.inside.quiet) c.hand.view_is c.hand.invariant)
    (c.peek-word.ensures.seat.0 ∙ sym (ap (λ (h : HandView). h.table) c.hand.view_is ∙ c.requires.hand.0)) (c.peek-word.ensures.step ∙ ap (λ (b : ℕ). advance (Peek b) t.me.0 c.peek-word.result) c.bound_index-bound.ensures.index) c.peek-word.ensures.seat.1

pub invariant_of-hand : goal.invariant_of-hand
invariant_of-hand c = (after c).1

pub returns-clause-hand : goal.returns-clause-hand
returns-clause-hand c = (c.peek-word.ensures.seat.0, c.peek-word.ensures.seat.2, subst (λ (h : HandView). h.first + h.numbers ≤ c.args.self.now.table.shared.key.hands) (sym (after c).0) c.requires.hand.2)

pub returns-clause-step : goal.returns-clause-step
returns-clause-step c = (c.peek-word.result, (after c).0, c.bound_in.ensures ∙ ap (λ (s : ℕ). bound_in s c.peek-word.result) c.bound_index-bound.ensures.side)

told : (c : After-bound_in) → Told c.args.self.now.circuit.now c.args.hand.now.trail (BoundWord c.bound_index-bound.result) c.peek-word.result
told c = subst (λ (h : HandView). Told c.args.self.now.circuit.now h.trail (BoundWord c.bound_index-bound.result) c.peek-word.result) c.hand.view_is c.peek-word.ensures.told

pub returns-clause-seen : goal.returns-clause-seen
returns-clause-seen c = read_seen c.args.self.now.circuit.now c.args.hand.now.trail c.bound_index-bound.result _ _ c.peek-word.result c.bound_in.result c.bound_index-bound.ensures.index c.bound_index-bound.ensures.side c.bound_in.ensures (told c).1

pub returns-clause-known : goal.returns-clause-known
returns-clause-known c = read_known c.args.self.now.circuit.now c.nets-circuit.ensures.circuit c.args.n.0 c.args.side c.bound_index-bound.result c.peek-word.result c.bound_in.result c.bound_index-bound.ensures.index c.bound_index-bound.ensures.side c.bound_in.ensures (told c).0

pub returns-clause-within : goal.returns-clause-within
returns-clause-within c = read_within c.args.self.now.circuit.now c.nets-circuit.ensures.circuit c.args.n.0 c.args.side c.bound_index-bound.result c.peek-word.result c.bound_in.result c.bound_index-bound.ensures.index c.bound_index-bound.ensures.side c.bound_in.ensures (told c).0 (told c).2

pub bound_in-requires : goal.bound_in-requires
bound_in-requires c = within_words c.args.self.now.circuit.now (c.bound_index-bound.result % 2) c.peek-word.result (omega arith) c.peek-word.ensures.told.0

pub returns-clause-range : goal.returns-clause-range
returns-clause-range c = (ap (λ (h : HandView). h.first) (after c).0, ap (λ (h : HandView). h.numbers) (after c).0)
