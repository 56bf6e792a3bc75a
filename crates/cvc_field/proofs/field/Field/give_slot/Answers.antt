use Rattle.std.proofs.Common.{◌+◌, Bool, ap, ◌∙◌, sym, subst, ◌≡◌, Some, None, ℤ}
use Rattle.std.specs.Prelude.{is_some, Option, if◌then◌else◌}
use Rattle.cvc_law.specs.declared.interval.Fixed.{Fixed}
use Rattle.cvc_law.specs.Conduction.{given}
use Rattle.cvc_law.specs.Reach.{device_at}
use Rattle.cvc_field.specs.Runs.{IsGiving, MayGive, debt_from}
use Rattle.cvc_field.proofs.Going.{goes_nowhere, notes_nothing, notes_on}
use Rattle.cvc_field.proofs.Giving.{skips_declared, skips_nothing, given_million, value_back, may_give, gave_slot, marks_fan, fan_marked}
use Rattle.cvc_field.proofs.field.Field.give_slot.Goals as goal
use Rattle.cvc_field.proofs.field.Field.give_slot.Goals.{After-widen}

pub returns-then-is_some-clause-giving : goal.returns-then-is_some-clause-giving
returns-then-is_some-clause-giving c = let n = c.args.self.now.circuit.now in skips_declared n c.args.d c.args.reads.now c.args.slot c.target-net.result.0 c.args.spare c.args.seat.now.me.0.actor c.target-net.ensures.net
    (ap (λ (o : Option Fixed). is_some o) (sym c.fixed.ensures) ∙ (sym c.is_some.ensures ∙ c.if-is_some.true)) c.requires.giving

pub returns-then-is_some-clause-goes : goal.returns-then-is_some-clause-goes
returns-then-is_some-clause-goes c = notes_nothing c.args.seat.now.me.0 c.args.seat.now.me.0 c.args.tray.now.items c.requires.room (goes_nowhere c.args.seat.now.me.0)

pub returns-in_default-clause-giving : goal.returns-in_default-clause-giving
returns-in_default-clause-giving c = let n = c.args.self.now.circuit.now in skips_nothing n c.args.d c.args.reads.now c.args.slot c.args.spare c.args.seat.now.me.0.actor c.requires.slot
    (sym c.gives.ensures ∙ c.in_default.is) c.requires.giving

pub returns-in_default-clause-goes : goal.returns-in_default-clause-goes
returns-in_default-clause-goes c = notes_nothing c.args.seat.now.me.0 c.args.seat.now.me.0 c.args.tray.now.items c.requires.room (goes_nowhere c.args.seat.now.me.0)

pub widen-requires-clause-may : goal.widen-requires-clause-may
widen-requires-clause-may c = let n = c.args.self.now.circuit.now in
    let is : given n (device_at n c.args.d.0) c.args.slot c.args.reads.now ≡ Some c.in-Some.value = sym c.gives.ensures ∙ c.in-Some.is in
    subst (λ (z : ℤ). MayGive n c.args.d c.args.slot z c.args.seat.now.me.0.actor) (sym (value_back c.in-Some.value (given_million n c.floor-floor.ensures.in_million (device_at n c.args.d.0) c.args.slot c.args.reads.now c.in-Some.value is)))
    (may_give n c.args.d c.args.reads.now c.args.slot c.target-net.result.0 c.in-Some.value c.args.spare c.args.seat.now.me.0.actor c.target-net.ensures.net (ap (λ (o : Option Fixed). is_some o) (sym c.fixed.ensures) ∙ (sym c.is_some.ensures ∙ c.if-is_some.false)) is c.requires.giving)

-- the slot was given
given_then : (c : After-widen) → let n = c.args.self.now.circuit.now in IsGiving n c.args.d c.args.reads.now (c.args.slot + 1) (if c.widen.result then debt_from n c.target-net.result.0 0 else None) c.args.spare c.widen.new.seat.me.0.actor
given_then c = let n = c.args.self.now.circuit.now in gave_slot n c.args.d c.args.reads.now c.args.slot c.args.spare (if c.widen.result then debt_from n c.target-net.result.0 0 else None) c.args.seat.now.me.0.actor c.widen.new.seat.me.0.actor c.requires.slot c.requires.giving c.widen.ensures.actor

pub returns-then-not-widen-clause-giving : goal.returns-then-not-widen-clause-giving
returns-then-not-widen-clause-giving c = let n = c.args.self.now.circuit.now in
    subst (λ (b : Bool). IsGiving n c.args.d c.args.reads.now (c.args.slot + 1) (if b then debt_from n c.target-net.result.0 0 else None) c.args.spare c.widen.new.seat.me.0.actor) c.if-not-widen.true (given_then (goal.at.returns-then-not-widen-clause-giving c).After-widen)

pub returns-then-not-widen-clause-goes : goal.returns-then-not-widen-clause-goes
returns-then-not-widen-clause-goes c = notes_nothing c.args.seat.now.me.0 c.widen.new.seat.me.0 c.args.tray.now.items c.requires.room c.widen.ensures.goes

pub mark_fan-requires-clause-marking : goal.mark_fan-requires-clause-marking
mark_fan-requires-clause-marking c = let n = c.args.self.now.circuit.now in marks_fan n c.args.d c.args.reads.now (c.args.slot + 1) c.target-net.result.0 c.args.spare c.widen.new.seat.me.0.actor
    (subst (λ (b : Bool). IsGiving n c.args.d c.args.reads.now (c.args.slot + 1) (if b then debt_from n c.target-net.result.0 0 else None) c.args.spare c.widen.new.seat.me.0.actor) c.if-not-widen.false (given_then (goal.at.mark_fan-requires-clause-marking c).After-widen))

pub returns-clause-giving : goal.returns-clause-giving
returns-clause-giving c = let n = c.args.self.now.circuit.now in fan_marked n c.args.d c.args.reads.now (c.args.slot + 1) (if c.widen.result then debt_from n c.target-net.result.0 0 else None) c.args.spare c.mark_fan.result c.widen.new.seat.me.0.actor c.mark_fan.new.seat.me.0.actor (given_then (goal.at.returns-clause-giving c).After-widen) c.mark_fan.ensures.actor

pub returns-clause-goes : goal.returns-clause-goes
returns-clause-goes c = notes_on c.args.seat.now.me.0 c.widen.new.seat.me.0 c.mark_fan.new.seat.me.0 c.args.tray.now.items c.args.tray.now.items c.mark_fan.new.tray.items (notes_nothing c.args.seat.now.me.0 c.widen.new.seat.me.0 c.args.tray.now.items c.requires.room c.widen.ensures.goes) c.mark_fan.ensures.goes
