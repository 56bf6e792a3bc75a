use Rattle.std.proofs.Common.{◌≡◌, ℕ, ◌≤◌, Bool, true, false, List, length, take, Some, sym, ap, subst, ◌∙◌, arith}
use Rattle.std.specs.Prelude.{if◌then◌else◌}
use Rattle.std.specs.Option.{option_map}
use Rattle.std.specs.Borrow.{Bor}
use Rattle.cvc_cdl.specs.Building.{is_among}
use Rattle.cvc_plan.specs.Pins.{IsPin}
use Rattle.cvc_plan.proofs.Growing.{grows_length}
use Rattle.cvc_plan.proofs.Pinned.{among_globals, front_stays, past_globals}
use Rattle.cvc_plan.proofs.pins.port_plan.Goals as goal

abbrev text_of : Bor (List ℕ) → List ℕ
text_of t = t.now

pub returns-then-name-globals-clause-plan : goal.returns-then-name-globals-clause-plan
returns-then-name-globals-clause-plan c =
    let old = c.args.names.now in
    let new = c.number.new.names in
    let g = c.args.globals in
    let port = c.args.port.now in
    let e = c.in_ok-name.ensures in
    let long : g ≤ length new = omega (arith, c.requires, grows_length old new e.grows) in
    let among : is_among (take g old) port ≡ true = sym (λ i. is_among (front_stays old new g e.grows c.requires i) (e.text i)) ∙ among_globals new g c.in_ok-name.name e.apart long e.within c.if-name-globals.true in
    (port, ap (λ (b : Bool). if b then Some port else option_map text_of c.args.net) among, (e.within, e.text, among))

pub returns-in_ok-pin_of-in-Some-clause-plan : goal.returns-in_ok-pin_of-in-Some-clause-plan
returns-in_ok-pin_of-in-Some-clause-plan c =
    let old = c.args.names.now in
    let new = c.number.new.names in
    let g = c.args.globals in
    let port = c.args.port.now in
    let e = c.in_ok-name.ensures in
    let long : g ≤ length new = omega (arith, c.requires, grows_length old new e.grows) in
    let past : is_among (take g old) port ≡ false = sym (λ i. is_among (front_stays old new g e.grows c.requires i) (e.text i)) ∙ past_globals new g c.in_ok-name.name e.apart long e.within (omega (arith, c.if-name-globals.false)) in
    let pin = subst (λ gs. IsPin c.pin_of.new.names gs c.args.ports.now c.in-Some.net.now c.in_ok-pin_of-in-Some.field-0) (front_stays old new g e.grows c.requires) c.in_ok-pin_of-in-Some.ensures.pin in
    (c.in-Some.net.now, ap (λ (b : Bool). if b then Some port else option_map text_of c.args.net) past ∙ ap (option_map text_of) c.in-Some.is, pin)

pub returns-in-None-clause-plan : goal.returns-in-None-clause-plan
returns-in-None-clause-plan c =
    let old = c.args.names.now in
    let new = c.number.new.names in
    let g = c.args.globals in
    let port = c.args.port.now in
    let e = c.in_ok-name.ensures in
    let long : g ≤ length new = omega (arith, c.requires, grows_length old new e.grows) in
    let past : is_among (take g old) port ≡ false = sym (λ i. is_among (front_stays old new g e.grows c.requires i) (e.text i)) ∙ past_globals new g c.in_ok-name.name e.apart long e.within (omega (arith, c.if-name-globals.false)) in
    (e.within, e.text, ap (λ (b : Bool). if b then Some port else option_map text_of c.args.net) past ∙ ap (option_map text_of) c.in-None.is)
