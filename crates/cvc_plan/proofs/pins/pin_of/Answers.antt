use Rattle.std.proofs.Common.{◌≡◌, ◌<◌, ◌≤◌, [], length, get_or, sym, ap, ◌∙◌, arith}
use Rattle.cvc_cdl.specs.Building.{is_among}
use Rattle.cvc_plan.proofs.Growing.{grows_length}
use Rattle.cvc_plan.proofs.Lists.{place_below, text_at_place}
use Rattle.cvc_plan.proofs.Pinned.{among_globals, front_stays, not_among, past_globals}
use Rattle.cvc_plan.proofs.pins.pin_of.Goals as goal

pub returns-then-own-globals-clause-pin : goal.returns-then-own-globals-clause-pin
returns-then-own-globals-clause-pin c =
    let old = c.args.names.now in
    let new = c.number.new.names in
    let e = c.in_ok-own.ensures in
    let long : c.args.globals ≤ length new = omega (arith, c.requires, grows_length old new e.grows) in
    let among = among_globals new c.args.globals c.in_ok-own.own e.apart long e.within c.if-own-globals.true in
    (e.within, e.text, sym (λ i. is_among (front_stays old new c.args.globals e.grows c.requires i) (e.text i)) ∙ among)

pub returns-in_ok-narrow-in-Some-clause-pin : goal.returns-in_ok-narrow-in-Some-clause-pin
returns-in_ok-narrow-in-Some-clause-pin c =
    let ports = c.args.ports.now in
    let k = c.in_ok-narrow-in-Some.field-0 in
    let at : k ≡ c.in-Some.place = omega (arith, c.in_ok-narrow-in-Some.ensures) in
    let found = sym c.find.ensures.place ∙ c.in-Some.is in
    let below = place_below ports c.args.name.now c.in-Some.place found in
    let inside : k < length ports = omega (arith, at, below) in
    (inside, ap (λ j. get_or ports j []) at ∙ text_at_place ports c.args.name.now c.in-Some.place found)

pub returns-in-None-clause-pin : goal.returns-in-None-clause-pin
returns-in-None-clause-pin c =
    let old = c.args.names.now in
    let new = c.number.new.names in
    let e = c.in_ok-own.ensures in
    let long : c.args.globals ≤ length new = omega (arith, c.requires, grows_length old new e.grows) in
    let past = past_globals new c.args.globals c.in_ok-own.own e.apart long e.within (omega (arith, c.if-own-globals.false)) in
    (e.within, e.text, sym (λ i. is_among (front_stays old new c.args.globals e.grows c.requires i) (e.text i)) ∙ past, not_among c.args.ports.now c.args.name.now (sym c.find.ensures.place ∙ c.in-None.is))
