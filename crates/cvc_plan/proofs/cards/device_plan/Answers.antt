use Rattle.std.proofs.Common.{take, refl, subst, ◌∙◌, arith}
use Rattle.cvc_plan.specs.Pins.{ArePins}
use Rattle.cvc_plan.proofs.Growing.{grows_length, grows_text, grows_twice}
use Rattle.cvc_plan.proofs.Pinned.{front_stays}
use Rattle.cvc_plan.proofs.Planned.{device_grows, device_listed, device_sound, pins_stay}
use Rattle.cvc_plan.proofs.cards.device_plan.Goals as goal

pub device_pins-requires-clause-below : goal.device_pins-requires-clause-below
device_pins-requires-clause-below c = omega (arith, c.requires.below, grows_length c.args.cards.now.names c.number.new.names c.in_ok-name.ensures.grows)

pub returns-clause-grows : goal.returns-clause-grows
returns-clause-grows c =
    let old = c.args.cards.now.names in
    let first = c.number.new.names in
    let mid = c.device_pins.new.names in
    let new = c.number-2.new.names in
    let grown = grows_twice old mid new (grows_twice old first mid c.in_ok-name.ensures.grows c.in_ok-pins.ensures.grows) c.in_ok-model.ensures.grows in
    device_grows c.args.cards.now _ _ grown refl c.in_ok-push.ensures.items

pub returns-clause-sound : goal.returns-clause-sound
returns-clause-sound c =
    let old = c.args.cards.now.names in
    let first = c.number.new.names in
    let mid = c.device_pins.new.names in
    let new = c.number-2.new.names in
    let later = grows_twice first mid new c.in_ok-pins.ensures.grows c.in_ok-model.ensures.grows in
    device_sound c.args.cards.now _ _ (grows_twice old first new c.in_ok-name.ensures.grows later) refl c.in_ok-push.ensures.items (omega (arith, c.in_ok-name.ensures.within, grows_length first new later)) c.requires.sound

pub returns-clause-plan : goal.returns-clause-plan
returns-clause-plan c = λ n is.
    let old = c.args.cards.now.names in
    let first = c.number.new.names in
    let mid = c.device_pins.new.names in
    let new = c.number-2.new.names in
    let g = c.args.globals in
    let card = c.args.card.now in
    let ports = c.args.ports.now in
    let pins = c.in_ok-pins.pins.items in
    let later = grows_twice first mid new c.in_ok-pins.ensures.grows c.in_ok-model.ensures.grows in (
      device_listed _ c.args.cards.now.devices.items card c.in_ok-place.place _ record { pins = c.in_ok-pins.pins; model = c.in_ok-model.model } c.in_ok-push.ensures.items (omega (arith, c.in_ok-place.ensures, c.len.ensures))
          record {
            letter = refl;
            line = refl;
            own = omega (arith, c.in_ok-name.ensures.within, grows_length first new later);
            name = grows_text first new c.in_ok-name.name later c.in_ok-name.ensures.within ∙ c.in_ok-name.ensures.text ∙ c.bytes.ensures;
            known = c.in_ok-model.ensures.within;
            model = c.in_ok-model.ensures.text ∙ c.bytes-2.ensures;
          },
      pins_stay mid new _ ports card.nets pins c.in_ok-model.ensures.grows
          (subst (λ gs. ArePins mid gs ports card.nets pins) (front_stays old first g c.in_ok-name.ensures.grows c.requires.below ∙ is)
          (subst (λ ns. ArePins mid (take g first) ports ns pins) c.as_slice.ensures c.in_ok-pins.ensures.pins)),
    )
