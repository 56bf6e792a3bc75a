use Rattle.std.proofs.Common.{List, [], length, map, take, refl, sym, ap, subst, ◌∙◌, arith}
use Rattle.std.proofs.lemmas.List.{take_all}
use Rattle.cvc_plan.specs.Nets.{Net}
use Rattle.cvc_plan.specs.Pins.{pin_row}
use Rattle.cvc_flat.specs.Making.{AreNetsWithin, NumbersPins, known_nets}
use Rattle.cvc_flat.specs.Tables.{net_at, ways_of}
use Rattle.cvc_flat.proofs.Joined.{pin_next}
use Rattle.cvc_flat.proofs.Numbered.{pins_more, pins_none}
use Rattle.cvc_flat.proofs.steps.pins_of.Goals as goal

pub loop-pin-init : goal.loop-pin-init
loop-pin-init c = record {
  count = ap length c.new-ids.ensures;
  ids = λ p rows are within. subst (λ ids. NumbersPins p rows c.args.nets.now c.args.nets.now [] ids) (sym c.new-ids.ensures) (pins_none p rows are.apart are.ways c.args.nets.now are.within);
}

pub loop-pin-preserved : goal.loop-pin-preserved
loop-pin-preserved c =
    let i = c.args.instance in
    let ports = c.args.ports.now in
    let items = c.as_slice-pin-items.result.now in
    let j = c.loop-pin.pin-index in
    let old = c.args.nets.now in
    let row = c.net_of_pin.result in
    record {
      count = omega (arith, c.loop-pin.invariant.count, c.push.ensures.len);
      ids = λ p rows are within.
          let w = pin_next p rows i ports items j _ row c.loop-pin-test.true c.net_of_pin.ensures within in
          let done : List Net = known_nets p.cards rows (map (pin_row i ports) (take j items)) in
          subst (λ ns. NumbersPins p rows old c.number.new.self ns c.push.new.self.items) (sym w.0)
          (pins_more p rows are.apart are.ways old c.loop-pin.nets c.number.new.self done (net_at p.cards.names p.cards.parts.items (ways_of rows) row) c.loop-pin.ids.items c.push.new.self.items row c.in_ok-place.place record { 0 = c.in-Ok.number }
          (c.loop-pin.invariant.ids p rows are within) w.1 refl c.in_ok-place.ensures.nets c.in_ok-place.ensures.place (λ k. record { 0 = c.in-Ok.ensures.1 k }) c.push.ensures.items);
    }

pub returns : goal.returns
returns c = λ p rows are within.
    let i = c.args.instance in
    let ports = c.args.ports.now in
    let same = c.as_slice-pin-items.ensures.value in
    let items = c.as_slice-pin-items.result.now in
    subst (λ l. NumbersPins p rows c.args.nets.now c.loop-pin.nets (known_nets p.cards rows (map (pin_row i ports) l)) c.loop-pin.ids.items)
    (take_all c.loop-pin.pin-index items (omega (arith, c.loop-pin-test.false)) ∙ same)
    (c.loop-pin.invariant.ids p rows are (subst (λ l. AreNetsWithin p rows (map (pin_row i ports) l)) (sym same) within))
