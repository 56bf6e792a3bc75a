use Rattle.std.proofs.Common.{ℕ, List, [], length, take, sym, ap, subst, arith}
use Rattle.std.specs.List.{AllZip}
use Rattle.std.proofs.lemmas.List.{take_all}
use Rattle.cvc_cdl.proofs.Zips.{zip_more}
use Rattle.cvc_plan.specs.Pins.{ArePins, IsPin}
use Rattle.cvc_plan.proofs.Growing.{grows_length, grows_none, grows_twice}
use Rattle.cvc_plan.proofs.Pinned.{front_stays}
use Rattle.cvc_plan.proofs.Planned.{pins_stay}
use Rattle.cvc_plan.proofs.pins.device_pins.Goals as goal

pub loop-net-init : goal.loop-net-init
loop-net-init c = record {
  grows = grows_none c.args.names.now;
  count = omega (arith, ap length c.new-pins.ensures);
  pins = subst (AllZip (IsPin c.args.names.now (take c.args.globals c.args.names.now) c.args.ports.now) []) (sym c.new-pins.ensures) tt;
}

pub pin_of-requires : goal.pin_of-requires
pin_of-requires c = omega (arith, c.requires.below, grows_length c.args.names.now c.loop-net.names c.loop-net.invariant.grows)

pub loop-net-preserved : goal.loop-net-preserved
loop-net-preserved c =
    let first = c.args.names.now in
    let old = c.loop-net.names in
    let new = c.pin_of.new.names in
    let g = c.args.globals in
    let globals : List (List ℕ) = take g first in
    let ports = c.args.ports.now in
    let nets = c.args.nets.now in
    let inv = c.loop-net.invariant in
    let pin = c.in_ok-pin_of.field-0 in
    let e = c.in_ok-pin_of.ensures in
    let is = subst (λ gs. IsPin new gs ports c.net-item.result pin) (front_stays first old g inv.grows c.requires.below) (subst (λ t. IsPin new (take g old) ports t pin) c.bytes.ensures e.pin) in
    record {
      grows = grows_twice first old new inv.grows e.grows;
      count = omega (arith, inv.count, c.push.ensures.len);
      pins = zip_more (IsPin new globals ports) nets c.loop-net.net-index c.net-item.result c.loop-net.pins.items c.push.new.self.items pin c.loop-net-test.true c.net-item.is c.push.ensures.items
          (pins_stay old new globals ports (take c.loop-net.net-index nets) c.loop-net.pins.items e.grows inv.pins) is;
    }

pub returns-clause-pins : goal.returns-clause-pins
returns-clause-pins c =
    subst (λ nets. ArePins c.loop-net.names (take c.args.globals c.args.names.now) c.args.ports.now nets c.loop-net.pins.items) (take_all c.loop-net.net-index c.args.nets.now (omega (arith, c.loop-net-test.false))) c.loop-net.invariant.pins
