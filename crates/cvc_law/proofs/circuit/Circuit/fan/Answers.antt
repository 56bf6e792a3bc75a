use Rattle.std.proofs.Common.{◌≡◌, ◌<◌, ◌+◌, ◌-◌, length, map, take, drop, get_or, ap, arith}
use Rattle.std.proofs.lemmas.List.{get_or_read}
use Rattle.cvc_base.specs.declared.ids.DevId.{DevId}
use Rattle.cvc_law.specs.Network.{nets, touching_from}
use Rattle.cvc_law.proofs.CircuitParts.{fan_inside}
use Rattle.cvc_law.proofs.circuit.Circuit.fan.Goals as goal

pub returns-clause-inside : goal.returns-clause-inside
returns-clause-inside c =
    let net : c.args.n.0 < length c.self.inside.fixed.items = omega (arith, ap nets c.self.view_is) in
    let start : c.index.result.now ≡ get_or c.self.inside.fans.offsets.items c.args.n.0 0 = get_or_read c.self.inside.fans.offsets.items c.args.n.0 c.index.result.now (omega (arith, c.self.invariant.fans.every_net)) c.index.ensures 0 in
    let end : c.index-2.result.now ≡ get_or c.self.inside.fans.offsets.items (c.args.n.0 + 1) 0 = get_or_read c.self.inside.fans.offsets.items (c.args.n.0 + 1) c.index-2.result.now (omega (arith, c.self.invariant.fans.every_net)) c.index-2.ensures 0 in
    let is : map (λ (d : DevId). d.0) (take (c.index-2.result.now - c.index.result.now) (drop c.index.result.now c.deref.result.now)) ≡ touching_from c.args.n.0 0 c.self.inside.devices.items = rw (start, end, c.deref.ensures.value) (c.self.invariant.fans.fan c.args.n.0 net) in
    rw (← c.self.view_is) (fan_inside c.args.n.0 (take (c.index-2.result.now - c.index.result.now) (drop c.index.result.now c.deref.result.now)) c.self.inside.devices.items is)
