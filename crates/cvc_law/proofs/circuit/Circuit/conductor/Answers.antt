use Rattle.std.proofs.Common.{◌≡◌, ◌<◌, arith, subst, ap}
use Rattle.cvc_law.specs.Network.{Network, devices, nets}
use Rattle.cvc_law.specs.Conductor.{conductor_of, IsOnNets}
use Rattle.cvc_law.specs.Reach.{device_at}
use Rattle.cvc_law.proofs.Conductors.{kept_at, kept_on_nets}
use Rattle.cvc_law.proofs.circuit.Circuit.conductor.Goals as goal

pub returns-clause-same : goal.returns-clause-same
returns-clause-same c =
    let n : Network = record { fixed = c.self.inside.fixed.items; devices = c.self.inside.devices.items } in
    let inside : c.args.d.0 < devices n = omega (arith, ap devices c.self.view_is) in
    subst (λ (m : Network). c.index.result.now ≡ conductor_of (device_at m c.args.d.0)) c.self.view_is (kept_at n c.self.inside.conductors.items c.args.d.0 c.index.result.now c.self.invariant.conductors inside c.index.ensures)

pub returns-clause-inside : goal.returns-clause-inside
returns-clause-inside c =
    let n : Network = record { fixed = c.self.inside.fixed.items; devices = c.self.inside.devices.items } in
    let inside : c.args.d.0 < devices n = omega (arith, ap devices c.self.view_is) in
    subst (λ (m : Network). IsOnNets (nets m) c.index.result.now) c.self.view_is (kept_on_nets n c.self.inside.conductors.items c.args.d.0 c.index.result.now c.self.invariant.conductors inside c.index.ensures c.self.invariant.circuit)
