use Rattle.std.proofs.Common.{◌<◌, length, refl, ap, arith}
use Rattle.std.proofs.lemmas.Option.{slice_get_read}
use Rattle.cvc_law.specs.Network.{devices}
use Rattle.cvc_law.proofs.circuit.Circuit.device.Goals as goal

pub returns-clause-sound : goal.returns-clause-sound
returns-clause-sound c =
    let inside : c.args.d.0 < length c.self.inside.devices.items = omega (arith, ap devices c.self.view_is) in
    rw (← c.self.view_is) (c.self.invariant.circuit.sound c.args.d.0 c.index.result.now (slice_get_read c.self.inside.devices.items _ c.args.d.0 c.index.result.now refl inside c.index.ensures))
