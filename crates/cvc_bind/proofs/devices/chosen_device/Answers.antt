use Rattle.std.proofs.Common.{◌≡◌, ◌<◌, true, length, arith}
use Rattle.std.proofs.lemmas.Option.{slice_get_read}
use Rattle.cvc_bind.specs.Devices.{fits}
use Rattle.cvc_flat.specs.Held.{device}
use Rattle.cvc_bind.proofs.Sound.{sound_device}
use Rattle.cvc_bind.proofs.devices.chosen_device.Goals as goal

pub returns-clause-sound : goal.returns-clause-sound
returns-clause-sound c =
    let inside : c.in-Chosen.place < length c.args.models.now = omega arith in
    let serves : fits (device c.args.flat.now.list c.args.d.0).letter c.get-row.result.now.kind ≡ true = cc in
    sound_device (length c.args.flat.now.list.nets) (device c.args.flat.now.list c.args.d.0).letter c.get-row.result.now.kind c.pins.result.items c.get-row.result.now.volts
    serves c.pins.ensures.count c.pins.ensures.nets
    (c.requires.models.each c.in-Chosen.place c.get-row.result.now (slice_get_read c.args.models.now (length c.args.models.now) c.in-Chosen.place c.get-row.result.now (cc) inside c.get-row.ensures))
