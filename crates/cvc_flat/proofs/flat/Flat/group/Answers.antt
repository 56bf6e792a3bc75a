use Rattle.std.proofs.Common.{◌<◌, length, sym, ap, subst, arith}
use Rattle.std.proofs.lemmas.List.{length-map}
use Rattle.cvc_flat.specs.declared.rows.DeviceRow.{DeviceRow}
use Rattle.cvc_flat.specs.Flat.{FlatDevice}
use Rattle.cvc_flat.specs.Held.{IsGroup, Held}
use Rattle.cvc_flat.specs.Tables.{Tables}
use Rattle.cvc_flat.proofs.Groups.{group_of_row}
use Rattle.cvc_flat.proofs.flat.Flat.group.Goals as goal

pub returns : goal.returns
returns c =
    let f = c.self.inside in
    let t : Tables = record { top = f.top; names = f.names; globals = f.globals; parts = f.parts.items; cards = f.cards.items; groups = f.groups.items; instances = f.instances.items; devices = f.devices.items; nets = f.nets.items } in
    let row = c.index.result.now in
    let inside : c.args.d.0 < length f.devices.items = omega (arith, c.requires, ap (λ (h : Held). length h.list.devices) c.self.view_is, length-map {A = DeviceRow} {B = FlatDevice}) in
    let below = c.self.invariant.0.devices c.args.d.0 row inside in
    subst (λ (h : Held). IsGroup h c.args.d.0 row.group) c.self.view_is
    (group_of_row t c.args.d.0 row inside c.index.ensures (subst (λ (r : DeviceRow). r.group < length f.groups.items) (sym c.index.ensures) below.2))
