-- Devices of one group have one model and the same parameters.
use Rattle.std.proofs.Common.{◌≡◌, ℕ, ◌<◌, length, get_or, sym, ap, ◌∙◌, arith}
use Rattle.std.specs.Prelude.{slice_index}
use Rattle.std.proofs.lemmas.List.{get_or-map, length-map}
use Rattle.cvc_plan.specs.Parts.{text}
use Rattle.cvc_flat.specs.declared.rows.DeviceRow.{DeviceRow}
use Rattle.cvc_flat.specs.Flat.{FlatDevice}
use Rattle.cvc_flat.specs.Held.{IsGroup, device, no_device}
use Rattle.cvc_flat.specs.Tables.{Tables, held_of, device_at, group_at, table_ways}

device_is : (t : Tables) (e : ℕ) (d : DeviceRow) → e < length t.devices → device (held_of t).list e ≡ device_at t (table_ways t) (get_or t.devices e d)
device_is t e d h = get_or-map (device_at t (table_ways t)) t.devices e d no_device h

group_is : (t : Tables) (e : ℕ) (d : DeviceRow) → e < length t.devices → slice_index (held_of t).groups e ≡ (get_or t.devices e d).group
group_is t e d h = get_or-map (λ (r : DeviceRow). r.group) t.devices e d 0 h

pub group_of_row : (t : Tables) (d : ℕ) (r : DeviceRow) → d < length t.devices → r ≡ get_or t.devices d r → r.group < length t.groups → IsGroup (held_of t) d r.group
group_of_row t d r h e below =
    let here : device (held_of t).list d ≡ device_at t (table_ways t) r = device_is t d r h ∙ ap (device_at t (table_ways t)) (sym e) in
    let there : (k : ℕ) → k < length (held_of t).list.devices → k < length t.devices = λ k b. omega (arith, length-map {A = DeviceRow} {B = FlatDevice}, b) in
    record {
      listed = ap (λ (x : DeviceRow). x.group) e ∙ sym (group_is t d r h);
      below = below;
      alike = λ k b same. ap (λ (x : FlatDevice). x.model) (device_is t k r (there k b))
          ∙ ap (λ g. text t.names (group_at t.groups g).model) (sym (group_is t k r (there k b)) ∙ same)
          ∙ sym (ap (λ (x : FlatDevice). x.model) here);
      same = λ k b same. ap (λ (x : FlatDevice). x.params) (device_is t k r (there k b))
          ∙ ap (λ g. (group_at t.groups g).params) (sym (group_is t k r (there k b)) ∙ same)
          ∙ sym (ap (λ (x : FlatDevice). x.params) here);
    }
