-- A circuit of a flat list has its nets and its devices, each with the same pins.
use Rattle.std.proofs.Common.{◌≡◌, Bool, true, false, List, [], ◌∷◌, length, map, refl, sym, ap, subst, ◌∙◌}
use Rattle.std.specs.Prelude.{Option, Some, None, Result, Ok, Err, slice_get, if◌then◌else◌}
use Rattle.cvc_base.specs.declared.cause.Cause.TheVariants.{WrongKind}
use Rattle.cvc_base.specs.declared.fault.Fault.{Fault}
use Rattle.cvc_base.specs.Verdicts.{in_front, rows_or_fault}
use Rattle.cvc_flat.specs.Flat.{FlatDevice, FlatList}
use Rattle.cvc_law.specs.Bound.{IsBound, pins_of_device}
use Rattle.cvc_law.specs.Network.{Network}
use Rattle.cvc_law.specs.declared.device.Device.{Device}
use Rattle.cvc_law.specs.declared.interval.Fixed.{Fixed}
use Rattle.cvc_model.specs.declared.models.Choice.{Choice}
use Rattle.cvc_model.specs.declared.models.Choice.TheVariants.{Chosen, Nothing, WordMet}
use Rattle.cvc_model.specs.declared.row.ModelRow.{ModelRow}
use Rattle.cvc_bind.specs.Devices.{at_card, device_choice, device_of, devices_of, fits, with_choice, with_row}

module _ (rows : List ModelRow) (d : FlatDevice) (x : Device) where
  by_letter : (row : ModelRow) (b : Bool) → at_card d.line (if b then Ok record { kind = row.kind; pins = record { items = d.pins }; volts = row.volts } else Err WrongKind) ≡ Ok x → x.pins.items ≡ d.pins
  by_letter row true e =
      let same : record { kind = row.kind; pins = record { items = d.pins }; volts = row.volts } ≡ x = cc in subst (λ (y : Device). y.pins.items ≡ d.pins) same refl
  by_letter row false e = cc

  by_row : (o : Option ModelRow) → at_card d.line (with_row d o) ≡ Ok x → x.pins.items ≡ d.pins
  by_row None e = cc
  by_row (Some row) e = by_letter row (fits d.letter row.kind) e

  by_choice : (choice : Choice) → at_card d.line (with_choice rows d choice) ≡ Ok x → x.pins.items ≡ d.pins
  by_choice Nothing e = cc
  by_choice WordMet e = cc
  by_choice (Chosen place) e = by_row (slice_get rows place) e

  same_pins : device_of rows d ≡ Ok x → x.pins.items ≡ d.pins
  unfolding device_of
  same_pins e = by_choice (device_choice rows d) e

all_pins : (rows : List ModelRow) (ds : List FlatDevice) (devices : List Device) → rows_or_fault (map (device_of rows) ds) ≡ Ok devices → map pins_of_device devices ≡ map (λ (d : FlatDevice). d.pins) ds
unfolding rows_or_fault
all_pins rows [] devices e = let none : [] ≡ devices = cc in ap (map pins_of_device) (sym none)
all_pins rows (d ∷ ds) devices e = by (device_of rows d) refl (rows_or_fault (map (device_of rows) ds)) refl (all_pins rows ds) e
  where
    by : (one : Result Device Fault) → device_of rows d ≡ one → (rest : Result (List Device) Fault) → rows_or_fault (map (device_of rows) ds) ≡ rest
        → ((xs : List Device) → rows_or_fault (map (device_of rows) ds) ≡ Ok xs → map pins_of_device xs ≡ map (λ (f : FlatDevice). f.pins) ds) → in_front one rest ≡ Ok devices
        → map pins_of_device devices ≡ d.pins ∷ map (λ (f : FlatDevice). f.pins) ds
    by (Ok x) at (Ok xs) rest later h =
        let whole : x ∷ xs ≡ devices = cc in
        ap (map pins_of_device) (sym whole) ∙ ap (λ p. p ∷ map pins_of_device xs) (same_pins rows d x at) ∙ ap (λ ps. d.pins ∷ ps) (later xs rest)
    by (Ok x) at (Err fault) rest later h = cc
    by (Err fault) at rest rests later h = cc

pub bound : (f : FlatList) (models : List ModelRow) (fixed : List (Option Fixed)) (devices : List Device) (c : Network) → devices_of f models ≡ Ok devices → length fixed ≡ length f.nets
    → c ≡ record { fixed = fixed; devices = devices } → IsBound (length f.nets) (map (λ (d : FlatDevice). d.pins) f.devices) c
bound f models fixed devices c made sized e =
    subst (IsBound (length f.nets) (map (λ (d : FlatDevice). d.pins) f.devices)) (sym e) record { every_net = sized; every_device = all_pins models f.devices devices made }
