use Rattle.std.proofs.Common.{◌≡◌, ◌≤◌, length, All, map, drop}
use Rattle.cvc_law.specs.Network.{IsDevice}
use Rattle.cvc_base.specs.Verdicts.{rows_or_fault}
use Rattle.cvc_bind.specs.Choices.{AreChosen}
use Rattle.cvc_bind.specs.Devices.{device_of, devices_of}
use Rattle.cvc_bind.proofs.Verdicts.{behind}
use Rattle.cvc_bind.proofs.devices.devices.Given as goal

abbrev pub invariant-loop-d : goal.invariant-loop-d
invariant-loop-d l = record {
  chosen : AreChosen l.flat l.models l.chosen.items;
  so_far : behind l.devices.items (rows_or_fault (map (device_of l.models) (drop l.d l.flat.list.devices))) ≡ devices_of l.flat.list l.models;
  counted : length l.devices.items ≡ l.d;
  limit : l.d-end ≤ 500000;
  ending : l.d-end ≡ length l.flat.list.devices;
  sound : All (IsDevice (length l.flat.list.nets)) l.devices.items;
}
