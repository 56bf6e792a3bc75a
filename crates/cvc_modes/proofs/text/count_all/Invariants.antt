use Rattle.std.proofs.Common.{◌≡◌, ◌≤◌, ◌*◌, take}
use Rattle.cvc_modes.specs.Text.{total}
use Rattle.cvc_modes.proofs.text.count_all.Given as goal

abbrev pub invariant-loop-mode : goal.invariant-loop-mode
invariant-loop-mode l = record {
  count : l.count ≡ total (take l.mode-index l.modes);
  few : l.count ≤ 6000000 * l.mode-index;
}
