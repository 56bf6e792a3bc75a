use Rattle.std.proofs.Common.{◌≡◌, take}
use Rattle.cvc_modes.specs.Text.{total}
use Rattle.cvc_top.proofs.modes.ModesToldTold.status.Given as goal

abbrev pub invariant-loop-mode : goal.invariant-loop-mode
invariant-loop-mode l = total (take l.mode-index l.self.results.now) ≡ 0
