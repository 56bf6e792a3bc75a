use Rattle.std.proofs.Common.{◌≡◌, ◌<◌, ℕ, length}
use Rattle.cvc_law.specs.Network.{nets, fixed_at}
use Rattle.cvc_law.specs.Family.{interval_at}
use Rattle.cvc_serial.specs.Starting.{started}
use Rattle.cvc_serial.proofs.start.starting.Given as goal

abbrev pub invariant-loop-n : goal.invariant-loop-n
invariant-loop-n l = record {
  every_net : length l.bounds.items ≡ nets l.circuit;
  at : (m : ℕ) → m < l.n → interval_at l.bounds.items m ≡ started l.circuit (fixed_at l.circuit m) (interval_at l.family m);
}
