use Rattle.std.proofs.Common.{◌≡◌, ◌++◌, length, drop}
use Rattle.std.specs.Prelude.{All}
use Rattle.cvc_expect.specs.Misses.{missed_from}
use Rattle.cvc_expect.specs.Text.{IsTellable}
use Rattle.cvc_expect.proofs.missed.missed_on.Given as goal

abbrev pub invariant-loop-place : goal.invariant-loop-place
invariant-loop-place l = record {
  so_far : l.list ++ missed_from l.family l.place (drop l.place l.nets) (drop l.place l.rows) ≡ missed_from l.family 0 l.nets l.rows;
  tellable : All (IsTellable l.rows) l.list;
  ending : l.place-end ≡ length l.rows;
}
