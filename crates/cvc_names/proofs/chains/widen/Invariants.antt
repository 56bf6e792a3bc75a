use Rattle.std.proofs.Common.{◌≡◌, length}
use Rattle.cvc_names.specs.Chains.{AreLinked}
use Rattle.cvc_names.proofs.chains.widen.Given as goal

abbrev pub invariant-loop-place : goal.invariant-loop-place
invariant-loop-place l = record {
  linked : AreLinked l.hashes l.wider.items l.links l.place;
  size : length l.wider.items ≡ length l.initial.wider.items;
}
