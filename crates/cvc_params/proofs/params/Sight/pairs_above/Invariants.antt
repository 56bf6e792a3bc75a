use Rattle.std.proofs.Common.{◌≡◌}
use Rattle.cvc_params.specs.Params.{pairs_above}
use Rattle.cvc_params.specs.Seen.{way_to}
use Rattle.cvc_params.proofs.params.Sight.pairs_above.Given as goal

abbrev pub invariant-loop-level : goal.invariant-loop-level
invariant-loop-level l = l.count ≡ pairs_above l.self.netlist.now (way_to l.self.levels.items l.level-index)
