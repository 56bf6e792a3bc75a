use Rattle.std.proofs.Common.{◌≡◌, ℕ, suc, List}
use Rattle.std.specs.Prelude.{All}
use Rattle.cvc_params.specs.Sights.{Ends}
use Rattle.cvc_params.specs.Levels.{instance_of}
use Rattle.cvc_params.specs.Params.{last_text, pairs_above}
use Rattle.cvc_params.specs.Seen.{IsOnWay, use_in}
use Rattle.cvc_params.proofs.Answering.{IsAskedFor}
use Rattle.cvc_params.proofs.params.Sight.follow.Given as goal

abbrev pub invariant-chain : goal.invariant-chain
invariant-chain l = record {
  last : last_text l.self.netlist.now (suc l.left) (use_in l.self.levels.items l.spot)
      ≡ last_text l.self.netlist.now (suc (pairs_above l.self.netlist.now (instance_of l.self.levels.items))) (use_in l.self.levels.items l.fn.start);
  ends : (t : List ℕ) → Ends l.self.netlist.now (use_in l.self.levels.items l.spot) t → Ends l.self.netlist.now (use_in l.self.levels.items l.fn.start) t;
  inside : IsOnWay l.self.levels.items l.spot.site;
  asked : All (IsAskedFor l.self.netlist.now l.self.levels.items (use_in l.self.levels.items l.spot)) l.trail.items;
}

abbrev pub decreases-chain : goal.decreases-chain
decreases-chain l = l.left
