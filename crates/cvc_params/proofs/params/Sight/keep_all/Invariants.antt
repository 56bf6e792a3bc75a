use Rattle.std.proofs.Common.{vec_len}
use Rattle.std.specs.Prelude.{All}
use Rattle.cvc_params.specs.Sights.{IsAnsweredBy, IsSight, SeesTheSame}
use Rattle.cvc_params.proofs.params.Sight.keep_all.Given as goal

abbrev pub invariant-loop-asked : goal.invariant-loop-asked
invariant-loop-asked l = record {
  sight : IsSight l.self;
  same : SeesTheSame l.initial.self l.self;
  answered : All (IsAnsweredBy l.self.netlist.now l.self.levels.items l.end) l.rest.items;
}

abbrev pub decreases-loop-asked : goal.decreases-loop-asked
decreases-loop-asked l = vec_len l.rest
