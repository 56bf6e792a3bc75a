use Rattle.std.proofs.Common.{◌≡◌, take}
use Rattle.std.specs.Prelude.{Some}
use Rattle.cvc_params.specs.Sights.{IsSight, SeesTheSame}
use Rattle.cvc_params.specs.Levels.{instance_of}
use Rattle.cvc_params.specs.Params.{params_in}
use Rattle.cvc_params.proofs.params.Sight.params_of.Given as goal

abbrev pub invariant-loop-pair : goal.invariant-loop-pair
invariant-loop-pair l = record {
  sight : IsSight l.self;
  same : SeesTheSame l.initial.self l.self;
  found : params_in l.initial.self.netlist.now (instance_of l.initial.self.levels.items) (take l.pair-index l.pairs) ≡ Some l.params;
}
