use Rattle.std.proofs.Common.{◌≡◌}
use Rattle.cvc_gen.specs.Stages.{netlist_text}
use Rattle.cvc_gen.proofs.stages.netlist.Given as goal

abbrev pub invariant-loop-stage : goal.invariant-loop-stage
invariant-loop-stage l = l.out.items ≡ netlist_text l.seed l.stage
