use Rattle.std.proofs.Common.{sym, ap, ◌∙◌, ◌++◌}
use Rattle.cvc_gen.specs.Stages.{line, stage_line}
use Rattle.cvc_gen.proofs.Lines.{netlist_push}
use Rattle.cvc_gen.proofs.stages.netlist.Goals as goal

pub loop-stage-preserved : goal.loop-stage-preserved
loop-stage-preserved c =
    let more = ap (λ t. t ++ line (stage_line c.args.seed c.loop-stage.stage)) c.loop-stage.invariant in
    c.in_ok-put_stage.ensures ∙ more ∙ sym (netlist_push c.args.seed c.loop-stage.stage)
