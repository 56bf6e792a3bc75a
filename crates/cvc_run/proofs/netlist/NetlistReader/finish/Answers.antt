use Rattle.std.proofs.lemmas.Result.{err_from_is_err_and}
use Rattle.cvc_cdl.specs.Builder.{named_top}
use Rattle.cvc_cdl.specs.Ending.{reading_of}
use Rattle.cvc_run.proofs.Feeding.{end_built, end_refused, end_stopped, end_tokens, gives_by}
use Rattle.cvc_run.proofs.netlist.NetlistReader.finish.Goals as goal

pub finish-ended-requires : goal.finish-ended-requires
finish-ended-requires c = c.requires.1.going

pub pass_lines-requires : goal.pass_lines-requires
pass_lines-requires c = end_tokens c.args.self c.requires.0 c.requires.1 c.finish-ended.new.self c.finish-ended.ensures.stands c.finish-ended.ensures.same

pub returns-in_err-pass_lines-clause-netlist : goal.returns-in_err-pass_lines-clause-netlist
returns-in_err-pass_lines-clause-netlist c = λ stream h.
    let p = err_from_is_err_and c.from_residual.result c.from_residual.ensures.1 in
    rw (p.1, p.2) (end_stopped c.args.self stream h c.finish-ended.new.self c.finish-ended.ensures.stands c.finish-ended.ensures.same (named_top c.args.top) c.in_err-pass_lines.field-0.0 c.in_err-pass_lines.ensures.fault)

pub returns-in_err-ended-clause-netlist : goal.returns-in_err-ended-clause-netlist
returns-in_err-ended-clause-netlist c = λ stream h.
    let p = err_from_is_err_and c.from_residual-in_err-ended.result c.from_residual-in_err-ended.ensures.1 in
    rw (p.1, p.2)
    (end_refused c.args.self stream h c.finish-ended.new.self c.finish-ended.ensures.stands c.finish-ended.ensures.same (named_top c.args.top) c.pass_lines.new.builder c.in_ok-pass_lines.ensures.passed c.in_err-ended.field-0.0
    c.in_err-ended.ensures.refused (c.in_err-ended.ensures.refuses stream _ h.lines))

pub returns-clause-netlist : goal.returns-clause-netlist
returns-clause-netlist c = λ stream h.
    let built = end_built c.args.self stream h c.finish-ended.new.self c.finish-ended.ensures.stands c.finish-ended.ensures.same (named_top c.args.top) c.pass_lines.new.builder c.in_ok-pass_lines.ensures.passed
    c.in_ok-ended.ensures.refused (c.in_ok-ended.ensures.refuses stream _ h.lines) in
    rw (built.2) (gives_by (reading_of built.0 (named_top c.args.top)) c.finish.result (c.finish.ensures.netlist built.0 built.1.1) (c.finish.ensures.fault built.0 built.1.1))

pub returns-clause-well_formed : goal.returns-clause-well_formed
returns-clause-well_formed c =
    let stream = c.requires.0 in
    let h = c.requires.1 in
    let built = end_built c.args.self stream h c.finish-ended.new.self c.finish-ended.ensures.stands c.finish-ended.ensures.same (named_top c.args.top) c.pass_lines.new.builder c.in_ok-pass_lines.ensures.passed
    c.in_ok-ended.ensures.refused (c.in_ok-ended.ensures.refuses stream _ h.lines) in
    c.finish.ensures.well_formed built.0 built.1.1
