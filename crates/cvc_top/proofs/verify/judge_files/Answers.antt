use Rattle.std.proofs.Common.{inl, inr, List, ℕ, arith}
use Rattle.std.proofs.lemmas.Result.{err_from_is_err_and}
use Rattle.cvc_cdl.specs.Builder.{named_top}
use Rattle.cvc_run.specs.Said.{whole}
use Rattle.cvc_run.proofs.Loading.{read_through}
use Rattle.cvc_run.proofs.Runs.{later_failed}
use Rattle.cvc_run.proofs.Shelving.{rose_later}
use Rattle.cvc_serial.specs.declared.log.LogLine.{LogLine}
use Rattle.cvc_top.specs.declared.verify.Judgement.{Judgement}
use Rattle.cvc_top.specs.Certificates.{claim_readings, verify_files}
use Rattle.cvc_top.proofs.Expecting.{unread_any}
use Rattle.cvc_top.proofs.Verifying.{log_accepted, stands_judged, stops_at_log, stops_at_report}
use Rattle.cvc_top.proofs.verify.judge_files.Goals as goal

pub returns-in_err-lines-clause-told : goal.returns-in_err-lines-clause-told
returns-in_err-lines-clause-told g c =
    let p = err_from_is_err_and c.from_residual-in_err-lines.result c.from_residual-in_err-lines.ensures.1 in
    let x = verify_files c.args.netlist.now c.args.models.now c.args.power.now c.args.log.now c.args.report.now (named_top c.args.top) c.args.nets in
    let w = whole c.in_ok-bound.bound.flat.list c.in_ok-bound.bound.circuit in
    rw (p.1, p.2)
    (stops_at_log (g.S.Shelf.files c.args.shelf.now) x w c.in_ok-bound.ensures.said c.in_err-lines.field-0.0 c.in_err-lines.ensures.own (rw c.bind_files.ensures.shelf.files at c.in_err-lines.ensures.log))

pub returns-in_err-lines-clause-cause : goal.returns-in_err-lines-clause-cause
returns-in_err-lines-clause-cause g c =
    let p = err_from_is_err_and c.from_residual-in_err-lines.result c.from_residual-in_err-lines.ensures.1 in
    let x = verify_files c.args.netlist.now c.args.models.now c.args.power.now c.args.log.now c.args.report.now (named_top c.args.top) c.args.nets in
    let w = whole c.in_ok-bound.bound.flat.list c.in_ok-bound.bound.circuit in
    let files = g.S.Shelf.files c.args.shelf.now in
    let before = g.S.Shelf.faults c.args.shelf.now in
    let between = g.S.Shelf.faults c.bind_files.new.shelf in
    let after = g.S.Shelf.faults c.read_log_file.new.shelf in
    rw (p.1, p.2)
    (read_through (List LogLine) Judgement c.in_err-lines.field-0.0 _ _
    (λ rose. later_failed files x.top x.netlist x.models x.power w (claim_readings files x) before after c.in_ok-bound.ensures.said
    (inl (rose_later (before x.log) (between x.log) (after x.log) (c.bind_files.ensures.shelf.counts x.log) rose)))
    c.in_err-lines.ensures.cause)

pub returns-in_err-claimed-clause-told : goal.returns-in_err-claimed-clause-told
returns-in_err-claimed-clause-told g c =
    let p = err_from_is_err_and c.from_residual-in_err-claimed.result c.from_residual-in_err-claimed.ensures.1 in
    let x = verify_files c.args.netlist.now c.args.models.now c.args.power.now c.args.log.now c.args.report.now (named_top c.args.top) c.args.nets in
    let w = whole c.in_ok-bound.bound.flat.list c.in_ok-bound.bound.circuit in
    rw (p.1, p.2)
    (stops_at_report (g.S.Shelf.files c.args.shelf.now) x w c.in_ok-bound.ensures.said c.in_ok-lines.lines (rw c.bind_files.ensures.shelf.files at c.in_ok-lines.ensures.log)
    c.in_err-claimed.field-0.0 c.in_err-claimed.ensures.own (rw (c.read_log_file.ensures.shelf.files, c.bind_files.ensures.shelf.files) at c.in_err-claimed.ensures.report))

pub returns-in_err-claimed-clause-cause : goal.returns-in_err-claimed-clause-cause
returns-in_err-claimed-clause-cause g c =
    let p = err_from_is_err_and c.from_residual-in_err-claimed.result c.from_residual-in_err-claimed.ensures.1 in
    let x = verify_files c.args.netlist.now c.args.models.now c.args.power.now c.args.log.now c.args.report.now (named_top c.args.top) c.args.nets in
    let w = whole c.in_ok-bound.bound.flat.list c.in_ok-bound.bound.circuit in
    let files = g.S.Shelf.files c.args.shelf.now in
    let before = g.S.Shelf.faults c.args.shelf.now in
    let between = g.S.Shelf.faults c.read_log_file.new.shelf in
    let after = g.S.Shelf.faults c.read_report_file.new.shelf in
    let logged = log_accepted files x c.in_ok-lines.lines (rw c.bind_files.ensures.shelf.files at c.in_ok-lines.ensures.log) in
    rw (p.1, p.2)
    (read_through (List ℕ) Judgement c.in_err-claimed.field-0.0 _ _
    (λ rose. later_failed files x.top x.netlist x.models x.power w (claim_readings files x) before after c.in_ok-bound.ensures.said
    (inr (logged, inl (rose_later (before x.report) (between x.report) (after x.report) (omega (arith, c.bind_files.ensures.shelf.counts x.report, c.read_log_file.ensures.shelf.counts x.report)) rose))))
    c.in_err-claimed.ensures.cause)

pub returns-clause-told : goal.returns-clause-told
returns-clause-told g c =
    let x = verify_files c.args.netlist.now c.args.models.now c.args.power.now c.args.log.now c.args.report.now (named_top c.args.top) c.args.nets in
    let w = whole c.in_ok-bound.bound.flat.list c.in_ok-bound.bound.circuit in
    stands_judged (g.S.Shelf.files c.args.shelf.now) x w c.in_ok-bound.ensures.said c.in_ok-lines.lines (rw c.bind_files.ensures.shelf.files at c.in_ok-lines.ensures.log)
    c.in_ok-claimed.claimed (rw (c.read_log_file.ensures.shelf.files, c.bind_files.ensures.shelf.files) at c.in_ok-claimed.ensures.report) c.judge.result c.judge.ensures.told

pub returns-clause-cause : goal.returns-clause-cause
returns-clause-cause g c = unread_any c.judge.result _ c.judge.ensures.unread
