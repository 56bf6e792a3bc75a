use Rattle.std.proofs.Common.{[], ◌∷◌, ◌++◌}
use Rattle.std.specs.Prelude.{Ok, Err, codes}
use Rattle.std.specs.List.{flat_map}
use Rattle.std.proofs.lemmas.Result.{err_from_is_err_and}
use Rattle.cvc_text.specs.Lines.{line}
use Rattle.cvc_text.proofs.Putting.{puts_then, puts_stopped}
use Rattle.cvc_report.specs.Counts.{errors_line}
use Rattle.cvc_report.specs.Report.{top_line, net_lines, finding_line, report_with}
use Rattle.cvc_report.proofs.report.put_report.Goals as goal

pub returns-in_err-put_line : goal.returns-in_err-put_line
unfolding report_with
returns-in_err-put_line g c =
    let p = err_from_is_err_and c.from_residual.result c.from_residual.ensures.1 in
    let head = line (codes "CVC report" ∷ []) in
    let top = top_line c.args.circuit.now c.args.flat.now.list in
    let nets = net_lines c.args.circuit.now c.args.flat.now.list c.args.family.now c.args.with_nets in
    let found = flat_map (finding_line c.args.circuit.now c.args.flat.now.list) c.args.findings.now in
    let errors = errors_line c.args.findings.now in
    rw p.1 (puts_stopped {T = Unit {0}} p.0 p.0 _ _ (((head ++ top) ++ nets) ++ found) errors (puts_stopped {T = Unit {0}} p.0 p.0 _ _ ((head ++ top) ++ nets) found (puts_stopped {T = Unit {0}} p.0 p.0 _ _ (head ++ top) nets (puts_stopped {T = Unit {0}} _ p.0 _ _ head top c.in_err-put_line.ensures))))

pub returns-in_err-put_top : goal.returns-in_err-put_top
unfolding report_with
returns-in_err-put_top g c =
    let p = err_from_is_err_and c.from_residual-in_err-put_top.result c.from_residual-in_err-put_top.ensures.1 in
    let head = line (codes "CVC report" ∷ []) in
    let top = top_line c.args.circuit.now c.args.flat.now.list in
    let nets = net_lines c.args.circuit.now c.args.flat.now.list c.args.family.now c.args.with_nets in
    let found = flat_map (finding_line c.args.circuit.now c.args.flat.now.list) c.args.findings.now in
    let errors = errors_line c.args.findings.now in
    rw p.1 (puts_stopped {T = Unit {0}} p.0 p.0 _ _ (((head ++ top) ++ nets) ++ found) errors (puts_stopped {T = Unit {0}} p.0 p.0 _ _ ((head ++ top) ++ nets) found (puts_stopped {T = Unit {0}} _ p.0 _ _ (head ++ top) nets (puts_then _ (Err _) _ _ _ head top c.in_ok-put_line.ensures c.in_err-put_top.ensures))))

pub returns-in_err-put_nets : goal.returns-in_err-put_nets
unfolding report_with
returns-in_err-put_nets g c =
    let p = err_from_is_err_and c.from_residual-in_err-put_nets.result c.from_residual-in_err-put_nets.ensures.1 in
    let head = line (codes "CVC report" ∷ []) in
    let top = top_line c.args.circuit.now c.args.flat.now.list in
    let nets = net_lines c.args.circuit.now c.args.flat.now.list c.args.family.now c.args.with_nets in
    let found = flat_map (finding_line c.args.circuit.now c.args.flat.now.list) c.args.findings.now in
    let errors = errors_line c.args.findings.now in
    rw p.1 (puts_stopped {T = Unit {0}} p.0 p.0 _ _ (((head ++ top) ++ nets) ++ found) errors (puts_stopped {T = Unit {0}} _ p.0 _ _ ((head ++ top) ++ nets) found (puts_then _ (Err _) _ _ _ (head ++ top) nets (puts_then _ (Ok _) _ _ _ head top c.in_ok-put_line.ensures c.in_ok-put_top.ensures) c.in_err-put_nets.ensures)))

pub returns-in_err-put_findings : goal.returns-in_err-put_findings
unfolding report_with
returns-in_err-put_findings g c =
    let p = err_from_is_err_and c.from_residual-in_err-put_findings.result c.from_residual-in_err-put_findings.ensures.1 in
    let head = line (codes "CVC report" ∷ []) in
    let top = top_line c.args.circuit.now c.args.flat.now.list in
    let nets = net_lines c.args.circuit.now c.args.flat.now.list c.args.family.now c.args.with_nets in
    let found = flat_map (finding_line c.args.circuit.now c.args.flat.now.list) c.args.findings.now in
    let errors = errors_line c.args.findings.now in
    rw p.1 (puts_stopped {T = Unit {0}} _ p.0 _ _ (((head ++ top) ++ nets) ++ found) errors (puts_then _ (Err _) _ _ _ ((head ++ top) ++ nets) found (puts_then _ (Ok _) _ _ _ (head ++ top) nets (puts_then _ (Ok _) _ _ _ head top c.in_ok-put_line.ensures c.in_ok-put_top.ensures) c.in_ok-put_nets.ensures) c.in_err-put_findings.ensures))

pub returns : goal.returns
unfolding report_with
returns g c =
    let head = line (codes "CVC report" ∷ []) in
    let top = top_line c.args.circuit.now c.args.flat.now.list in
    let nets = net_lines c.args.circuit.now c.args.flat.now.list c.args.family.now c.args.with_nets in
    let found = flat_map (finding_line c.args.circuit.now c.args.flat.now.list) c.args.findings.now in
    let errors = errors_line c.args.findings.now in
    puts_then _ c.put_errors.result _ _ _ (((head ++ top) ++ nets) ++ found) errors (puts_then _ (Ok _) _ _ _ ((head ++ top) ++ nets) found (puts_then _ (Ok _) _ _ _ (head ++ top) nets (puts_then _ (Ok _) _ _ _ head top c.in_ok-put_line.ensures c.in_ok-put_top.ensures) c.in_ok-put_nets.ensures) c.in_ok-put_findings.ensures) c.put_errors.ensures
