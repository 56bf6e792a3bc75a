use Rattle.std.proofs.Common.{◌++◌}
use Rattle.std.specs.Prelude.{Ok, Err}
use Rattle.std.specs.List.{flat_map}
use Rattle.std.proofs.lemmas.Result.{err_from_is_err_and}
use Rattle.cvc_text.specs.Lines.{line}
use Rattle.cvc_text.proofs.Putting.{puts_then, puts_stopped}
use Rattle.cvc_law.specs.Rules.{all_rules}
use Rattle.cvc_report.specs.Counts.{size_words, count_line, errors_line}
use Rattle.cvc_report.specs.Summary.{survey_line, summary}
use Rattle.cvc_report.proofs.summary.put_summary.Goals as goal

pub returns-in_err-put_survey : goal.returns-in_err-put_survey
unfolding summary
returns-in_err-put_survey g c =
    let p = err_from_is_err_and c.from_residual.result c.from_residual.ensures.1 in
    let survey = survey_line c.args.seed c.args.size in
    let sizes = line (size_words c.args.circuit.now) in
    let counts = flat_map (count_line c.args.findings.now) all_rules in
    let errors = errors_line c.args.findings.now in
    rw p.1 (puts_stopped {T = Unit {0}} p.0 p.0 _ _ ((survey ++ sizes) ++ counts) errors (puts_stopped {T = Unit {0}} p.0 p.0 _ _ (survey ++ sizes) counts (puts_stopped {T = Unit {0}} _ p.0 _ _ survey sizes c.in_err-put_survey.ensures)))

pub returns-in_err-put_sizes : goal.returns-in_err-put_sizes
unfolding summary
returns-in_err-put_sizes g c =
    let p = err_from_is_err_and c.from_residual-in_err-put_sizes.result c.from_residual-in_err-put_sizes.ensures.1 in
    let survey = survey_line c.args.seed c.args.size in
    let sizes = line (size_words c.args.circuit.now) in
    let counts = flat_map (count_line c.args.findings.now) all_rules in
    let errors = errors_line c.args.findings.now in
    rw p.1 (puts_stopped {T = Unit {0}} p.0 p.0 _ _ ((survey ++ sizes) ++ counts) errors (puts_stopped {T = Unit {0}} _ p.0 _ _ (survey ++ sizes) counts (puts_then _ (Err _) _ _ _ survey sizes c.in_ok-put_survey.ensures c.in_err-put_sizes.ensures)))

pub returns-in_err-put_counts : goal.returns-in_err-put_counts
unfolding summary
returns-in_err-put_counts g c =
    let p = err_from_is_err_and c.from_residual-in_err-put_counts.result c.from_residual-in_err-put_counts.ensures.1 in
    let survey = survey_line c.args.seed c.args.size in
    let sizes = line (size_words c.args.circuit.now) in
    let counts = flat_map (count_line c.args.findings.now) all_rules in
    let errors = errors_line c.args.findings.now in
    rw p.1 (puts_stopped {T = Unit {0}} _ p.0 _ _ ((survey ++ sizes) ++ counts) errors (puts_then _ (Err _) _ _ _ (survey ++ sizes) counts (puts_then _ (Ok _) _ _ _ survey sizes c.in_ok-put_survey.ensures c.in_ok-put_sizes.ensures) c.in_err-put_counts.ensures))

pub returns : goal.returns
unfolding summary
returns g c =
    let survey = survey_line c.args.seed c.args.size in
    let sizes = line (size_words c.args.circuit.now) in
    let counts = flat_map (count_line c.args.findings.now) all_rules in
    let errors = errors_line c.args.findings.now in
    puts_then _ c.put_errors.result _ _ _ ((survey ++ sizes) ++ counts) errors (puts_then _ (Ok _) _ _ _ (survey ++ sizes) counts (puts_then _ (Ok _) _ _ _ survey sizes c.in_ok-put_survey.ensures c.in_ok-put_sizes.ensures) c.in_ok-put_counts.ensures) c.put_errors.ensures
