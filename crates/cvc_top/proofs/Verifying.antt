-- What the run of `verify` answers.
use Rattle.std.proofs.Common.{◌≡◌, ℕ, ◌+◌, ◌<◌, ◌≤◌, inl, inr, ◌⊎◌, Bool, true, false, List, ◌++◌, length, map, take, drop, Option, Some, None, refl, sym, ap, subst, ◌∙◌, arith, take-append-drop}
use Rattle.std.specs.Prelude.{IfSome, IsOk, IsSomeAnd, Result, Ok, Err, is_ok, nat_lt}
use Rattle.std.specs.List.{count_by}
use Rattle.std.proofs.lemmas.Bool.{lt-ltb, ltb-false, ltb-true}
use Rattle.std.proofs.lemmas.List.{length-map, length-take, length-take-le, take-append-le, take_all}
use Rattle.std.proofs.lemmas.List.Sums.{count_by-le-length}
use Rattle.cvc_base.specs.declared.cause.Cause.{Cause}
use Rattle.cvc_base.specs.declared.cause.Cause.TheVariants.{FileTooLong}
use Rattle.cvc_chain.specs.Reading.{is_line_feed, limit, log_of}
use Rattle.cvc_chain.specs.Verdict.{IsRightWhereYes, Says as IsVerdict}
use Rattle.cvc_chain.specs.declared.verdict.Verdict.{Verdict}
use Rattle.cvc_chain.specs.declared.verdict.Verdict.TheVariants.{Yes, Line, Device, Byte}
use Rattle.cvc_flat.specs.Flat.{FlatList}
use Rattle.cvc_io.specs.Files.{Counts, Files, content}
use Rattle.cvc_law.specs.Bound.{IsBound, pins_of_device}
use Rattle.cvc_law.specs.Network.{Network}
use Rattle.cvc_law.specs.Rules.{findings_of}
use Rattle.cvc_rows.specs.Refusing.{Answers as RowsAnswer}
use Rattle.cvc_rows.specs.declared.refused.LineFault.{LineFault}
use Rattle.cvc_rows.specs.declared.refused.Refused.{Refused as RowsRefused}
use Rattle.cvc_rows.specs.declared.refused.Refused.TheVariants as rows
use Rattle.cvc_run.specs.Due.{DueFailed}
use Rattle.cvc_run.specs.Lines.{run_refused_ending, status_about, stop_of}
use Rattle.cvc_run.specs.Loads.{OfContent, up_to}
use Rattle.cvc_run.specs.Outcome.{Behind, IsEnd, IsOfFiles, refused_ending, report_of, status_of}
use Rattle.cvc_run.specs.Outside.{Ending, EndsAs, MayAnswer, Outcome, Taken, ending}
use Rattle.cvc_run.specs.Run.{Answers}
use Rattle.cvc_run.specs.Said.{Whole}
use Rattle.cvc_run.specs.Stages.{status_at}
use Rattle.cvc_run.specs.Stops.{IfAt, ReadOnlyWhere, Says}
use Rattle.cvc_run.specs.Telling.{IsAccepted, IsTold, Stands, TellsRun}
use Rattle.cvc_run.specs.declared.lines.RunRefused.{RunRefused}
use Rattle.cvc_run.specs.declared.lines.RunRefused.TheVariants as refusals
use Rattle.cvc_run.specs.declared.lines.Subject.{Subject}
use Rattle.cvc_run.specs.declared.lines.Subject.TheVariants as subjects
use Rattle.cvc_run.specs.declared.stage.Refused.{Refused}
use Rattle.cvc_run.specs.declared.stage.Stage.{Stage}
use Rattle.cvc_run.specs.declared.stage.Stage.TheVariants as stages
use Rattle.cvc_run.specs.declared.status.Status.{Status}
use Rattle.cvc_run.specs.declared.status.Status.TheVariants as statuses
use Rattle.cvc_run.specs.declared.stop.RunStop.{RunStop}
use Rattle.cvc_run.specs.declared.stop.RunStop.TheVariants.{At, Read, NoMemory}
use Rattle.cvc_run.proofs.Answering.{run_answers, told_run_refused}
use Rattle.cvc_run.proofs.Loading.{of_weaker}
use Rattle.cvc_serial.specs.declared.log.LogLine.{LogLine}
use Rattle.cvc_top.specs.declared.verify.Judgement.{Judgement}
use Rattle.cvc_top.specs.Certificates.{IsClaim, IsNamed, IsOwnReport, IsVerdictOn, IsVerifyOutcome, VerifyFiles, bound_of_files, is_log_accepted, judgement_ending, line_past, log_of_files, report_in, report_of_files, verdict_ending, verify_run}
use Rattle.cvc_top.specs.Further.{about, refused_about, stop_about}
use Rattle.cvc_top.proofs.Expecting.{stands_weaker}
use Rattle.cvc_top.proofs.LogLimit.{log-up_to}

-- ## The log and the report: what was read of the bytes up to the limit is what the file says

module _ (files : Option Files) (name text : List ℕ) (read : OfContent files name (λ bytes. text ≡ up_to limit bytes)) where
  same_log : (bytes : List ℕ) → text ≡ up_to limit bytes → log_of text ≡ log_of bytes
  same_log bytes e = ap log_of e ∙ log-up_to bytes

  pub log_read : (log : List LogLine) → log_of text ≡ Ok log → OfContent files name (λ bytes. about subjects.Log (log_of bytes) ≡ Ok log)
  log_read log says =
      of_weaker files name (λ bytes. text ≡ up_to limit bytes) (λ bytes. about subjects.Log (log_of bytes) ≡ Ok log) (λ bytes e. ap (about subjects.Log) (sym (same_log bytes e) ∙ says)) read

  pub log_refused : (refused : RowsRefused (LineFault Cause)) → RowsAnswer {A = List LogLine} (Err refused) (log_of text)
      → OfContent files name (λ bytes. Says {A = List LogLine} (λ log. log) (Err (stop_about subjects.Log refused)) (about subjects.Log (log_of bytes)))
  log_refused (rows.At fault) says =
      of_weaker files name (λ bytes. text ≡ up_to limit bytes) (λ bytes. about subjects.Log (log_of bytes) ≡ Err (refused_about subjects.Log fault)) (λ bytes e. ap (about subjects.Log) (sym (same_log bytes e) ∙ says)) read
  log_refused rows.NoMemory says = of_weaker files name (λ bytes. text ≡ up_to limit bytes) (λ bytes. Unit {0}) (λ bytes e. tt) read

-- a report of so many bytes at most is whole
report_short : (bytes : List ℕ) → length (up_to limit bytes) ≤ limit → report_in bytes ≡ Ok (up_to limit bytes)
report_short bytes short = by (nat_lt limit (length bytes)) refl
  where
    by : (b : Bool) → nat_lt limit (length bytes) ≡ b → report_in bytes ≡ Ok (up_to limit bytes)
    by false e = let le : length bytes ≤ limit = ltb-false limit (length bytes) e in rw e (ap Ok (sym (take_all (limit + 1) bytes (omega (arith, le)))))
    by true e = let lt : limit < length bytes = ltb-true limit (length bytes) e in absurd (omega (arith, short, length-take-le (limit + 1) bytes (omega (arith, lt))))

line_past_up_to : (bytes : List ℕ) → limit < length (up_to limit bytes) → line_past (up_to limit bytes) ≡ line_past bytes
line_past_up_to bytes long =
    let front : take limit (up_to limit bytes ++ drop (limit + 1) bytes) ≡ take limit (up_to limit bytes) = take-append-le limit (up_to limit bytes) (drop (limit + 1) bytes) (omega (arith, long)) in
    ap (λ (l : List ℕ). count_by is_line_feed l + 1) (sym front ∙ ap (take limit) (take-append-drop (limit + 1) bytes))

report_long : (bytes : List ℕ) → limit < length (up_to limit bytes) → report_in bytes ≡ Err (record { line = line_past (up_to limit bytes); cause = FileTooLong })
report_long bytes long =
    let more : limit < length bytes = omega (arith, long, length-take (limit + 1) bytes) in
    rw (lt-ltb limit (length bytes) more) (ap (λ (n : ℕ). Err (record { line = n; cause = FileTooLong })) (sym (line_past_up_to bytes long)))

-- the number of that line is small
pub few_lines : (bytes : List ℕ) → count_by is_line_feed (take limit bytes) ≤ limit
few_lines bytes = omega (arith, count_by-le-length is_line_feed (take limit bytes), length-take limit bytes)

module _ (files : Option Files) (name text : List ℕ) (read : OfContent files name (λ bytes. text ≡ up_to limit bytes)) where
  pub report_read : length text ≤ limit → OfContent files name (λ bytes. about subjects.Report (report_in bytes) ≡ Ok text)
  report_read short =
      of_weaker files name (λ bytes. text ≡ up_to limit bytes) (λ bytes. about subjects.Report (report_in bytes) ≡ Ok text)
      (λ bytes e. ap (about subjects.Report) (report_short bytes (subst (λ (l : List ℕ). length l ≤ limit) e short) ∙ ap Ok (sym e))) read

  pub report_refused : (number : ℕ) → number ≡ line_past text → limit < length text
      → OfContent files name (λ bytes. Says {A = List ℕ} (λ text. text) (Err (stop_about subjects.Report (rows.At (record { line = number; cause = FileTooLong })))) (about subjects.Report (report_in bytes)))
  report_refused number is long =
      of_weaker files name (λ bytes. text ≡ up_to limit bytes) (λ bytes. about subjects.Report (report_in bytes) ≡ Err (refused_about subjects.Report (record { line = number; cause = FileTooLong })))
      (λ bytes e. ap (about subjects.Report) (report_long bytes (subst (λ (l : List ℕ). limit < length l) e long) ∙ ap (λ (n : ℕ). Err (record { line = n; cause = FileTooLong })) (ap line_past (sym e) ∙ sym is))) read

-- ## Verdicts

told_verdict : (f : FlatList) (v : Verdict) → IsTold (verdict_ending f v).status
told_verdict f Yes = tt
told_verdict f (Line k) = tt
told_verdict f (Device d) = tt
told_verdict f (Byte b) = tt

accepted_verdict : (f : FlatList) (v : Verdict) (status : Status) → status ≡ (verdict_ending f v).status → IsAccepted status
accepted_verdict f Yes status e = inl e
accepted_verdict f (Line k) status e = inr e
accepted_verdict f (Device d) status e = inr e
accepted_verdict f (Byte b) status e = inr e

of_verdict : (f : FlatList) (v : Verdict) → IsOfFiles (verdict_ending f v).status
of_verdict f v = by (accepted_verdict f v (verdict_ending f v).status refl)
  where
    by : IsAccepted (verdict_ending f v).status → IsOfFiles (verdict_ending f v).status
    by (inl e) = inl e
    by (inr e) = inr (inl e)

-- its device is one of the flat list
pub verdict_named : (c : Network) (f : FlatList) (log : List LogLine) (nets : Bool) (bytes : List ℕ) (v : Verdict) → IsBound (length f.nets) (map (λ d. d.pins) f.devices) c → IsVerdict c f log nets bytes v → IsNamed f v
verdict_named c f log nets bytes Yes bound says = tt
verdict_named c f log nets bytes (Line k) bound says = tt
verdict_named c f log nets bytes (Device d) bound says =
    let same : map pins_of_device c.devices ≡ map (λ d. d.pins) f.devices = bound.every_device in
    omega (arith, says.1.inside, ap length same, length-map c.devices pins_of_device, length-map f.devices (λ d. d.pins))
verdict_named c f log nets bytes (Byte b) bound says = tt

-- ## A run

module _ (files : Option Files) (x : VerifyFiles) where
  abbrev on_report : Whole → List LogLine → Result (List ℕ) RunRefused → Outcome
  on_report w log report = Behind run_refused_ending report (IsVerdictOn x.nets w log)

  abbrev on_log : Whole → Result (List LogLine) RunRefused → Result (List ℕ) RunRefused → Outcome
  on_log w log report = Behind run_refused_ending log (λ lines. on_report w lines report)

  abbrev on_files : Result Whole Refused → Result (List LogLine) RunRefused → Result (List ℕ) RunRefused → Outcome
  on_files bound log report = Behind refused_ending bound (λ w. on_log w log report)

  abbrev pub outcome_of : Outcome
  outcome_of = (verify_run files x).outcome

  -- the three files are refused
  pub verify_unbound : {B : Type 0} (view : B → Whole) (stop : RunStop Refused) → IfSome files (λ fs. Says view (Err stop) (bound_of_files fs x))
      → Stands {A = Judgement} judgement_ending run_refused_ending (Err (stop_of stop)) outcome_of
  verify_unbound view (At r) h = (inl (inr (inr (r.stage, refl))), by files h)
    where
      by : (o : Option Files) → IfSome o (λ fs. bound_of_files fs x ≡ Err r) → IfSome o (λ fs. IsVerifyOutcome fs x (refused_ending r))
      by None h = tt
      by (Some fs) h = subst (λ (s : Result Whole Refused). on_files s (log_of_files fs x) (report_of_files fs x) (refused_ending r)) (sym h) refl
  verify_unbound view Read h = tt
  verify_unbound view NoMemory h = tt

  module _ (w : Whole) (bound : IfSome files (λ fs. bound_of_files fs x ≡ Ok w)) where
    -- the log is refused
    pub stops_at_log : (stop : RunStop RunRefused) → IfAt {A = List LogLine} (Err stop) (λ r. (run_refused_ending r).status ≡ statuses.Certificate)
        → OfContent files x.log (λ bytes. Says {A = List LogLine} (λ log. log) (Err stop) (about subjects.Log (log_of bytes))) → Stands {A = Judgement} judgement_ending run_refused_ending (Err stop) outcome_of
    stops_at_log (At r) own h = (inr own, by files bound h)
      where
        by : (o : Option Files) → IfSome o (λ fs. bound_of_files fs x ≡ Ok w) → OfContent o x.log (λ bytes. about subjects.Log (log_of bytes) ≡ Err r) → IfSome o (λ fs. IsVerifyOutcome fs x (run_refused_ending r))
        by None k h = tt
        by (Some fs) k h =
            subst (λ (s : Result Whole Refused). on_files s (log_of_files fs x) (report_of_files fs x) (run_refused_ending r)) (sym k)
            (subst (λ (s : Result (List LogLine) RunRefused). on_log w s (report_of_files fs x) (run_refused_ending r)) (sym h) refl)
    stops_at_log Read own h = tt
    stops_at_log NoMemory own h = tt

    module _ (log : List LogLine) (logged : OfContent files x.log (λ bytes. about subjects.Log (log_of bytes) ≡ Ok log)) where
      -- the report is refused
      pub stops_at_report : (stop : RunStop RunRefused) → IfAt {A = List ℕ} (Err stop) (λ r. (run_refused_ending r).status ≡ statuses.Certificate)
          → OfContent files x.report (λ bytes. Says {A = List ℕ} (λ text. text) (Err stop) (about subjects.Report (report_in bytes))) → Stands {A = Judgement} judgement_ending run_refused_ending (Err stop) outcome_of
      stops_at_report (At r) own h = (inr own, by files bound logged h)
        where
          by : (o : Option Files) → IfSome o (λ fs. bound_of_files fs x ≡ Ok w) → OfContent o x.log (λ bytes. about subjects.Log (log_of bytes) ≡ Ok log)
              → OfContent o x.report (λ bytes. about subjects.Report (report_in bytes) ≡ Err r) → IfSome o (λ fs. IsVerifyOutcome fs x (run_refused_ending r))
          by None k l h = tt
          by (Some fs) k l h =
              subst (λ (s : Result Whole Refused). on_files s (log_of_files fs x) (report_of_files fs x) (run_refused_ending r)) (sym k)
              (subst (λ (s : Result (List LogLine) RunRefused). on_log w s (report_of_files fs x) (run_refused_ending r)) (sym l)
              (subst (λ (s : Result (List ℕ) RunRefused). on_report w log s (run_refused_ending r)) (sym h) refl))
      stops_at_report Read own h = tt
      stops_at_report NoMemory own h = tt

      -- all files are accepted
      judged_so : (report : List ℕ) → OfContent files x.report (λ bytes. about subjects.Report (report_in bytes) ≡ Ok report) → (e : Ending) → IsVerdictOn x.nets w log report e → outcome_of e
      judged_so report read e is = (subst (λ (s : Status). IsOfFiles s ⊎ (s ≡ statuses.Certificate)) (ap (λ (y : Ending). y.status) (sym is.3)) (inl (of_verdict w.flat is.0)), by files bound logged read)
        where
          by : (o : Option Files) → IfSome o (λ fs. bound_of_files fs x ≡ Ok w) → OfContent o x.log (λ bytes. about subjects.Log (log_of bytes) ≡ Ok log)
              → OfContent o x.report (λ bytes. about subjects.Report (report_in bytes) ≡ Ok report) → IfSome o (λ fs. IsVerifyOutcome fs x e)
          by None k l h = tt
          by (Some fs) k l h =
              subst (λ (s : Result Whole Refused). on_files s (log_of_files fs x) (report_of_files fs x) e) (sym k)
              (subst (λ (s : Result (List LogLine) RunRefused). on_log w s (report_of_files fs x) e) (sym l) (subst (λ (s : Result (List ℕ) RunRefused). on_report w log s e) (sym h) is))

      pub stands_judged : (report : List ℕ) → OfContent files x.report (λ bytes. about subjects.Report (report_in bytes) ≡ Ok report) → (r : Result Judgement (RunStop RunRefused))
          → Stands judgement_ending run_refused_ending r (IsVerdictOn x.nets w log report) → Stands judgement_ending run_refused_ending r outcome_of
      stands_judged report read r h = stands_weaker judgement_ending run_refused_ending r (IsVerdictOn x.nets w log report) outcome_of (judged_so report read) h

  -- the report is due behind an accepted log
  pub log_accepted : (log : List LogLine) → OfContent files x.log (λ bytes. about subjects.Log (log_of bytes) ≡ Ok log) → is_log_accepted files x ≡ true
  log_accepted log read = by files read
    where
      by : (o : Option Files) → OfContent o x.log (λ bytes. about subjects.Log (log_of bytes) ≡ Ok log) → is_log_accepted o x ≡ true
      by None read = refl
      by (Some fs) read = ap is_ok read

-- ## Accepted input

accepted_on : (x : VerifyFiles) (e : Ending) (bound : Result Whole Refused) (log : Result (List LogLine) RunRefused) (report : Result (List ℕ) RunRefused) → IsOk bound → IsOk log → IsOk report
    → Behind refused_ending bound (λ w. Behind run_refused_ending log (λ lines. Behind run_refused_ending report (IsVerdictOn x.nets w lines))) e → IsAccepted e.status
accepted_on x e (Ok w) (Ok log) (Ok report) b l r (v, says, right, told) = accepted_verdict w.flat v e.status (ap (λ (y : Ending). y.status) told)
accepted_on x e (Err refusal) log report b l r end = cc
accepted_on x e (Ok w) (Err refusal) report b l r end = cc
accepted_on x e (Ok w) (Ok log) (Err refusal) b l r end = cc

verify_accepted : (files : Option Files) (x : VerifyFiles) (e : Ending) → IsSomeAnd files (λ fs. IsClaim fs x) → (verify_run files x).outcome e → IsAccepted e.status
verify_accepted None x e ok end = absurd ok
verify_accepted (Some fs) x e (b, l, r) end = accepted_on x e (bound_of_files fs x) (log_of_files fs x) (report_of_files fs x) b l r end.1

-- ## What is verified

refused_unclean : (r : RunRefused) → (run_refused_ending r).status ≡ statuses.Clean → ⊥
refused_unclean (refusals.At r) e = at r.stage e
  where
    at : (stage : Stage) → status_at stage ≡ statuses.Clean → ⊥
    at stages.Netlist e = cc
    at stages.Models e = cc
    at stages.Power e = cc
    at stages.Binding e = cc
refused_unclean (refusals.Line r) e = about_line r.subject e
  where
    about_line : (subject : Subject) → status_about subject ≡ statuses.Clean → ⊥
    about_line subjects.Log e = cc
    about_line subjects.Report e = cc
    about_line subjects.Expected e = cc
    about_line subjects.Modes e = cc
    about_line subjects.Edits e = cc

-- a report that is accepted is the file
report_whole : (bytes report : List ℕ) → about subjects.Report (report_in bytes) ≡ Ok report → bytes ≡ report
report_whole bytes report e = by (nat_lt limit (length bytes)) refl e
  where
    by : (b : Bool) → nat_lt limit (length bytes) ≡ b → about subjects.Report (report_in bytes) ≡ Ok report → bytes ≡ report
    by false is e = cc
    by true is e = cc

module _ (fs : Files) (x : VerifyFiles) (text : List ℕ) where
  own_verdict : (w : Whole) (log : List LogLine) (report : List ℕ) → bound_of_files fs x ≡ Ok w → content fs x.report ≡ report → (v : Verdict) → IsRightWhereYes w.circuit w.flat x.nets report v
      → statuses.Clean ≡ (verdict_ending w.flat v).status → IsOwnReport fs x
  own_verdict w log report bound same Yes right e =
      let status = status_of (findings_of w.circuit right.family) in
      (status, subst (λ (s : Result Whole Refused). Behind refused_ending s (IsEnd (report_of x.nets)) (ending status (content fs x.report))) (sym bound) (right.family, right.least, ap (ending status) (same ∙ right.text)))
  own_verdict w log report bound same (Line k) right e = cc
  own_verdict w log report bound same (Device d) right e = cc
  own_verdict w log report bound same (Byte b) right e = cc

  own_on : (bound : Result Whole Refused) (log : Result (List LogLine) RunRefused) (report : Result (List ℕ) RunRefused) → bound_of_files fs x ≡ bound → report_of_files fs x ≡ report
      → Behind refused_ending bound (λ w. Behind run_refused_ending log (λ lines. Behind run_refused_ending report (IsVerdictOn x.nets w lines))) (ending statuses.Clean text) → IsOwnReport fs x
  own_on (Ok w) (Ok log) (Ok report) b r (v, says, right, told) = own_verdict w log report b (report_whole (content fs x.report) report r) v right (ap (λ (y : Ending). y.status) told)
  own_on (Err refusal) log report b r told = absurd (refused_unclean (refusals.At refusal) (sym (ap (λ (y : Ending). y.status) told)))
  own_on (Ok w) (Err refusal) report b r told = absurd (refused_unclean refusal (sym (ap (λ (y : Ending). y.status) told)))
  own_on (Ok w) (Ok log) (Err refusal) b r told = absurd (refused_unclean refusal (sym (ap (λ (y : Ending). y.status) told)))

-- where the answer is clean, the report is that of a check of the files
pub verified_right : (files : Option Files) (x : VerifyFiles) (before after : Counts) (t : Taken) (result : Status) → Answers (verify_run files x) before after t result → result ≡ statuses.Clean → IfSome files (λ fs. IsOwnReport fs x)
verified_right files x before after t result answers e =
    let clean : EndsAs (verify_run files x).outcome t statuses.Clean = subst (λ (s : Status). MayAnswer (verify_run files x).outcome (DueFailed (verify_run files x).due before after) t s) e answers.0 in
    by clean.0 files clean.1.1
  where
    by : (text : List ℕ) (o : Option Files) → IfSome o (λ fs. IsVerifyOutcome fs x (ending statuses.Clean text)) → IfSome o (λ fs. IsOwnReport fs x)
    by text None end = tt
    by text (Some fs) end = own_on fs x text (bound_of_files fs x) (log_of_files fs x) (report_of_files fs x) refl refl end

-- ## What the run answers

pub verify_answers : (files : Option Files) (x : VerifyFiles) (r : Result Judgement (RunStop RunRefused)) (before after : Counts) (t : Taken) (result : Status) → Stands judgement_ending run_refused_ending r (verify_run files x).outcome
    → ReadOnlyWhere r (DueFailed (verify_run files x).due before after) → TellsRun judgement_ending run_refused_ending r t result → Answers (verify_run files x) before after t result
verify_answers files x r before after t result stands cause told =
    run_answers judgement_ending run_refused_ending (λ j. told_verdict j.flat.list j.verdict) told_run_refused (verify_run files x) r before after t result (λ e accepted end. verify_accepted files x e accepted end) stands cause told
