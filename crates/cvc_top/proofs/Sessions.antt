-- What the run of an edit session answers.
use Rattle.std.proofs.Common.{◌≡◌, inl, inr, List, [], ◌∷◌, Option, Some, None, refl, sym, ap, subst, ◌∙◌}
use Rattle.std.specs.Prelude.{Bool, IfOk, IfSome, IsOk, IsSomeAnd, Result, Ok, Err}
use Rattle.cvc_base.specs.declared.fault.Fault.{Fault}
use Rattle.cvc_base.specs.declared.finding.Finding.{Finding}
use Rattle.cvc_bind.specs.Bound.{circuit_of}
use Rattle.cvc_delta.specs.declared.edit.Edit.{Edit}
use Rattle.cvc_delta.specs.Edits.{after_all, numbered}
use Rattle.cvc_delta.specs.Session.{IsCheckOf, SessionView}
use Rattle.cvc_flat.specs.Flat.{FlatList}
use Rattle.cvc_io.specs.Files.{Counts, Files}
use Rattle.cvc_judge.specs.declared.judged.Judged.{Judged}
use Rattle.cvc_law.specs.Rules.{findings_of}
use Rattle.cvc_model.specs.declared.row.ModelRow.{ModelRow}
use Rattle.cvc_power.specs.declared.row.PowerRow.{PowerRow}
use Rattle.cvc_run.specs.Due.{DueFailed}
use Rattle.cvc_run.specs.Lines.{run_refused_ending}
use Rattle.cvc_run.specs.Outcome.{Behind, IsEnd, IsOfFiles, refused_ending, report_of, status_of}
use Rattle.cvc_run.specs.Outside.{Ending, Taken, ending}
use Rattle.cvc_run.specs.Run.{Answers}
use Rattle.cvc_run.specs.Said.{Parts, Whole, bound_with, whole}
use Rattle.cvc_run.specs.Stages.{refused}
use Rattle.cvc_run.specs.Stops.{IfAt, IsNeverAt, ReadOnlyWhere, Says}
use Rattle.cvc_run.specs.Telling.{IsAccepted, IsTold, Stands, TellsRun}
use Rattle.cvc_run.specs.declared.lines.RunRefused.{RunRefused}
use Rattle.cvc_run.specs.declared.stage.Refused.{Refused}
use Rattle.cvc_run.specs.declared.stage.Stage.TheVariants as stages
use Rattle.cvc_run.specs.declared.status.Status.{Status}
use Rattle.cvc_run.specs.declared.stop.RunStop.{RunStop}
use Rattle.cvc_run.specs.declared.stop.RunStop.TheVariants.{At, Read, NoMemory}
use Rattle.cvc_run.proofs.Answering.{accepted_findings, run_answers, told_findings, told_refused, told_run_refused}
use Rattle.cvc_top.specs.declared.rechecks.Finished.{Finished}
use Rattle.cvc_top.specs.declared.session.Inputs.{Inputs}
use Rattle.cvc_top.specs.Rechecks.{CanTell, CanTellCheck, IsChecked, IsFinished, IsReportable, check_ending, finished_ending, kept_ending, last_ending}
use Rattle.cvc_top.specs.Sessions.{InputsView, IsAcceptedSession, IsCheckEnd, IsOfSession, IsSessionOutcome, OfEdits, SessionFiles, inputs_in, inputs_view, session_due, session_run}

-- ## The last check

module _ (f : FlatList) (models : List ModelRow) (rows : List PowerRow) (nets : Bool) where
  abbrev d : Parts
  d = record { flat = f; rows = models }

  check_refused : (fault : Fault) → circuit_of f models rows ≡ Err fault → IsCheckEnd nets d rows (refused_ending (refused stages.Binding fault))
  unfolding bound_with
  check_refused fault e = rw e refl

  check_kept : (j : Judged) → IsCheckOf f models rows j → IsCheckEnd nets d rows (kept_ending f nets (Some j))
  unfolding bound_with
  check_kept j is =
      rw is.circuit
      (j.family, is.judged.least, ap (λ found. ending (status_of found) (report_of nets (whole f j.circuit) j.family)) is.judged.found)

  kept_end : (kept : Option Judged) → IsSomeAnd kept (IsCheckOf f models rows) → IsCheckEnd nets d rows (kept_ending f nets kept)
  kept_end (Some j) is = check_kept j is
  kept_end None is = absurd is

  kept_told : (kept : Option Judged) → IsSomeAnd kept (IsCheckOf f models rows) → IsSomeAnd kept (IsReportable f)
  kept_told (Some j) is = record { bound = is.bound; judged = is.judged }
  kept_told None is = absurd is

-- by what a session holds behind it
checked_end : (s : SessionView) (nets : Bool) (fault : Option Fault) → IsChecked s fault → IsCheckEnd nets (record { flat = s.flat; rows = s.models }) s.rows (check_ending s.flat nets s.kept fault)
checked_end s nets None is = kept_end s.flat s.models s.rows nets s.kept is
checked_end s nets (Some fault) is = check_refused s.flat s.models s.rows nets fault is

checked_told : (s : SessionView) (nets : Bool) (fault : Option Fault) → IsChecked s fault → CanTellCheck s.flat s.kept fault
checked_told s nets None is = kept_told s.flat s.models s.rows nets s.kept is
checked_told s nets (Some fault) is = tt

module _ (f : FlatList) (models : List ModelRow) (rows : List PowerRow) (done : List Edit) (nets : Bool) (x : Finished) (is : IsFinished f models rows done nets x) where
  own : x.session.flat ≡ x.flat.now.list
  own = is.own_flat ∙ sym is.flat

  pub finished_told : CanTell x
  finished_told = subst (λ (l : FlatList). CanTellCheck l x.session.kept x.refused) own (checked_told x.session x.nets x.refused is.last)

  last_end : IsCheckEnd nets (record { flat = f; rows = models }) (after_all rows done) (last_ending x)
  last_end =
      let at : IsCheckEnd x.nets (record { flat = x.session.flat; rows = x.session.models }) x.session.rows (check_ending x.session.flat x.nets x.session.kept x.refused) = checked_end x.session x.nets x.refused is.last in
      subst (λ (l : FlatList). IsCheckEnd nets (record { flat = f; rows = models }) (after_all rows done) (check_ending l x.nets x.session.kept x.refused)) own
      (subst (λ (n : Bool). IsCheckEnd n (record { flat = f; rows = models }) (after_all rows done) (check_ending x.session.flat x.nets x.session.kept x.refused)) is.nets
      (subst (λ (r : List PowerRow). IsCheckEnd x.nets (record { flat = f; rows = models }) r (check_ending x.session.flat x.nets x.session.kept x.refused)) is.own_rows
      (subst (λ (m : List ModelRow). IsCheckEnd x.nets (record { flat = f; rows = m }) x.session.rows (check_ending x.session.flat x.nets x.session.kept x.refused)) is.own_models
      (subst (λ (l : FlatList). IsCheckEnd x.nets (record { flat = l; rows = x.session.models }) x.session.rows (check_ending x.session.flat x.nets x.session.kept x.refused)) is.own_flat at))))

-- ## The statuses

of_refused : (r : Refused) → IsOfFiles (refused_ending r).status
of_refused r = inr (inr (r.stage, refl))

of_findings : (found : List Finding) → IsOfFiles (status_of found)
of_findings [] = inl refl
of_findings (x ∷ xs) = inr (inl refl)

check_status : (nets : Bool) (d : Parts) (rows : List PowerRow) (e : Ending) → IsCheckEnd nets d rows e → IsOfFiles e.status
check_status nets d rows e = by (bound_with d rows)
  where
    by : (w : Result Whole Refused) → Behind refused_ending w (IsEnd (report_of nets)) e → IsOfFiles e.status
    by (Ok w) (family, least, is) = subst (λ (y : Ending). IsOfFiles y.status) (sym is) (of_findings (findings_of w.circuit family))
    by (Err r) is = subst (λ (y : Ending). IsOfFiles y.status) (sym is) (of_refused r)

accepted_status : (nets : Bool) (d : Parts) (rows : List PowerRow) (e : Ending) → IsOk (bound_with d rows) → IsCheckEnd nets d rows e → IsAccepted e.status
accepted_status nets d rows e = by (bound_with d rows)
  where
    by : (w : Result Whole Refused) → IsOk w → Behind refused_ending w (IsEnd (report_of nets)) e → IsAccepted e.status
    by (Ok w) ok (family, least, is) = accepted_findings (findings_of w.circuit family) e.status (ap (λ (y : Ending). y.status) is)
    by (Err r) ok is = cc

-- ## What is told

told_kept : (f : FlatList) (nets : Bool) (kept : Option Judged) → IsTold (kept_ending f nets kept).status
told_kept f nets (Some j) = told_findings j.findings
told_kept f nets None = tt

told_check : (f : FlatList) (nets : Bool) (kept : Option Judged) (fault : Option Fault) → IsTold (check_ending f nets kept fault).status
told_check f nets kept (Some fault) = told_refused (refused stages.Binding fault)
told_check f nets kept None = told_kept f nets kept

told_finished : (x : Finished) → IsTold (finished_ending x).status
told_finished x = told_check x.flat.now.list x.nets x.session.kept x.refused

-- ## Accepted input

module _ (files : Option Files) (x : SessionFiles) (nets : Bool) where
  only_accepted : (e : Ending) → IsSomeAnd files (λ fs. IsAcceptedSession fs x) → (session_run files x nets).outcome e → IsAccepted e.status
  only_accepted e = by files
    where
      by : (o : Option Files) → IsSomeAnd o (λ fs. IsAcceptedSession fs x) → (session_run o x nets).outcome e → IsAccepted e.status
      by None ok end = absurd ok
      by (Some fs) (i, is, bound) end =
          let (found, last, are, check, ends) = subst (λ (s : Result InputsView RunRefused). Behind run_refused_ending s (OfEdits nets) e) is end.1 in
          subst (λ (s : Status). IsAccepted s) (sym (ap (λ (y : Ending). y.status) ends)) (accepted_status nets i.parts (after_all (numbered i.rows) i.edits) last bound check)

  -- ## What the run answers

  -- the inputs are refused
  stands_unread : (stop : RunStop RunRefused) → IfAt {A = Inputs} (Err stop) (λ r. IsOfSession (run_refused_ending r).status) → IfSome files (λ fs. Says {A = Inputs} inputs_view (Err stop) (inputs_in fs x))
      → Stands {A = RunRefused} run_refused_ending run_refused_ending (Err stop) (session_run files x nets).outcome
  stands_unread (At r) own says = (own, by files says)
    where
      by : (o : Option Files) → IfSome o (λ fs. inputs_in fs x ≡ Err r) → IfSome o (λ fs. IsSessionOutcome fs x nets (run_refused_ending r))
      by None h = tt
      by (Some fs) h = subst (λ (s : Result InputsView RunRefused). Behind run_refused_ending s (OfEdits nets) (run_refused_ending r)) (sym h) refl
  stands_unread Read own says = tt
  stands_unread NoMemory own says = tt

  pub unread_answers : (stop : RunStop RunRefused) (before after : Counts) (t : Taken) (result : Status) → IfAt {A = Inputs} (Err stop) (λ r. IsOfSession (run_refused_ending r).status)
      → IfSome files (λ fs. Says {A = Inputs} inputs_view (Err stop) (inputs_in fs x)) → ReadOnlyWhere {A = Inputs} (Err stop) (DueFailed (session_due files x) before after)
      → TellsRun {A = RunRefused} run_refused_ending run_refused_ending (Err stop) t result → Answers (session_run files x nets) before after t result
  unread_answers stop before after t result own says cause told =
      run_answers {A = RunRefused} run_refused_ending run_refused_ending told_run_refused told_run_refused (session_run files x nets) (Err stop) before after t result (λ e accepted end. only_accepted e accepted end)
      (stands_unread stop own says) (read stop cause) told
    where
      read : (y : RunStop RunRefused) → ReadOnlyWhere {A = Inputs} (Err y) (DueFailed (session_due files x) before after) → ReadOnlyWhere {A = RunRefused} (Err y) (DueFailed (session_due files x) before after)
      read (At r) h = tt
      read Read h = h
      read NoMemory h = tt

  -- the edits are done
  module _ (i : Inputs) (said : IfSome files (λ fs. inputs_in fs x ≡ Ok (inputs_view i))) where
    stands_done : (r : Result Finished (RunStop RunRefused)) → IsNeverAt r → IfOk r (IsFinished i.design.flat.list i.design.models (numbered i.power) i.edits nets)
        → Stands finished_ending run_refused_ending r (session_run files x nets).outcome
    stands_done (Ok y) never is = (inl of_files, by files said)
      where
        done : OfEdits nets (inputs_view i) (finished_ending y)
        done = (y.rechecks, last_ending y, is.rechecks, last_end i.design.flat.list i.design.models (numbered i.power) i.edits nets y is, refl)

        of_files : IsOfFiles (finished_ending y).status
        of_files = check_status nets (inputs_view i).parts (after_all (numbered i.power) i.edits) (last_ending y) (last_end i.design.flat.list i.design.models (numbered i.power) i.edits nets y is)

        by : (o : Option Files) → IfSome o (λ fs. inputs_in fs x ≡ Ok (inputs_view i)) → IfSome o (λ fs. IsSessionOutcome fs x nets (finished_ending y))
        by None h = tt
        by (Some fs) h = subst (λ (s : Result InputsView RunRefused). Behind run_refused_ending s (OfEdits nets) (finished_ending y)) (sym h) done
    stands_done (Err (At r)) never is = absurd never
    stands_done (Err Read) never is = tt
    stands_done (Err NoMemory) never is = tt

    pub done_answers : (r : Result Finished (RunStop RunRefused)) (before after : Counts) (t : Taken) (result : Status) → IsNeverAt r → IfOk r (IsFinished i.design.flat.list i.design.models (numbered i.power) i.edits nets)
        → ReadOnlyWhere r ⊥ → TellsRun finished_ending run_refused_ending r t result → Answers (session_run files x nets) before after t result
    done_answers r before after t result never is unread told =
        run_answers finished_ending run_refused_ending told_finished told_run_refused (session_run files x nets) r before after t result (λ e accepted end. only_accepted e accepted end)
        (stands_done r never is) (read r unread) told
      where
        read : (y : Result Finished (RunStop RunRefused)) → ReadOnlyWhere y ⊥ → ReadOnlyWhere y (DueFailed (session_due files x) before after)
        read (Ok z) h = tt
        read (Err (At r)) h = tt
        read (Err Read) h = absurd h
        read (Err NoMemory) h = tt
