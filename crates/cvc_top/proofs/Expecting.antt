-- What the run of expected bounds answers.
use Rattle.std.proofs.Common.{◌≡◌, ℕ, inl, inr, ◌⊎◌, List, [], ◌∷◌, map, Option, Some, None, refl, sym, ap, subst, ◌∙◌}
use Rattle.std.specs.Prelude.{IfSome, IsOk, IsSomeAnd, Result, Ok, Err}
use Rattle.cvc_base.specs.declared.cause.Cause.{Cause}
use Rattle.cvc_base.specs.declared.fault.FileKind.TheVariants.{Power}
use Rattle.cvc_base.specs.declared.ids.NetId.{NetId}
use Rattle.cvc_bind.specs.declared.nets.Misnamed.{Misnamed}
use Rattle.cvc_bind.specs.Nets.{nets_of}
use Rattle.cvc_expect.specs.declared.missed.Missed.{Missed}
use Rattle.cvc_expect.specs.declared.row.ExpectRow.{ExpectRow}
use Rattle.cvc_expect.specs.Misses.{missed_from}
use Rattle.cvc_expect.specs.Missed.{missed_of}
use Rattle.cvc_expect.specs.Rows.{expected_of, name_of, verdict}
use Rattle.cvc_flat.specs.Flat.{FlatList}
use Rattle.cvc_io.specs.Files.{Counts, Files}
use Rattle.cvc_law.specs.declared.interval.Interval.{Interval}
use Rattle.cvc_rows.specs.Refusing.{Answers as RowsAnswer}
use Rattle.cvc_rows.specs.Rows.{as_written}
use Rattle.cvc_rows.specs.declared.refused.LineFault.{LineFault}
use Rattle.cvc_rows.specs.declared.refused.Refused.{Refused as RowsRefused}
use Rattle.cvc_rows.specs.declared.refused.Refused.TheVariants as rows
use Rattle.cvc_run.specs.Due.{DueFailed}
use Rattle.cvc_run.specs.Lines.{run_refused_ending, stop_of}
use Rattle.cvc_run.specs.Loads.{OfContent, up_to}
use Rattle.cvc_run.specs.Outcome.{Behind, IsOfFiles, refused_ending}
use Rattle.cvc_run.specs.Outside.{Ending, Outcome, Taken}
use Rattle.cvc_run.specs.Run.{Answers}
use Rattle.cvc_run.specs.Said.{Whole}
use Rattle.cvc_run.specs.Stops.{IfAt, ReadOnlyWhere, Says}
use Rattle.cvc_run.specs.Telling.{IsAccepted, IsTold, Stands, TellsRun}
use Rattle.cvc_run.specs.declared.lines.RunRefused.{RunRefused}
use Rattle.cvc_run.specs.declared.lines.Subject.TheVariants as subjects
use Rattle.cvc_run.specs.declared.stage.Refused.{Refused}
use Rattle.cvc_run.specs.declared.status.Status.{Status}
use Rattle.cvc_run.specs.declared.status.Status.TheVariants as statuses
use Rattle.cvc_run.specs.declared.stop.RunStop.{RunStop}
use Rattle.cvc_run.specs.declared.stop.RunStop.TheVariants.{At, Read, NoMemory}
use Rattle.cvc_run.proofs.Answering.{run_answers, told_run_refused}
use Rattle.cvc_run.proofs.Limits.{rows-up_to}
use Rattle.cvc_run.proofs.Loading.{of_weaker}
use Rattle.cvc_top.specs.declared.expect.Compared.{Compared}
use Rattle.cvc_top.specs.Expectations.{AreComparable, ExpectFiles, IsComparison, IsExpectOutcome, bound_of_files, compared_ending, comparison_ending, expect_run, rows_of_files, status_of}
use Rattle.cvc_top.specs.Further.{about, refused_about, stop_about}

-- ## Statuses

told_missed : (missed : List Missed) → IsTold (status_of missed)
told_missed [] = tt
told_missed (m ∷ ms) = tt

told_compared : (c : Compared) → IsTold (compared_ending c).status
told_compared c = told_missed c.missed

of_missed : (missed : List Missed) → IsOfFiles (status_of missed)
of_missed [] = inl refl
of_missed (m ∷ ms) = inr (inl refl)

accepted_missed : (missed : List Missed) (status : Status) → status ≡ status_of missed → IsAccepted status
accepted_missed [] status e = inl e
accepted_missed (m ∷ ms) status e = inr e

comparison_status : (expected : List ExpectRow) (r : Result (List Missed) (LineFault Cause)) → IsOfFiles (comparison_ending expected r).status ⊎ ((comparison_ending expected r).status ≡ statuses.Expected)
comparison_status expected (Ok missed) = inl (of_missed missed)
comparison_status expected (Err fault) = inr refl

-- ## The file of expected bounds

-- what was read of the bytes up to the limit is what the file says
module _ (files : Option Files) (name text : List ℕ) (read : OfContent files name (λ bytes. text ≡ up_to 16777216 bytes)) where
  same : (bytes : List ℕ) → text ≡ up_to 16777216 bytes → expected_of text ≡ expected_of bytes
  same bytes e = ap expected_of e ∙ rows-up_to Power as_written verdict bytes

  pub expected_read : (found : List ExpectRow) → expected_of text ≡ Ok found → OfContent files name (λ bytes. about subjects.Expected (expected_of bytes) ≡ Ok found)
  expected_read found says =
      of_weaker files name (λ bytes. text ≡ up_to 16777216 bytes) (λ bytes. about subjects.Expected (expected_of bytes) ≡ Ok found)
      (λ bytes e. ap (about subjects.Expected) (sym (same bytes e) ∙ says)) read

  pub expected_refused : (refused : RowsRefused (LineFault Cause)) → RowsAnswer {A = List ExpectRow} (Err refused) (expected_of text)
      → OfContent files name (λ bytes. Says {A = List ExpectRow} (λ found. found) (Err (stop_about subjects.Expected refused)) (about subjects.Expected (expected_of bytes)))
  expected_refused (rows.At fault) says =
      of_weaker files name (λ bytes. text ≡ up_to 16777216 bytes) (λ bytes. about subjects.Expected (expected_of bytes) ≡ Err (refused_about subjects.Expected fault))
      (λ bytes e. ap (about subjects.Expected) (sym (same bytes e) ∙ says)) read
  expected_refused rows.NoMemory says =
      of_weaker files name (λ bytes. text ≡ up_to 16777216 bytes) (λ bytes. Unit {0}) (λ bytes e. tt) read

-- ## The comparison

module _ (w : Whole) (f : List Interval) (expected : List ExpectRow) where
  pub refused_name : (refused : RowsRefused (LineFault Cause)) → RowsAnswer {A = List Missed} (Err refused) (missed_of w.flat f expected)
      → IfAt {A = Compared} (Err (stop_about subjects.Expected refused)) (λ r. run_refused_ending r ≡ comparison_ending expected (missed_of w.flat f expected))
  refused_name (rows.At fault) says = ap (comparison_ending expected) (sym says)
  refused_name rows.NoMemory says = tt

-- ## A run

module _ {A F : Type 0} (answer : A → Ending) (refusal : F → Ending) where
  pub stands_weaker : (r : Result A (RunStop F)) (P Q : Outcome) → ((e : Ending) → P e → Q e) → Stands answer refusal r P → Stands answer refusal r Q
  stands_weaker (Ok x) P Q f h = f (answer x) h
  stands_weaker (Err (At x)) P Q f h = f (refusal x) h
  stands_weaker (Err Read) P Q f h = tt
  stands_weaker (Err NoMemory) P Q f h = tt

-- where there is no read fault, none has any cause
pub unread_any : {A F : Type 0} (r : Result A (RunStop F)) (cause : Type 0) → ReadOnlyWhere r ⊥ → ReadOnlyWhere r cause
unread_any (Ok x) cause h = tt
unread_any (Err (At x)) cause h = tt
unread_any (Err Read) cause h = absurd h
unread_any (Err NoMemory) cause h = tt

module _ (files : Option Files) (x : ExpectFiles) where
  abbrev pub outcome_of : Outcome
  outcome_of = (expect_run files x).outcome

  -- the three files are refused
  pub stands_unbound : {B : Type 0} (view : B → Whole) (stop : RunStop Refused) → IfSome files (λ fs. Says view (Err stop) (bound_of_files fs x)) → Stands {A = Compared} compared_ending run_refused_ending (Err (stop_of stop)) outcome_of
  stands_unbound view (At r) h = (inl (inr (inr (r.stage, refl))), by files h)
    where
      by : (o : Option Files) → IfSome o (λ fs. bound_of_files fs x ≡ Err r) → IfSome o (λ fs. IsExpectOutcome fs x (refused_ending r))
      by None h = tt
      by (Some fs) h = subst (λ (s : Result Whole Refused). Behind refused_ending s (λ w. Behind run_refused_ending (rows_of_files fs x) (IsComparison w)) (refused_ending r)) (sym h) refl
  stands_unbound view Read h = tt
  stands_unbound view NoMemory h = tt

  module _ (w : Whole) (bound : IfSome files (λ fs. bound_of_files fs x ≡ Ok w)) where
    -- the file of expected bounds is refused
    pub stands_unread : (stop : RunStop RunRefused) → IfAt {A = List ExpectRow} (Err stop) (λ r. (run_refused_ending r).status ≡ statuses.Expected)
        → OfContent files x.expected (λ bytes. Says {A = List ExpectRow} (λ found. found) (Err stop) (about subjects.Expected (expected_of bytes))) → Stands {A = Compared} compared_ending run_refused_ending (Err stop) outcome_of
    stands_unread (At r) own h = (inr own, by files bound h)
      where
        by : (o : Option Files) → IfSome o (λ fs. bound_of_files fs x ≡ Ok w) → OfContent o x.expected (λ bytes. about subjects.Expected (expected_of bytes) ≡ Err r) → IfSome o (λ fs. IsExpectOutcome fs x (run_refused_ending r))
        by None k h = tt
        by (Some fs) k h =
            subst (λ (s : Result Whole Refused). Behind refused_ending s (λ v. Behind run_refused_ending (rows_of_files fs x) (IsComparison v)) (run_refused_ending r)) (sym k)
            (subst (λ (s : Result (List ExpectRow) RunRefused). Behind run_refused_ending s (IsComparison w) (run_refused_ending r)) (sym h) refl)
    stands_unread Read own h = tt
    stands_unread NoMemory own h = tt

    -- all files are accepted
    compared_so : (expected : List ExpectRow) → OfContent files x.expected (λ bytes. about subjects.Expected (expected_of bytes) ≡ Ok expected) → (e : Ending) → IsComparison w expected e → outcome_of e
    compared_so expected read e is = (subst (λ (s : Status). IsOfFiles s ⊎ (s ≡ statuses.Expected)) (ap (λ (y : Ending). y.status) (sym is.2)) (comparison_status expected (missed_of w.flat is.0 expected)), by files bound read)
      where
        by : (o : Option Files) → IfSome o (λ fs. bound_of_files fs x ≡ Ok w) → OfContent o x.expected (λ bytes. about subjects.Expected (expected_of bytes) ≡ Ok expected) → IfSome o (λ fs. IsExpectOutcome fs x e)
        by None k h = tt
        by (Some fs) k h =
            subst (λ (s : Result Whole Refused). Behind refused_ending s (λ v. Behind run_refused_ending (rows_of_files fs x) (IsComparison v)) e) (sym k)
            (subst (λ (s : Result (List ExpectRow) RunRefused). Behind run_refused_ending s (IsComparison w) e) (sym h) is)

    pub stands_compared : (expected : List ExpectRow) → OfContent files x.expected (λ bytes. about subjects.Expected (expected_of bytes) ≡ Ok expected) → (r : Result Compared (RunStop RunRefused))
        → Stands compared_ending run_refused_ending r (IsComparison w expected) → Stands compared_ending run_refused_ending r outcome_of
    stands_compared expected read r h = stands_weaker compared_ending run_refused_ending r (IsComparison w expected) outcome_of (compared_so expected read) h

-- ## Accepted input

found_all : (f : FlatList) (family : List Interval) (expected : List ExpectRow) → IsOk (nets_of f (map name_of expected)) → (missed : List Missed) × (missed_of f family expected ≡ Ok missed)
found_all f family expected ok = by (nets_of f (map name_of expected)) refl ok
  where
    by : (r : Result (List NetId) Misnamed) → nets_of f (map name_of expected) ≡ r → IsOk r → (missed : List Missed) × (missed_of f family expected ≡ Ok missed)
    by (Ok nets) e ok = (missed_from family 0 nets expected, rw e refl)
    by (Err bad) e ok = cc

accepted_by : (fs : Files) (x : ExpectFiles) (e : Ending) → AreComparable fs x → IsExpectOutcome fs x e → IsAccepted e.status
accepted_by fs x e (w, expected, bound, read, found) end =
    let inner : Behind run_refused_ending (rows_of_files fs x) (IsComparison w) e = subst (λ (s : Result Whole Refused). Behind refused_ending s (λ v. Behind run_refused_ending (rows_of_files fs x) (IsComparison v)) e) bound end in
    let is : IsComparison w expected e = subst (λ (s : Result (List ExpectRow) RunRefused). Behind run_refused_ending s (IsComparison w) e) read inner in
    let all = found_all w.flat is.0 expected found in
    accepted_missed all.0 e.status (ap (λ (y : Ending). y.status) (is.2 ∙ ap (comparison_ending expected) all.1))

expect_accepted : (files : Option Files) (x : ExpectFiles) (e : Ending) → IsSomeAnd files (λ fs. AreComparable fs x) → (expect_run files x).outcome e → IsAccepted e.status
expect_accepted None x e ok end = absurd ok
expect_accepted (Some fs) x e ok end = accepted_by fs x e ok end.1

-- ## What the run answers

pub expect_answers : (files : Option Files) (x : ExpectFiles) (r : Result Compared (RunStop RunRefused)) (before after : Counts) (t : Taken) (result : Status) → Stands compared_ending run_refused_ending r (expect_run files x).outcome
    → ReadOnlyWhere r (DueFailed (expect_run files x).due before after) → TellsRun compared_ending run_refused_ending r t result → Answers (expect_run files x) before after t result
expect_answers files x r before after t result stands cause told =
    run_answers compared_ending run_refused_ending told_compared told_run_refused (expect_run files x) r before after t result (λ e accepted end. expect_accepted files x e accepted end) stands cause told
