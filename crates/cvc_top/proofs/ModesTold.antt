-- What a run of modes answers.
use Rattle.std.proofs.Common.{◌≡◌, ℕ, zero, suc, ◌+◌, ◌<◌, ◌≤◌, List, [], ◌∷◌, length, map, take, get_or, Option, Some, None, Result, Ok, Err, All, inl, inr, refl, sym, ap, subst, ◌∙◌, arith}
use Rattle.std.specs.Prelude.{IfOk, IfSome, IsOk, IsSomeAnd, slice_index_or}
use Rattle.cvc_io.specs.Files.{Counts, Files, NoneFalls}
use Rattle.std.proofs.lemmas.List.{get_or_read_under, take_all}
use Rattle.cvc_modes.proofs.Totals.{total_more}
use Rattle.cvc_modes.specs.declared.fault.ListCause.{ListCause}
use Rattle.cvc_rows.specs.declared.refused.LineFault.{LineFault}
use Rattle.cvc_rows.specs.declared.refused.Refused.{Refused as Listless}
use Rattle.cvc_rows.specs.declared.refused.Refused.TheVariants as lists
use Rattle.cvc_run.specs.declared.stage.Refused.{Refused}
use Rattle.cvc_top.proofs.ModesDue.{powers_failed}
use Rattle.cvc_judge.specs.Judged.{IsJudged}
use Rattle.cvc_judge.specs.declared.judged.Judged.{Judged}
use Rattle.cvc_law.specs.Network.{Network}
use Rattle.cvc_modes.specs.Checked.{circuit_in}
use Rattle.cvc_modes.specs.Text.{total}
use Rattle.cvc_modes.specs.declared.row.ModeRow.{ModeRow}
use Rattle.cvc_run.specs.Due.{DueFailed}
use Rattle.cvc_run.specs.Lines.{run_refused_ending, stop_of}
use Rattle.cvc_run.specs.Outcome.{Behind}
use Rattle.cvc_run.specs.Outside.{Ending, Ends, Taken}
use Rattle.cvc_run.specs.Run.{Answers}
use Rattle.cvc_run.specs.Stops.{IfAt, ReadOnlyWhere, Says}
use Rattle.cvc_run.specs.Telling.{IsAccepted, IsTold, Stands, TellsRun}
use Rattle.cvc_run.specs.declared.status.Status.{Status}
use Rattle.cvc_run.specs.declared.status.Status.TheVariants.{Clean, Errors}
use Rattle.cvc_run.specs.declared.stop.RunStop.{RunStop}
use Rattle.cvc_run.specs.declared.stop.RunStop.TheVariants.{At, Read, NoMemory}
use Rattle.cvc_run.proofs.Answering.{run_answers, told_at, told_run_refused}
use Rattle.cvc_top.specs.Modes.{IsModesAccepted, IsModesEnd, IsModesOutcome, IsOfModes, ListedParts, PowerFailed, bound_modes, list_stop, listed_in, mode_ending, modes_due, modes_ending, modes_run, named_ending, no_row, total_status}
use Rattle.cvc_top.specs.ModesHeld.{listed_view, told_modes}
use Rattle.cvc_top.specs.declared.modes.ModesTold.{ModesTold}
use Rattle.cvc_top.specs.declared.modes.Listed.{Listed}
use Rattle.cvc_run.specs.declared.lines.RunRefused.{RunRefused}
use Rattle.cvc_top.specs.declared.modes.ModeRefused.{ModeRefused}

-- ## Statuses

told_total : (n : ℕ) → IsTold (total_status n)
told_total zero = tt
told_total (suc n) = tt

accepted_total : (n : ℕ) (status : Status) → status ≡ total_status n → IsAccepted status
accepted_total zero status e = inl e
accepted_total (suc n) status e = inr e

of_total : (n : ℕ) → IsOfModes (total_status n)
of_total zero = inl (inl refl)
of_total (suc n) = inl (inr (inl refl))

errors_by : (n : ℕ) → 0 < n → Errors ≡ total_status n
errors_by zero some = absurd (omega arith)
errors_by (suc n) some = refl

at_least : (js : List Judged) (i : ℕ) (j : Judged) → i < length js → j ≡ get_or js i j → length j.findings ≤ total js
at_least [] i j inside there = absurd (omega arith)
at_least (x ∷ xs) zero j inside there = let same = ap (λ (y : Judged). length y.findings) there in omega (arith, same)
at_least (x ∷ xs) (suc i) j inside there = let rest = at_least xs i j (omega arith) there in omega (arith, rest)

-- a mode has findings
pub some_found : (js : List Judged) (i : ℕ) (j : Judged) → i < length js → j ≡ get_or js i j → 0 < length j.findings → Errors ≡ total_status (total js)
some_found js i j inside there some = let most = at_least js i j inside there in errors_by (total js) (omega (arith, most, some))

pub none_found : (js : List Judged) (i : ℕ) → length js ≤ i → total (take i js) ≡ 0 → Clean ≡ total_status (total js)
none_found js i ended none = ap total_status (sym none ∙ ap total (take_all i js ended))

pub none_more : (js : List Judged) (i : ℕ) (j : Judged) → i < length js → j ≡ get_or js i j → length j.findings ≡ 0 → total (take i js) ≡ 0 → total (take (i + 1) js) ≡ 0
none_more js i j inside there empty none = let more = total_more js i j j there inside in omega (arith, more, empty, none)

-- ## A refused mode

-- the row at its place has its name
pub told_of_its_row : (rows : List ModeRow) (r : ModeRefused) (row : ModeRow) (name : List ℕ) (t : Taken) (result : Status) → r.mode < length rows → row ≡ slice_index_or rows r.mode row → name ≡ row.name
    → Ends (named_ending name r.refused) t result → Ends (mode_ending rows r) t result
told_of_its_row rows r row name t result inside there same ends =
    let at : row ≡ slice_index_or rows r.mode no_row = get_or_read_under rows r.mode (length rows) row no_row there inside refl in
    subst (λ (n : List ℕ). Ends (named_ending n r.refused) t result) (same ∙ ap (λ (x : ModeRow). x.name) at) ends

-- ## How it ends

module _ (files : Option Files) (top : Option (List ℕ)) (netlist models list : List ℕ) where
  only_accepted : (e : Ending) → IsSomeAnd files (λ fs. IsModesAccepted fs top netlist models list) → (modes_run files top netlist models list).outcome e → IsAccepted e.status
  only_accepted e accepted end = by files accepted end.1
    where
      ended : (fs : Files) (l : ListedParts) (circuits : Result (List Network) ModeRefused) → IsOk circuits → Behind (mode_ending l.rows) circuits (IsModesEnd l) e → IsAccepted e.status
      ended fs l (Ok cs) ok told = accepted_total (total told.0) e.status (ap (λ x. x.status) told.3)
      ended fs l (Err r) ok told = cc

      by : (o : Option Files) → IsSomeAnd o (λ fs. IsModesAccepted fs top netlist models list) → IfSome o (λ fs. IsModesOutcome fs top netlist models list e) → IsAccepted e.status
      by None ok told = absurd ok
      by (Some fs) ok told =
          ended fs ok.0 (bound_modes fs ok.0) ok.2
          (subst (λ (w : Result ListedParts RunRefused). Behind run_refused_ending w (λ l. Behind (mode_ending l.rows) (bound_modes fs l) (IsModesEnd l)) e) ok.1 told)

  -- the design or the list is refused
  first_stands : (x : RunStop RunRefused) → IfAt {A = Listed} (Err x) (λ r. IsOfModes (run_refused_ending r).status) → IfSome files (λ fs. Says listed_view (Err x) (listed_in fs top netlist models list))
      → Stands {A = ModesTold} told_modes run_refused_ending (Err x) (modes_run files top netlist models list).outcome
  first_stands (At r) of says = (of, by files says)
    where
      by : (o : Option Files) → IfSome o (λ fs. Says listed_view (Err (At r)) (listed_in fs top netlist models list)) → IfSome o (λ fs. IsModesOutcome fs top netlist models list (run_refused_ending r))
      by None h = tt
      by (Some fs) h = subst (λ (w : Result ListedParts RunRefused). Behind run_refused_ending w (λ l. Behind (mode_ending l.rows) (bound_modes fs l) (IsModesEnd l)) (run_refused_ending r)) (sym h) refl
  first_stands Read of says = tt
  first_stands NoMemory of says = tt

  pub stopped_answers : (x : RunStop RunRefused) (before after : Counts) (t : Taken) (result : Status) → IfAt {A = Listed} (Err x) (λ r. IsOfModes (run_refused_ending r).status)
      → IfSome files (λ fs. Says listed_view (Err x) (listed_in fs top netlist models list)) → ReadOnlyWhere {A = Listed} (Err x) (DueFailed (modes_due files top netlist models list) before after)
      → TellsRun {A = ModesTold} told_modes run_refused_ending (Err x) t result → Answers (modes_run files top netlist models list) before after t result
  stopped_answers x before after t result of says cause told =
      run_answers told_modes run_refused_ending (λ y. told_total (total y.results.now)) told_run_refused (modes_run files top netlist models list) (Err x) before after t result only_accepted (first_stands x of says) (read x cause) told
    where
      read : (y : RunStop RunRefused) → ReadOnlyWhere {A = Listed} (Err y) (DueFailed (modes_due files top netlist models list) before after) → ReadOnlyWhere {A = ModesTold} (Err y) (DueFailed (modes_due files top netlist models list) before after)
      read (At r) h = tt
      read Read h = h
      read NoMemory h = tt

  -- they are accepted
  module _ (l : ListedParts) (listed : IfSome files (λ fs. listed_in fs top netlist models list ≡ Ok l)) where
    behind : (e : Ending) → IfSome files (λ fs. Behind (mode_ending l.rows) (bound_modes fs l) (IsModesEnd l) e) → IfSome files (λ fs. IsModesOutcome fs top netlist models list e)
    behind e h = by files listed h
      where
        by : (o : Option Files) → IfSome o (λ fs. listed_in fs top netlist models list ≡ Ok l) → IfSome o (λ fs. Behind (mode_ending l.rows) (bound_modes fs l) (IsModesEnd l) e)
            → IfSome o (λ fs. IsModesOutcome fs top netlist models list e)
        by None is k = tt
        by (Some fs) is k = subst (λ (w : Result ListedParts RunRefused). Behind run_refused_ending w (λ l. Behind (mode_ending l.rows) (bound_modes fs l) (IsModesEnd l)) e) (sym is) k

    second_stands : (run : Result (List Judged) (RunStop ModeRefused)) → IfOk run (All IsJudged) → IfSome files (λ fs. Says (λ js. map circuit_in js) run (bound_modes fs l))
        → Stands (modes_ending l.parts.flat l.rows) (mode_ending l.rows) run (modes_run files top netlist models list).outcome
    second_stands (Ok js) judged says = (of_total (total js), behind (modes_ending l.parts.flat l.rows js) (by files says))
      where
        by : (o : Option Files) → IfSome o (λ fs. bound_modes fs l ≡ Ok (map circuit_in js)) → IfSome o (λ fs. Behind (mode_ending l.rows) (bound_modes fs l) (IsModesEnd l) (modes_ending l.parts.flat l.rows js))
        by None h = tt
        by (Some fs) h = subst (λ (w : Result (List Network) ModeRefused). Behind (mode_ending l.rows) w (IsModesEnd l) (modes_ending l.parts.flat l.rows js)) (sym h) (js, refl, judged, refl)
    second_stands (Err (At r)) judged says = (inl (inr (inr (r.refused.stage, refl))), behind (mode_ending l.rows r) (by files says))
      where
        by : (o : Option Files) → IfSome o (λ fs. bound_modes fs l ≡ Err r) → IfSome o (λ fs. Behind (mode_ending l.rows) (bound_modes fs l) (IsModesEnd l) (mode_ending l.rows r))
        by None h = tt
        by (Some fs) h = subst (λ (w : Result (List Network) ModeRefused). Behind (mode_ending l.rows) w (IsModesEnd l) (mode_ending l.rows r)) (sym h) refl
    second_stands (Err Read) judged says = tt
    second_stands (Err NoMemory) judged says = tt

    pub listed_answers : (run : Result (List Judged) (RunStop ModeRefused)) (before between after : Counts) (t : Taken) (result : Status) → NoneFalls before between → IfOk run (All IsJudged)
        → IfSome files (λ fs. Says (λ js. map circuit_in js) run (bound_modes fs l)) → ReadOnlyWhere run (PowerFailed files l.rows between after)
        → TellsRun (modes_ending l.parts.flat l.rows) (mode_ending l.rows) run t result → Answers (modes_run files top netlist models list) before after t result
    listed_answers run before between after t result less judged says cause told =
        run_answers (modes_ending l.parts.flat l.rows) (mode_ending l.rows) (λ js. told_total (total js)) (λ r. told_at r.refused.stage) (modes_run files top netlist models list) run before after t result only_accepted
        (second_stands run judged says) (read run cause) told
      where
        read : (r : Result (List Judged) (RunStop ModeRefused)) → ReadOnlyWhere r (PowerFailed files l.rows between after) → ReadOnlyWhere r (DueFailed (modes_due files top netlist models list) before after)
        read (Ok js) h = tt
        read (Err (At r)) h = tt
        read (Err Read) h = powers_failed files top netlist models list l listed before between after less h
        read (Err NoMemory) h = tt

-- ## Statuses of stops

pub of_design_stop : (A : Type 0) (x : RunStop Refused) → IfAt {A = A} (Err (stop_of x)) (λ r. IsOfModes (run_refused_ending r).status)
of_design_stop A (At r) = inl (inr (inr (r.stage, refl)))
of_design_stop A Read = tt
of_design_stop A NoMemory = tt

pub of_list_stop : (A : Type 0) (x : Listless (LineFault ListCause)) → IfAt {A = A} (Err (list_stop x)) (λ r. IsOfModes (run_refused_ending r).status)
of_list_stop A (lists.At fault) = inr refl
of_list_stop A lists.NoMemory = tt
