-- What the files of an edit session say, one after another.
use Rattle.std.proofs.Common.{◌≡◌, ℕ, inl, inr, true, List, Option, Some, None, refl, sym, ap, subst, ◌∙◌}
use Rattle.std.specs.Prelude.{IfSome, Result, Ok, Err, is_ok}
use Rattle.cvc_base.specs.Answers.{IfAt as IfReaderAt}
use Rattle.cvc_base.specs.declared.fault.Fault.{Fault}
use Rattle.cvc_base.specs.declared.fault.FileKind.TheVariants.{Power as PowerFile}
use Rattle.cvc_base.specs.declared.fault.Refusal.{Refusal}
use Rattle.cvc_base.specs.declared.fault.Refusal.TheVariants as refused_rows
use Rattle.cvc_base.specs.Order.{◌>>=◌}
use Rattle.cvc_delta.specs.declared.edit.Edit.{Edit}
use Rattle.cvc_delta.specs.declared.fault.EditsCause.{EditsCause}
use Rattle.cvc_delta.specs.Reading.{edits_of, told, verdict}
use Rattle.cvc_io.specs.Causes.{Rose}
use Rattle.cvc_io.specs.Files.{Counts, Files, NoneFalls, content}
use Rattle.cvc_power.specs.declared.row.PowerRow.{PowerRow}
use Rattle.cvc_power.specs.Power.{power_of, verdict as power_verdict}
use Rattle.cvc_rows.specs.declared.refused.LineFault.{LineFault}
use Rattle.cvc_rows.specs.declared.refused.Refused.{Refused as RowsRefused}
use Rattle.cvc_rows.specs.declared.refused.Refused.TheVariants as rows
use Rattle.cvc_rows.specs.Refusing.{Answers as RowsAnswer}
use Rattle.cvc_rows.specs.Rows.{as_written, on_file}
use Rattle.cvc_run.specs.Due.{DueFailed, design_due, is_accepted}
use Rattle.cvc_run.specs.Lines.{run_refused_ending, stop_of}
use Rattle.cvc_run.specs.Loads.{OfContent, up_to}
use Rattle.cvc_run.specs.Said.{Parts, design_of, parts}
use Rattle.cvc_run.specs.Stages.{at_stage, refused}
use Rattle.cvc_run.specs.Stops.{IfAt, Says}
use Rattle.cvc_run.specs.declared.lines.RunRefused.{RunRefused}
use Rattle.cvc_run.specs.declared.lines.RunRefused.TheVariants as refusals
use Rattle.cvc_run.specs.declared.stage.Refused.{Refused}
use Rattle.cvc_run.specs.declared.stage.Stage.TheVariants as stages
use Rattle.cvc_run.specs.declared.stages.Design.{Design}
use Rattle.cvc_run.specs.declared.stop.RunStop.{RunStop}
use Rattle.cvc_run.specs.declared.stop.RunStop.TheVariants.{At, Read, NoMemory}
use Rattle.cvc_run.proofs.Limits.{rows-up_to}
use Rattle.cvc_run.proofs.Loading.{of_weaker, says_first, says_next}
use Rattle.cvc_run.proofs.Shelving.{rose_later}
use Rattle.cvc_run.proofs.Steps.{accepted_design}
use Rattle.cvc_top.specs.declared.session.Inputs.{Inputs}
use Rattle.cvc_top.specs.Sessions.{InputsView, IsOfSession, SessionFiles, about_edits, at_files, edits_refused, edits_stop, inputs_in, inputs_view, power_stop, session_due, supplies_in}

-- ## One file

-- what was read of the bytes up to the limit is what the file says
module _ (files : Option Files) (name text : List ℕ) (read : OfContent files name (λ bytes. text ≡ up_to 16777216 bytes)) where
  same_power : (bytes : List ℕ) → text ≡ up_to 16777216 bytes → power_of text ≡ power_of bytes
  same_power bytes e = ap power_of e ∙ ap (on_file PowerFile) (rows-up_to PowerFile as_written power_verdict bytes)

  pub supplies_read : (found : List PowerRow) → power_of text ≡ Ok found → OfContent files name (λ bytes. supplies_in bytes ≡ Ok found)
  supplies_read found says =
      of_weaker files name (λ bytes. text ≡ up_to 16777216 bytes) (λ bytes. supplies_in bytes ≡ Ok found)
      (λ bytes e. ap (λ (w : Result (List PowerRow) Fault). at_files (at_stage stages.Power w)) (sym (same_power bytes e) ∙ says)) read

  pub supplies_refused : (r : Refusal) → IfReaderAt {A = List PowerRow} (Err r) (λ fault. power_of text ≡ Err fault)
      → OfContent files name (λ bytes. Says {A = List PowerRow} (λ found. found) (Err (power_stop r)) (supplies_in bytes))
  supplies_refused (refused_rows.At fault) says =
      of_weaker files name (λ bytes. text ≡ up_to 16777216 bytes) (λ bytes. supplies_in bytes ≡ Err (refusals.At (refused stages.Power fault)))
      (λ bytes e. ap (λ (w : Result (List PowerRow) Fault). at_files (at_stage stages.Power w)) (sym (same_power bytes e) ∙ says)) read
  supplies_refused refused_rows.NoMemory says = of_weaker files name (λ bytes. text ≡ up_to 16777216 bytes) (λ bytes. Unit {0}) (λ bytes e. tt) read

  module _ (supplies : List PowerRow) where
    same_edits : (bytes : List ℕ) → text ≡ up_to 16777216 bytes → edits_of supplies text ≡ edits_of supplies bytes
    same_edits bytes e = ap (edits_of supplies) e ∙ rows-up_to PowerFile told (verdict supplies) bytes

    pub edits_read : (found : List Edit) → edits_of supplies text ≡ Ok found → OfContent files name (λ bytes. about_edits (edits_of supplies bytes) ≡ Ok found)
    edits_read found says =
        of_weaker files name (λ bytes. text ≡ up_to 16777216 bytes) (λ bytes. about_edits (edits_of supplies bytes) ≡ Ok found)
        (λ bytes e. ap about_edits (sym (same_edits bytes e) ∙ says)) read

    pub edits_stopped : (r : RowsRefused (LineFault EditsCause)) → RowsAnswer {A = List Edit} (Err r) (edits_of supplies text)
        → OfContent files name (λ bytes. Says {A = List Edit} (λ found. found) (Err (edits_stop r)) (about_edits (edits_of supplies bytes)))
    edits_stopped (rows.At fault) says =
        of_weaker files name (λ bytes. text ≡ up_to 16777216 bytes) (λ bytes. about_edits (edits_of supplies bytes) ≡ Err (edits_refused fault))
        (λ bytes e. ap about_edits (sym (same_edits bytes e) ∙ says)) read
    edits_stopped rows.NoMemory says = of_weaker files name (λ bytes. text ≡ up_to 16777216 bytes) (λ bytes. Unit {0}) (λ bytes e. tt) read

-- ## Statuses of stops

pub power_own : (A : Type 0) (r : Refusal) → IfAt {A = A} (Err (power_stop r)) (λ x. IsOfSession (run_refused_ending x).status)
power_own A (refused_rows.At fault) = inl (inr (inr (stages.Power, refl)))
power_own A refused_rows.NoMemory = tt

pub edits_own : (A : Type 0) (r : RowsRefused (LineFault EditsCause)) → IfAt {A = A} (Err (edits_stop r)) (λ x. IsOfSession (run_refused_ending x).status)
edits_own A (rows.At fault) = inr refl
edits_own A rows.NoMemory = tt

pub design_own : (A : Type 0) (x : RunStop Refused) → IfAt {A = A} (Err (stop_of x)) (λ r. IsOfSession (run_refused_ending r).status)
design_own A (At r) = inl (inr (inr (r.stage, refl)))
design_own A Read = tt
design_own A NoMemory = tt

pub own_through : (A B : Type 0) (x : RunStop RunRefused) → IfAt {A = A} (Err x) (λ r. IsOfSession (run_refused_ending r).status) → IfAt {A = B} (Err x) (λ r. IsOfSession (run_refused_ending r).status)
own_through A B (At r) h = h
own_through A B Read h = tt
own_through A B NoMemory h = tt

-- ## All of them

abbrev parts_of : Design → Parts
parts_of d = parts d.flat.list d.models

says_files : {A B C : Type 0} (view : A → B) (other : C → B) (x : RunStop Refused) (w : Result B Refused) → Says view (Err x) w → Says other (Err (stop_of x)) (at_files w)
says_files view other (At r) w h = ap at_files h
says_files view other Read w h = tt
says_files view other NoMemory w h = tt

abbrev rest_of : Files → SessionFiles → Parts → Result InputsView RunRefused
rest_of fs x d = ◌>>=◌ (supplies_in (content fs x.power)) (λ s. ◌>>=◌ (about_edits (edits_of s (content fs x.edits))) (λ done. Ok (record { parts = d; rows = s; edits = done })))

inputs_are : (fs : Files) (x : SessionFiles) → inputs_in fs x ≡ ◌>>=◌ (at_files (design_of x.top (content fs x.netlist) (content fs x.models))) (rest_of fs x)
unfolding inputs_in
inputs_are fs x = refl

said_so : {A : Type 0} (view : A → InputsView) (r : Result A (RunStop RunRefused)) (fs : Files) (x : SessionFiles)
    → Says view r (◌>>=◌ (at_files (design_of x.top (content fs x.netlist) (content fs x.models))) (rest_of fs x)) → Says view r (inputs_in fs x)
said_so view r fs x h = subst (Says view r) (sym (inputs_are fs x)) h

module _ (files : Option Files) (x : SessionFiles) where
  pub stops_at_design : (stop : RunStop Refused) → IfSome files (λ fs. Says parts_of (Err stop) (design_of x.top (content fs x.netlist) (content fs x.models)))
      → IfSome files (λ fs. Says inputs_view (Err (stop_of stop)) (inputs_in fs x))
  stops_at_design stop = by files
    where
      by : (o : Option Files) → IfSome o (λ fs. Says parts_of (Err stop) (design_of x.top (content fs x.netlist) (content fs x.models))) → IfSome o (λ fs. Says inputs_view (Err (stop_of stop)) (inputs_in fs x))
      by None h = tt
      by (Some fs) h = at fs h
        where
          at : (fs : Files) → Says parts_of (Err stop) (design_of x.top (content fs x.netlist) (content fs x.models)) → Says inputs_view (Err (stop_of stop)) (inputs_in fs x)
          at fs h = said_so inputs_view (Err (stop_of stop)) fs x (says_first parts_of inputs_view (stop_of stop) (at_files (design_of x.top (content fs x.netlist) (content fs x.models))) (rest_of fs x) (says_files parts_of parts_of stop (design_of x.top (content fs x.netlist) (content fs x.models)) h))

  pub design_failed : (a c : Counts) → DueFailed (design_due files x.top x.netlist x.models) a c → DueFailed (session_due files x) a c
  design_failed a c (inl rose) = inl rose
  design_failed a c (inr (flat, inl rose)) = inr (flat, inl rose)
  design_failed a c (inr (flat, inr (models, none))) = absurd none

  module _ (d : Design) (design : IfSome files (λ fs. design_of x.top (content fs x.netlist) (content fs x.models) ≡ Ok (parts_of d))) where
    pub stops_at_power : (stop : RunStop RunRefused) → OfContent files x.power (λ bytes. Says {A = List PowerRow} (λ found. found) (Err stop) (supplies_in bytes))
        → IfSome files (λ fs. Says inputs_view (Err stop) (inputs_in fs x))
    stops_at_power stop = by files design
      where
        at : (fs : Files) → design_of x.top (content fs x.netlist) (content fs x.models) ≡ Ok (parts_of d) → Says {A = List PowerRow} (λ found. found) (Err stop) (supplies_in (content fs x.power))
            → Says inputs_view (Err stop) (inputs_in fs x)
        at fs is h =
            said_so inputs_view (Err stop) fs x (says_next inputs_view (Err stop) (at_files (design_of x.top (content fs x.netlist) (content fs x.models))) (parts_of d) (rest_of fs x) (ap at_files is)
            (says_first {A = List PowerRow} (λ found. found) inputs_view stop (supplies_in (content fs x.power)) (λ s. ◌>>=◌ (about_edits (edits_of s (content fs x.edits))) (λ done. Ok (record { parts = parts_of d; rows = s; edits = done }))) h))

        by : (o : Option Files) → IfSome o (λ fs. design_of x.top (content fs x.netlist) (content fs x.models) ≡ Ok (parts_of d)) → OfContent o x.power (λ bytes. Says {A = List PowerRow} (λ found. found) (Err stop) (supplies_in bytes))
            → IfSome o (λ fs. Says inputs_view (Err stop) (inputs_in fs x))
        by None is h = tt
        by (Some fs) is h = at fs is h

    pub power_failed : (a b c : Counts) → NoneFalls a b → Rose (b x.power) (c x.power) → DueFailed (session_due files x) a c
    power_failed a b c less rose =
        let both = accepted_design x.top files x.netlist x.models (parts_of d) design in
        inr (both.0, inr (both.1, inl (rose_later (a x.power) (b x.power) (c x.power) (less x.power) rose)))

    module _ (supplies : List PowerRow) (found : OfContent files x.power (λ bytes. supplies_in bytes ≡ Ok supplies)) where
      power_accepted : is_accepted power_of files x.power ≡ true
      power_accepted = by files found
        where
          read : (w : Result (List PowerRow) Fault) → at_files (at_stage stages.Power w) ≡ Ok supplies → is_ok w ≡ true
          read (Ok s) e = refl
          read (Err fault) e = cc

          by : (o : Option Files) → OfContent o x.power (λ bytes. supplies_in bytes ≡ Ok supplies) → is_accepted power_of o x.power ≡ true
          by None h = refl
          by (Some fs) h = read (power_of (content fs x.power)) h

      pub edits_failed : (a b c : Counts) → NoneFalls a b → Rose (b x.edits) (c x.edits) → DueFailed (session_due files x) a c
      edits_failed a b c less rose =
          let both = accepted_design x.top files x.netlist x.models (parts_of d) design in
          inr (both.0, inr (both.1, inr (power_accepted, inl (rose_later (a x.edits) (b x.edits) (c x.edits) (less x.edits) rose))))

      pub edits_said : (r : Result Inputs (RunStop RunRefused)) (own : (fs : Files) → Type 0)
          → ((fs : Files) → own fs → Says inputs_view r (◌>>=◌ (about_edits (edits_of supplies (content fs x.edits))) (λ done. Ok (record { parts = parts_of d; rows = supplies; edits = done }))))
          → IfSome files own → IfSome files (λ fs. Says inputs_view r (inputs_in fs x))
      edits_said r own says = by files design found
        where
          at : (fs : Files) → design_of x.top (content fs x.netlist) (content fs x.models) ≡ Ok (parts_of d) → supplies_in (content fs x.power) ≡ Ok supplies → own fs → Says inputs_view r (inputs_in fs x)
          at fs is at_power h =
              said_so inputs_view r fs x (says_next inputs_view r (at_files (design_of x.top (content fs x.netlist) (content fs x.models))) (parts_of d) (rest_of fs x) (ap at_files is)
              (says_next inputs_view r (supplies_in (content fs x.power)) supplies (λ s. ◌>>=◌ (about_edits (edits_of s (content fs x.edits))) (λ done. Ok (record { parts = parts_of d; rows = s; edits = done }))) at_power (says fs h)))

          by : (o : Option Files) → IfSome o (λ fs. design_of x.top (content fs x.netlist) (content fs x.models) ≡ Ok (parts_of d)) → OfContent o x.power (λ bytes. supplies_in bytes ≡ Ok supplies) → IfSome o own
              → IfSome o (λ fs. Says inputs_view r (inputs_in fs x))
          by None is at_power h = tt
          by (Some fs) is at_power h = at fs is at_power h

      pub stops_at_edits : (stop : RunStop RunRefused) → OfContent files x.edits (λ bytes. Says {A = List Edit} (λ done. done) (Err stop) (about_edits (edits_of supplies bytes)))
          → IfSome files (λ fs. Says inputs_view (Err stop) (inputs_in fs x))
      stops_at_edits stop =
          edits_said (Err stop) (λ fs. Says {A = List Edit} (λ done. done) (Err stop) (about_edits (edits_of supplies (content fs x.edits))))
          (λ fs h. says_first {A = List Edit} (λ done. done) inputs_view stop (about_edits (edits_of supplies (content fs x.edits))) (λ done. Ok (record { parts = parts_of d; rows = supplies; edits = done })) h)

      pub all_read : (i : Inputs) → i.design ≡ d → i.power ≡ supplies → OfContent files x.edits (λ bytes. about_edits (edits_of supplies bytes) ≡ Ok i.edits) → IfSome files (λ fs. inputs_in fs x ≡ Ok (inputs_view i))
      all_read i same_design same_power =
          edits_said (Ok i) (λ fs. about_edits (edits_of supplies (content fs x.edits)) ≡ Ok i.edits)
          (λ fs h. ap (λ (w : Result (List Edit) RunRefused). ◌>>=◌ w (λ done. Ok (record { parts = parts_of d; rows = supplies; edits = done }))) h
          ∙ (λ j. Ok (record { parts = parts_of (sym same_design j); rows = sym same_power j; edits = i.edits })))
