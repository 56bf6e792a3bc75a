-- What a run answers that was told: one of its endings, a fault of the outside or want of memory; and accepted input is answered.
use Rattle.std.proofs.Common.{◌≡◌, ℕ, inl, inr, List, [], ◌∷◌, refl, sym, subst}
use Rattle.std.specs.Prelude.{Result, Ok, Err}
use Rattle.cvc_base.specs.declared.finding.Finding.{Finding}
use Rattle.cvc_io.specs.Files.{Counts}
use Rattle.cvc_run.specs.Due.{DueFailed}
use Rattle.cvc_run.specs.Outcome.{refused_ending, status_of}
use Rattle.cvc_run.specs.Outside.{Ending, Ends, MayAnswer, Outcome, SinkFailed, Taken, Wrote, ending}
use Rattle.cvc_run.specs.Lines.{line_ending, run_refused_ending, status_about}
use Rattle.cvc_run.specs.Run.{Answers, IsAnswered, Run}
use Rattle.cvc_run.specs.Stages.{status_at}
use Rattle.cvc_run.specs.Stops.{ReadOnlyWhere}
use Rattle.cvc_run.specs.Telling.{IsAccepted, IsTold, Stands, TellsRun}
use Rattle.cvc_run.specs.declared.lines.LineRefused.{LineRefused}
use Rattle.cvc_run.specs.declared.lines.RunRefused.{RunRefused}
use Rattle.cvc_run.specs.declared.lines.RunRefused.TheVariants as refusals
use Rattle.cvc_run.specs.declared.lines.Subject.{Subject}
use Rattle.cvc_run.specs.declared.lines.Subject.TheVariants as subjects
use Rattle.cvc_run.specs.declared.stage.Refused.{Refused}
use Rattle.cvc_run.specs.declared.stage.Stage.{Stage}
use Rattle.cvc_run.specs.declared.stage.Stage.TheVariants as stages
use Rattle.cvc_run.specs.declared.status.Status.{Status}
use Rattle.cvc_run.specs.declared.status.Status.TheVariants as s
use Rattle.cvc_run.specs.declared.stop.RunStop.{RunStop}
use Rattle.cvc_run.specs.declared.stop.RunStop.TheVariants.{At, Read, NoMemory}

-- ## A text that was told

told_whole : (outcome : Outcome) (failed : Type 0) (t : Taken) (status : Status) (text : List ℕ) → IsTold status → outcome (ending status text) → Wrote t text → MayAnswer outcome failed t status
told_whole outcome failed t s.Clean text told is wrote = (text, is, wrote)
told_whole outcome failed t s.Errors text told is wrote = (text, is, wrote)
told_whole outcome failed t s.Words text told is wrote = (text, is, wrote)
told_whole outcome failed t s.Netlist text told is wrote = (text, is, wrote)
told_whole outcome failed t s.Models text told is wrote = (text, is, wrote)
told_whole outcome failed t s.Power text told is wrote = (text, is, wrote)
told_whole outcome failed t s.Binding text told is wrote = (text, is, wrote)
told_whole outcome failed t s.Certificate text told is wrote = (text, is, wrote)
told_whole outcome failed t s.Expected text told is wrote = (text, is, wrote)
told_whole outcome failed t s.Modes text told is wrote = (text, is, wrote)
told_whole outcome failed t s.Edits text told is wrote = (text, is, wrote)
told_whole outcome failed t s.ReadFault text told is wrote = absurd told
told_whole outcome failed t s.WriteFault text told is wrote = absurd told
told_whole outcome failed t s.NoMemory text told is wrote = absurd told

module _ (outcome : Outcome) (failed : Type 0) (t : Taken) (result : Status) where
  answers_at : (status : Status) → result ≡ status → MayAnswer outcome failed t status → MayAnswer outcome failed t result
  answers_at status e h = subst (λ (r : Status). MayAnswer outcome failed t r) (sym e) h

  told_answers : (e : Ending) → IsTold e.status → outcome e → Ends e t result → MayAnswer outcome failed t result
  told_answers e told is (inl (same, wrote)) = answers_at e.status same (told_whole outcome failed t e.status e.text told is wrote)
  told_answers e told is (inr (same, rose, front)) = answers_at s.WriteFault same (rose, (e, is, front))

-- ## Accepted input

answered : (outcome : Outcome) (failed : Type 0) (t : Taken) (status : Status) → ((e : Ending) → outcome e → IsAccepted e.status) → MayAnswer outcome failed t status → (failed → ⊥) → (SinkFailed t → ⊥) → IsAnswered outcome t status
answered outcome failed t s.Clean only h shelf sink = inr (only (ending s.Clean h.0) h.1, h)
answered outcome failed t s.Errors only h shelf sink = inr (only (ending s.Errors h.0) h.1, h)
answered outcome failed t s.Words only h shelf sink = inr (only (ending s.Words h.0) h.1, h)
answered outcome failed t s.Netlist only h shelf sink = inr (only (ending s.Netlist h.0) h.1, h)
answered outcome failed t s.Models only h shelf sink = inr (only (ending s.Models h.0) h.1, h)
answered outcome failed t s.Power only h shelf sink = inr (only (ending s.Power h.0) h.1, h)
answered outcome failed t s.Binding only h shelf sink = inr (only (ending s.Binding h.0) h.1, h)
answered outcome failed t s.Certificate only h shelf sink = inr (only (ending s.Certificate h.0) h.1, h)
answered outcome failed t s.Expected only h shelf sink = inr (only (ending s.Expected h.0) h.1, h)
answered outcome failed t s.Modes only h shelf sink = inr (only (ending s.Modes h.0) h.1, h)
answered outcome failed t s.Edits only h shelf sink = inr (only (ending s.Edits h.0) h.1, h)
answered outcome failed t s.ReadFault only h shelf sink = absurd (shelf h.0)
answered outcome failed t s.WriteFault only h shelf sink = absurd (sink h.0)
answered outcome failed t s.NoMemory only h shelf sink = inl refl

-- ## A run that was told

module _ {A F : Type 0} (answer : A → Ending) (refusal : F → Ending) (all_told : (x : A) → IsTold (answer x).status) (all_refused : (x : F) → IsTold (refusal x).status) where
  may_answer : (r : Result A (RunStop F)) (outcome : Outcome) (failed : Type 0) (t : Taken) (result : Status) → Stands answer refusal r outcome → ReadOnlyWhere r failed → TellsRun answer refusal r t result
      → MayAnswer outcome failed t result
  may_answer (Ok x) outcome failed t result stands cause told = told_answers outcome failed t result (answer x) (all_told x) stands told
  may_answer (Err (At x)) outcome failed t result stands cause told = told_answers outcome failed t result (refusal x) (all_refused x) stands told
  may_answer (Err Read) outcome failed t result stands cause (e, nothing) = answers_at outcome failed t result s.ReadFault e (cause, nothing)
  may_answer (Err NoMemory) outcome failed t result stands cause (e, nothing) = answers_at outcome failed t result s.NoMemory e nothing

  -- what any run answers whose answer or refusal was told
  pub run_answers : (run : Run) (r : Result A (RunStop F)) (before after : Counts) (t : Taken) (result : Status) → ((e : Ending) → run.accepted → run.outcome e → IsAccepted e.status) → Stands answer refusal r run.outcome
      → ReadOnlyWhere r (DueFailed run.due before after) → TellsRun answer refusal r t result → Answers run before after t result
  run_answers run r before after t result only stands cause told =
      let failed = DueFailed run.due before after in
      let may : MayAnswer run.outcome failed t result = may_answer r run.outcome failed t result stands cause told in
      (may, λ accepted shelf sink. answered run.outcome failed t result (λ e end. only e accepted end) may shelf sink)

-- ## Statuses that are told

pub told_at : (stage : Stage) → IsTold (status_at stage)
told_at stages.Netlist = tt
told_at stages.Models = tt
told_at stages.Power = tt
told_at stages.Binding = tt

pub told_refused : (r : Refused) → IsTold (refused_ending r).status
told_refused r = told_at r.stage

told_about : (subject : Subject) → IsTold (status_about subject)
told_about subjects.Log = tt
told_about subjects.Report = tt
told_about subjects.Expected = tt
told_about subjects.Modes = tt
told_about subjects.Edits = tt

pub told_line : (r : LineRefused) → IsTold (line_ending r).status
told_line r = told_about r.subject

pub told_run_refused : (r : RunRefused) → IsTold (run_refused_ending r).status
told_run_refused (refusals.At r) = told_refused r
told_run_refused (refusals.Line r) = told_line r

pub told_findings : (found : List Finding) → IsTold (status_of found)
told_findings [] = tt
told_findings (x ∷ xs) = tt

pub accepted_findings : (found : List Finding) (status : Status) → status ≡ status_of found → IsAccepted status
accepted_findings [] status e = inl e
accepted_findings (x ∷ xs) status e = inr e
