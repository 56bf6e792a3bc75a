-- What the run of `prove` answers.
use Rattle.std.proofs.Common.{◌≡◌, ℕ, inl, inr, List, Option, Some, None, refl, sym, ap, subst}
use Rattle.std.specs.Prelude.{IfSome, IsOk, IsSomeAnd, Result, Ok, Err}
use Rattle.cvc_io.specs.Files.{Counts, Files, content}
use Rattle.cvc_run.specs.Due.{DueFailed}
use Rattle.cvc_run.specs.Outcome.{Behind, refused_ending}
use Rattle.cvc_run.specs.Outside.{Ending, Taken}
use Rattle.cvc_run.specs.Run.{Answers}
use Rattle.cvc_run.specs.Said.{Whole, bound_of}
use Rattle.cvc_run.specs.Stops.{ReadOnlyWhere, Says}
use Rattle.cvc_run.specs.Telling.{IsAccepted, Stands, TellsRun}
use Rattle.cvc_run.specs.declared.stage.Refused.{Refused}
use Rattle.cvc_run.specs.declared.status.Status.{Status}
use Rattle.cvc_run.specs.declared.stop.RunStop.{RunStop}
use Rattle.cvc_run.specs.declared.stop.RunStop.TheVariants.{At, Read, NoMemory}
use Rattle.cvc_run.proofs.Answering.{run_answers, told_refused}
use Rattle.cvc_top.specs.declared.prove.Proof.{Proof}
use Rattle.cvc_top.specs.Certificates.{IsProof, IsProveOutcome, IsProved, proof_ending, prove_run}

module _ (files : Option Files) (top : Option (List ℕ)) (netlist models power : List ℕ) where
  abbrev said : Files → Result Whole Refused
  said fs = bound_of top (content fs netlist) (content fs models) (content fs power)

  -- the three files are refused
  pub proof_refused : {B : Type 0} (view : B → Whole) (stop : RunStop Refused) → IfSome files (λ fs. Says view (Err stop) (said fs))
      → Stands {A = Proof} proof_ending refused_ending (Err stop) (prove_run files top netlist models power).outcome
  proof_refused view (At r) h = (inr (inr (r.stage, refl)), by files h)
    where
      by : (o : Option Files) → IfSome o (λ fs. said fs ≡ Err r) → IfSome o (λ fs. IsProveOutcome fs top netlist models power (refused_ending r))
      by None h = tt
      by (Some fs) h = subst (λ (s : Result Whole Refused). Behind refused_ending s IsProved (refused_ending r)) (sym h) refl
  proof_refused view Read h = tt
  proof_refused view NoMemory h = tt

  -- they are bound, and this is a log
  pub proof_told : (w : Whole) (p : Proof) → IfSome files (λ fs. said fs ≡ Ok w) → IsProof w.circuit p.log → Stands {F = Refused} proof_ending refused_ending (Ok p) (prove_run files top netlist models power).outcome
  proof_told w p bound is = (inl refl, by files bound)
    where
      by : (o : Option Files) → IfSome o (λ fs. said fs ≡ Ok w) → IfSome o (λ fs. IsProveOutcome fs top netlist models power (proof_ending p))
      by None h = tt
      by (Some fs) h = subst (λ (s : Result Whole Refused). Behind refused_ending s IsProved (proof_ending p)) (sym h) (p.log, is, refl)

  proof_accepted : (e : Ending) → (prove_run files top netlist models power).accepted → (prove_run files top netlist models power).outcome e → IsAccepted e.status
  proof_accepted e ok end = by files ok end.1
    where
      proved : (s : Result Whole Refused) → IsOk s → Behind refused_ending s IsProved e → IsAccepted e.status
      proved (Ok w) ok (log, is, told) = inl (ap (λ (y : Ending). y.status) told)
      proved (Err r) ok told = cc

      by : (o : Option Files) → IsSomeAnd o (λ fs. IsOk (said fs)) → IfSome o (λ fs. IsProveOutcome fs top netlist models power e) → IsAccepted e.status
      by None ok end = absurd ok
      by (Some fs) ok end = proved (said fs) ok end

  pub prove_answers : (r : Result Proof (RunStop Refused)) (before after : Counts) (t : Taken) (result : Status) → Stands proof_ending refused_ending r (prove_run files top netlist models power).outcome
      → ReadOnlyWhere r (DueFailed (prove_run files top netlist models power).due before after) → TellsRun proof_ending refused_ending r t result → Answers (prove_run files top netlist models power) before after t result
  prove_answers r before after t result stands cause told =
      run_answers proof_ending refused_ending (λ p. tt) told_refused (prove_run files top netlist models power) r before after t result proof_accepted stands cause told
