-- An event that is one step is tried where its step is.
use Rattle.std.proofs.Common.{◌≡◌, ◌≢◌, ℕ, ◌%◌, Bool, false, refl, sym, subst, true≢false}
use Rattle.cvc_law.specs.Network.{Network}
use Rattle.cvc_core.specs.declared.event.Event.{Event}
use Rattle.cvc_core.specs.declared.event.Event.TheVariants.{Load, Lower, Raise, Add, SetQueued, Take, DropRunning, Subtract}
use Rattle.cvc_core.specs.declared.actor.Intent.{Intent}
use Rattle.cvc_core.specs.declared.actor.Intent.TheVariants.{Read, Widen, TakeCredit, Queue, Claim, Release, GiveCredit}
use Rattle.cvc_base.specs.declared.ids.DevId.{DevId}
use Rattle.cvc_core.specs.State.{Machine}
use Rattle.cvc_core.specs.Steps.{MayStep, after_step}
use Rattle.cvc_core.specs.Events.{IsEnabled, after}
use Rattle.cvc_core.specs.Tried.{IsStepTried, IsEventTried}

-- an event whose guard and effect are those of a step
pub event_of_step : (c : Network) (s t : Machine) (k : ℕ) (i : Intent) (e f : Event) (done : Bool) → (MayStep c s k i → IsEnabled c s f) → (IsEnabled c s f → MayStep c s k i) → after_step c s k i ≡ after c s f → e ≡ f → IsStepTried c s t k i done → IsEventTried c s t e done
event_of_step c s t k i e f done to from same is h = subst (λ (z : Event). IsEventTried c s t z done) (sym is) record {
  when = ((λ d. to (h.when.0 d)), (λ g. h.when.1 (from g)));
  effect = λ d. subst (λ (z : Machine). t ≡ z) same (h.effect d);
  unchanged = h.unchanged;
}

module _ (c : Network) (s t : Machine) (k : ℕ) (e : Event) (done : Bool) where
  pub load_tried : (i : ℕ) → e ≡ Load k i → IsStepTried c s t k (Read i) done → IsEventTried c s t e done
  load_tried i = event_of_step c s t k (Read i) e (Load k i) done (λ h. h) (λ h. h) refl

  pub add_tried : e ≡ Add k → IsStepTried c s t k TakeCredit done → IsEventTried c s t e done
  add_tried = event_of_step c s t k TakeCredit e (Add k) done (λ h. h) (λ h. h) refl

  pub queue_tried : e ≡ SetQueued k → IsStepTried c s t k Queue done → IsEventTried c s t e done
  queue_tried = event_of_step c s t k Queue e (SetQueued k) done (λ h. h) (λ h. h) refl

  pub take_tried : (d : DevId) → e ≡ Take k d → IsStepTried c s t k (Claim d) done → IsEventTried c s t e done
  take_tried d = event_of_step c s t k (Claim d) e (Take k d) done (λ h. h) (λ h. h) refl

  pub drop_tried : e ≡ DropRunning k → IsStepTried c s t k Release done → IsEventTried c s t e done
  drop_tried = event_of_step c s t k Release e (DropRunning k) done (λ h. h) (λ h. h) refl

  pub subtract_tried : e ≡ Subtract k → IsStepTried c s t k GiveCredit done → IsEventTried c s t e done
  subtract_tried = event_of_step c s t k GiveCredit e (Subtract k) done (λ h. h) (λ h. h) refl

pub lower_tried : (c : Network) (s t : Machine) (k slot : ℕ) (done : Bool) → slot % 2 ≡ 0 → IsStepTried c s t k (Widen slot) done → IsEventTried c s t (Lower k slot) done
lower_tried c s t k slot done even = event_of_step c s t k (Widen slot) (Lower k slot) (Lower k slot) done (λ h. (even, h)) (λ h. h.1) refl refl

pub raise_tried : (c : Network) (s t : Machine) (k slot : ℕ) (done : Bool) → slot % 2 ≡ 1 → IsStepTried c s t k (Widen slot) done → IsEventTried c s t (Raise k slot) done
raise_tried c s t k slot done odd = event_of_step c s t k (Widen slot) (Raise k slot) (Raise k slot) done (λ h. (odd, h)) (λ h. h.1) refl refl

refused : (c : Network) (s : Machine) (e : Event) → (IsEnabled c s e → ⊥) → IsEventTried c s s e false
refused c s e refuses = record {
  when = ((λ h. absurd (true≢false (sym h))), (λ h. absurd (refuses h)));
  effect = λ h. absurd (true≢false (sym h));
  unchanged = λ _. refl;
}

pub lower_refused : (c : Network) (s : Machine) (k slot : ℕ) → slot % 2 ≢ 0 → IsEventTried c s s (Lower k slot) false
lower_refused c s k slot odd = refused c s (Lower k slot) (λ h. odd h.0)

pub raise_refused : (c : Network) (s : Machine) (k slot : ℕ) → slot % 2 ≢ 1 → IsEventTried c s s (Raise k slot) false
raise_refused c s k slot even = refused c s (Raise k slot) (λ h. even h.0)
