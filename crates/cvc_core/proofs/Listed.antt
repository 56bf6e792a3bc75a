-- A list of events, one more at a time; and what an event that is tried keeps.
use Rattle.std.proofs.Common.{◌≡◌, ℕ, ◌+◌, ◌<◌, ◌≤◌, Bool, true, false, List, [], ◌∷◌, ◌++◌, length, take, get_or, ap, refl, sym, subst, ◌∙◌}
use Rattle.std.specs.Prelude.{ℤ, Option, Result, Ok, Err, OnOk, is_ok, slice_index}
use Rattle.std.proofs.lemmas.List.{take_more}
use Rattle.cvc_law.specs.Network.{Network, floor_of}
use Rattle.cvc_law.specs.Reach.{low_reach}
use Rattle.cvc_core.specs.declared.event.Event.{Event}
use Rattle.cvc_core.specs.State.{Machine}
use Rattle.cvc_core.specs.Events.{IsEnabled, after, AreEnabled, after_all}
use Rattle.cvc_core.specs.Sound.{Sound}
use Rattle.cvc_core.specs.Tried.{IsEventTried}
use Rattle.cvc_core.specs.Measured.{Measured, measured, IsSoundOn, AreMeasured}
use Rattle.cvc_core.proofs.EachStep.{event_keeps}

pub after_all-more : (c : Network) (es : List Event) (s : Machine) (e : Event) → after_all c s (es ++ e ∷ []) ≡ after c (after_all c s es) e
after_all-more c [] s e = refl
after_all-more c (x ∷ es) s e = after_all-more c es (after c s x) e

pub AreEnabled-more : (c : Network) (es : List Event) (s : Machine) (e : Event) → AreEnabled c s es → IsEnabled c (after_all c s es) e → AreEnabled c s (es ++ e ∷ [])
AreEnabled-more c [] s e h now = (now, tt)
AreEnabled-more c (x ∷ es) s e h now = (h.0, AreEnabled-more c es (after c s x) e h.1 now)

pub tried_sound : (c : Network) (s t : Machine) (e : Event) (done : Bool) → Sound c s → IsEventTried c s t e done → Sound c t
tried_sound c s t e true ok h = subst (Sound c) (sym (h.effect refl)) (event_keeps c s e ok (h.when.0 refl))
tried_sound c s t e false ok h = subst (Sound c) (sym (h.unchanged refl)) ok

-- a state of the circuit is one after an event that is tried
pub tried_on : (c : Network) (v m : Measured) (t : Machine) (e : Event) (done : Bool) → v ≡ m → IsSoundOn c m → IsEventTried c v.machine t e done → IsSoundOn c record { floor = v.floor; ceiling = v.ceiling; machine = t }
tried_on c v m t e done same on h = record {
  floor = ap (λ (z : Measured). z.floor) same ∙ on.floor;
  ceiling = ap (λ (z : Measured). z.ceiling) same ∙ on.ceiling;
  sound = tried_sound c v.machine t e done (subst (λ (z : Measured). Sound c z.machine) (sym same) on.sound) h;
}

pub sound_measured : (c : Network) (v : Measured) → IsSoundOn c v → AreMeasured v.floor v.ceiling v.machine.bounds
sound_measured c v on b = subst (λ (z : Option ℤ). slice_index v.machine.bounds b ≤ low_reach v.ceiling z) (sym on.floor)
    (subst (λ (z : Option ℤ). slice_index v.machine.bounds b ≤ low_reach z (floor_of c)) (sym on.ceiling) (on.sound.in_range.bounds.in_range b))

-- one event more is done
pub run_more : (c : Network) (s : Machine) (es : List Event) (i : ℕ) (d : Event) (v w : Measured) → i < length es → AreEnabled c s (take i es) → v ≡ measured c (after_all c s (take i es)) → IsEnabled c v.machine (get_or es i d) → w ≡ measured c (after c v.machine (get_or es i d))
    → AreEnabled c s (take (i + 1) es) × (w ≡ measured c (after_all c s (take (i + 1) es)))
run_more c s es i d v w lt all is now next = let e : Event = get_or es i d in let more : take (i + 1) es ≡ take i es ++ e ∷ [] = take_more es i d lt in
    let at : v.machine ≡ after_all c s (take i es) = ap (λ (z : Measured). z.machine) is in (
      subst (AreEnabled c s) (sym more) (AreEnabled-more c (take i es) s e all (subst (λ (m : Machine). IsEnabled c m e) at now)),
      next ∙ ap (measured c) (ap (λ (m : Machine). after c m e) at ∙ (sym (after_all-more c (take i es) s e) ∙ ap (after_all c s) (sym more))),
    )

pub done : {T E : Type 0} (r : Result T E) (P : Type 0) → is_ok r ≡ true → OnOk r P → P
done (Ok x) P h p = p
done (Err e) P h p = cc
