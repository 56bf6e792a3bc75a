-- How a step moves the words, for whoever keeps them in another form.
use Rattle.std.proofs.Common.{◌≡◌, ◌≢◌, ℕ, ◌<◌, ◌≤◌, max, List, length, set, arith, ap, refl, inl, inr, ⊎_elim, get_or-set_other, get_or-set_same}
use Rattle.std.specs.Prelude.{slice_index}
use Rattle.std.proofs.lemmas.List.{set-get_or, set_past}
use Rattle.std.proofs.lemmas.Grind.{get_or-set_at}
use mathlib.Core.Logic.{dite}
use native.Mathlib.Decide.{ℕ_discrete, dec_lt}
use Rattle.cvc_law.specs.Network.{Network}
use Rattle.cvc_law.specs.Reach.{read_place, target_place}
use Rattle.cvc_law.specs.ReachLeast.{IsReachWithin}
use Rattle.cvc_core.specs.declared.actor.Actor.{Actor}
use Rattle.cvc_core.specs.declared.actor.Intent.{Intent}
use Rattle.cvc_core.specs.declared.actor.Intent.TheVariants.{Read, Widen, TakeCredit, Queue, Claim, Release, GiveCredit, AskCount, LookAt, Peek}
use Rattle.cvc_core.specs.State.{Machine, Place, CountWord, BoundWord, MarkWord, found, put, put_actor, device_of, offer, run_of}
use Rattle.cvc_core.specs.Steps.{step_by}
use Rattle.cvc_core.specs.Moved.{IsMoved}

-- the new value at the place, and the old ones elsewhere
pub found-put_same : (s : Machine) (q : Place) (x k : ℕ) (a : Actor) → ((b : ℕ) → q ≡ BoundWord b → b < length s.bounds) → ((d : ℕ) → q ≡ MarkWord d → d < length s.marks) → found (put_actor (put s q x) k a) q ≡ x
found-put_same s CountWord x k a within marks = refl
found-put_same s (BoundWord b) x k a within marks = get_or-set_same s.bounds b x 0 (within b refl)
found-put_same s (MarkWord d) x k a within marks = get_or-set_same s.marks d x 0 (marks d refl)

pub found-put_other : (s : Machine) (q p : Place) (x k : ℕ) (a : Actor) → p ≢ q → found (put_actor (put s q x) k a) p ≡ found s p
found-put_other s CountWord CountWord x k a ne = absurd (ne refl)
found-put_other s CountWord (BoundWord b) x k a ne = refl
found-put_other s CountWord (MarkWord d) x k a ne = refl
found-put_other s (BoundWord b) CountWord x k a ne = refl
found-put_other s (BoundWord b) (BoundWord e) x k a ne = get_or-set_other s.bounds b e x 0 (λ is. ne (ap BoundWord is))
found-put_other s (BoundWord b) (MarkWord d) x k a ne = refl
found-put_other s (MarkWord d) CountWord x k a ne = refl
found-put_other s (MarkWord d) (BoundWord b) x k a ne = refl
found-put_other s (MarkWord d) (MarkWord e) x k a ne = get_or-set_other s.marks d e x 0 (λ is. ne (ap MarkWord is))

pub found-put_actor : (s : Machine) (k : ℕ) (a : Actor) (p : Place) → found (put_actor s k a) p ≡ found s p
found-put_actor s k a CountWord = refl
found-put_actor s k a (BoundWord b) = refl
found-put_actor s k a (MarkWord d) = refl

widen_moves : (c : Network) (s : Machine) (a : Actor) (j b : ℕ) → IsMoved c s a (Widen j) b (set s.bounds (target_place (device_of c (run_of a)) j) (max (slice_index s.bounds (target_place (device_of c (run_of a)) j)) (offer c (run_of a) j)))
widen_moves c s a j b = let t : ℕ = target_place (device_of c (run_of a)) j in let x : ℕ = slice_index s.bounds t in let y : ℕ = offer c (run_of a) j in dite (dec_lt t (length s.bounds))
    (λ within. dite (ℕ_discrete b t)
    (λ same. let here = get_or-set_at s.bounds t b (max x y) 0 same within in let old : slice_index s.bounds b ≡ x = ap (slice_index s.bounds) same in
    dite (dec_lt x y) (λ less. inr (j, refl, same, omega arith, omega arith)) (λ more. inl (omega arith)))
    (λ other. inl (get_or-set_other s.bounds t b (max x y) 0 other)))
    (λ past. inl (ap (λ (f : List ℕ). slice_index f b) (set_past s.bounds t (max x y) (omega arith))))

pub bound_moves : (c : Network) (s : Machine) (k : ℕ) (i : Intent) (a : Actor) (b : ℕ) → IsMoved c s a i b (step_by c s k i a).bounds
bound_moves c s k (Read i) a b = inl (ap (λ (f : List ℕ). slice_index f b) (set-get_or s.bounds (read_place (device_of c (run_of a)) i) 0))
bound_moves c s k (Widen j) a b = widen_moves c s a j b
bound_moves c s k TakeCredit a b = inl refl
bound_moves c s k Queue a b = inl refl
bound_moves c s k (Claim d) a b = inl refl
bound_moves c s k Release a b = inl refl
bound_moves c s k GiveCredit a b = inl refl
bound_moves c s k AskCount a b = inl refl
bound_moves c s k (LookAt d) a b = inl refl
bound_moves c s k (Peek e) a b = inl (ap (λ (f : List ℕ). slice_index f b) (set-get_or s.bounds e 0))

-- no bound narrows
pub bounds_widen : (c : Network) (s : Machine) (k : ℕ) (i : Intent) (a : Actor) → IsReachWithin s.bounds (step_by c s k i a).bounds
bounds_widen c s k i a b = ⊎_elim (λ (t : slice_index (step_by c s k i a).bounds b ≡ slice_index s.bounds b). omega arith)
    (λ (t : (j : ℕ) × (i ≡ Widen j) × (b ≡ target_place (device_of c (run_of a)) j) × (slice_index (step_by c s k i a).bounds b ≡ offer c (run_of a) j) × (slice_index s.bounds b ≤ slice_index (step_by c s k i a).bounds b)). t.4)
    (bound_moves c s k i a b)
