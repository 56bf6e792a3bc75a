-- What is pushed at the start, one after another, is the machine's start.
use Rattle.std.proofs.Common.{◌≡◌, ℕ, zero, suc, ◌+◌, ◌-◌, ◌<◌, ◌≤◌, List, [], ◌∷◌, ◌++◌, length, map, take, replicate, arith, ap, refl, sym, subst, ◌∙◌}
use Rattle.std.specs.Prelude.{ℤ, ◌≤ℤ◌, Option, Some, None, IfSome, IsSomeAnd, slice_index_or}
use Rattle.cvc_law.specs.declared.interval.Fixed.{Fixed}
use Rattle.cvc_law.specs.Network.{Network, devices, fixed_at, floor_of, ceiling_of, IsCircuit}
use Rattle.cvc_law.specs.Family.{IsInRange}
use Rattle.cvc_law.specs.Reach.{bound_on, reach_on, declared_interval}
use Rattle.cvc_law.specs.ReachLeast.{reaches, opening}
use Rattle.cvc_law.proofs.ReachPlaces.{declared_in_range}
use Rattle.cvc_core.specs.declared.store.Mark.{Mark}
use Rattle.cvc_core.specs.declared.actor.Actor.{Actor}
use Rattle.cvc_core.specs.declared.actor.Actor.TheVariants.{Absent, Idle}
use Rattle.cvc_core.specs.Start.{start}
use Rattle.cvc_core.specs.Store.{mark_word}
use Rattle.cvc_core.specs.Measured.{Measured, measured, IsSoundOn}
use Rattle.cvc_core.proofs.Starting.{start_sound}

low_below : (c : Network) (o : Option Fixed) → ((w : Fixed) → o ≡ Some w → IsInRange c w.low × IsInRange c w.high) → IfSome (bound_on 0 (declared_interval o)) (λ v. IsSomeAnd (ceiling_of c) (λ z. v ≤ℤ z))
low_below c None h = tt
low_below c (Some w) h = (h w refl).0.1

high_above : (c : Network) (o : Option Fixed) → ((w : Fixed) → o ≡ Some w → IsInRange c w.low × IsInRange c w.high) → IfSome (bound_on 1 (declared_interval o)) (λ v. IsSomeAnd (floor_of c) (λ z. z ≤ℤ v))
high_above c None h = tt
high_above c (Some w) h = (h w refl).1.0

pub declared_low_below : (c : Network) (n : ℕ) (ceiling low : Option ℤ) → IsCircuit c.fixed c.devices → ceiling ≡ ceiling_of c → low ≡ bound_on 0 (declared_interval (fixed_at c n)) → IfSome low (λ v. IsSomeAnd ceiling (λ z. v ≤ℤ z))
declared_low_below c n ceiling low circuit top is = subst (λ (z : Option ℤ). IfSome low (λ v. IsSomeAnd z (λ y. v ≤ℤ y))) (sym top)
    (subst (λ (z : Option ℤ). IfSome z (λ v. IsSomeAnd (ceiling_of c) (λ y. v ≤ℤ y))) (sym is) (low_below c (fixed_at c n) (declared_in_range c circuit n)))

pub declared_high_above : (c : Network) (n : ℕ) (floor high : Option ℤ) → IsCircuit c.fixed c.devices → floor ≡ floor_of c → high ≡ bound_on 1 (declared_interval (fixed_at c n)) → IfSome high (λ v. IsSomeAnd floor (λ z. z ≤ℤ v))
declared_high_above c n floor high circuit bottom is = subst (λ (z : Option ℤ). IfSome high (λ v. IsSomeAnd z (λ y. y ≤ℤ v))) (sym bottom)
    (subst (λ (z : Option ℤ). IfSome z (λ v. IsSomeAnd (floor_of c) (λ y. y ≤ℤ v))) (sym is) (high_above c (fixed_at c n) (declared_in_range c circuit n)))

pub bounds_more : (c : Network) (xs : List (Option Fixed)) (n : ℕ) → n < length xs
    → (reaches c (map declared_interval (take n xs)) ++ reach_on c 0 (declared_interval (slice_index_or xs n None)) ∷ []) ++ reach_on c 1 (declared_interval (slice_index_or xs n None)) ∷ [] ≡ reaches c (map declared_interval (take (n + 1) xs))
bounds_more c [] n lt = absurd (omega arith)
bounds_more c (x ∷ xs) zero lt = refl
bounds_more c (x ∷ xs) (suc n) lt = let more : suc n + 1 ≡ suc (n + 1) = omega arith in
    rw more (ap (λ (f : List ℕ). reach_on c 0 (declared_interval x) ∷ reach_on c 1 (declared_interval x) ∷ f) (bounds_more c xs n (omega arith)))

pub bounds_pushed : (c : Network) (n : ℕ) (before between after : List ℕ) (low high : ℕ) → n < length c.fixed → before ≡ reaches c (map declared_interval (take n c.fixed))
    → between ≡ before ++ low ∷ [] → after ≡ between ++ high ∷ [] → low ≡ reach_on c 0 (declared_interval (fixed_at c n)) → high ≡ reach_on c 1 (declared_interval (fixed_at c n)) → after ≡ reaches c (map declared_interval (take (n + 1) c.fixed))
bounds_pushed c n before between after low high lt old first second low_is high_is = cc (bounds_more c c.fixed n lt)

module _ {A : Type 0} where
  pub replicate_more : (n : ℕ) (x : A) → replicate n x ++ x ∷ [] ≡ replicate (n + 1) x
  replicate_more zero x = refl
  replicate_more (suc n) x = let more : suc n + 1 ≡ suc (n + 1) = omega arith in rw more (ap (λ (l : List A). x ∷ l) (replicate_more n x))

pub marks_more : (ms : List Mark) (m : Mark) (n : ℕ) → map mark_word ms ≡ replicate n 1 → mark_word m ≡ 1 → map mark_word (ms ++ m ∷ []) ≡ replicate (n + 1) 1
marks_more ms m n h one = map_more ms m ∙ (ap (λ (l : List ℕ). l ++ mark_word m ∷ []) h ∙ (ap (λ (z : ℕ). replicate n 1 ++ z ∷ []) one ∙ replicate_more n 1))
  where
    map_more : (ms : List Mark) (m : Mark) → map mark_word (ms ++ m ∷ []) ≡ map mark_word ms ++ mark_word m ∷ []
    map_more [] m = refl
    map_more (x ∷ xs) m = ap (λ (l : List ℕ). mark_word x ∷ l) (map_more xs m)

-- the parts of a store at the start
pub started : (c : Network) (n count : ℕ) (floor ceiling : Option ℤ) (bounds marks : List ℕ) (actors : List Actor) → floor ≡ floor_of c → ceiling ≡ ceiling_of c → bounds ≡ opening c → marks ≡ replicate (devices c) 1 → count ≡ devices c → actors ≡ Idle 0 ∷ replicate (n - 1) Absent
    → record { floor = floor; ceiling = ceiling; machine = record { bounds = bounds; marks = marks; count = count; actors = actors } } ≡ measured c (start c n)
unfolding start
started c n count floor ceiling bounds marks actors f g b m k a = cc

pub started_sound : (c : Network) (n : ℕ) (v : Measured) → IsCircuit c.fixed c.devices → n ≤ 64 → v ≡ measured c (start c n) → IsSoundOn c v
started_sound c n v circuit few is = subst (IsSoundOn c) (sym is) record { floor = refl; ceiling = refl; sound = start_sound c n circuit few }
