-- There is a least family: a family that isn't closed is widened at one bound, which raises the sum of its reaches, and that sum has a limit.
-- Each family on the way is within every closed family, so the closed one at its end is the least.
use Rattle.std.proofs.Common.{◌≡◌, ℕ, zero, suc, ◌+◌, ◌<◌, ◌≤◌, Bool, true, false, List, length, ◌⊎◌, inl, inr, arith, refl, sym, ap, ◌∙◌, subst, le_trans}
use Rattle.std.proofs.lemmas.Bool.{cases_lt, false≢true}
use Rattle.std.specs.Prelude.{slice_index, slice_set}
use Rattle.cvc_law.specs.declared.device.Device.{Device}
use Rattle.cvc_law.specs.Network.{Network, devices, is_declared, IsCircuit}
use Rattle.cvc_law.specs.Conduction.{target}
use Rattle.cvc_law.specs.Reach.{widest, width, device_at, read_place, target_place, reach_given, reach_reads}
use Rattle.cvc_law.specs.ReachLeast.{opening, IsReachFamily, IsReachWithin, IsReachClosedAt, IsReachClosed, IsReachLeast}
use Rattle.cvc_law.proofs.ReachGiving.{gives_within, gives_in_range}
use Rattle.cvc_law.proofs.ReachPlaces.{device_sound, target_place_within}
use Rattle.cvc_law.proofs.ReachFamilies.{opening_family, opening_within}
use Rattle.cvc_law.proofs.ReachWidening.{set_within, set_family, target_free, total, room, total_at_most, total-set}

-- what holds below n and at n holds below n + 1
up_to : (P : ℕ → Type 0) (n : ℕ) → ((k : ℕ) → k < n → P k) → P n → (k : ℕ) → k < suc n → P k
up_to P n below here k lt = elim (cases_lt k n) [
  | inl less ↦ below k less
  | inr more ↦ let same : n ≡ k = omega arith in subst P same here
]

module _ (c : Network) (circuit : IsCircuit c.fixed c.devices) where
  abbrev IsGood : List ℕ → Device → ℕ → Type 0
  IsGood f d k = is_declared c (target d k) ≡ false → reach_given c d k (reach_reads f d) ≤ slice_index f (target_place d k)

  -- the slot gives more than its target has
  abbrev GivesMore : List ℕ → Device → ℕ → Type 0
  GivesMore f d k = (is_declared c (target d k) ≡ false) × (slice_index f (target_place d k) < reach_given c d k (reach_reads f d))

  -- ---- closed, or a slot that gives more
  try_slot : (f : List ℕ) (d : Device) (k : ℕ) → IsGood f d k ⊎ GivesMore f d k
  try_slot f d k = by (is_declared c (target d k)) refl (cases_lt (slice_index f (target_place d k)) (reach_given c d k (reach_reads f d))) where
    by : (b : Bool) → is_declared c (target d k) ≡ b → (slice_index f (target_place d k) < reach_given c d k (reach_reads f d)) ⊎ (reach_given c d k (reach_reads f d) ≤ slice_index f (target_place d k)) → IsGood f d k ⊎ GivesMore f d k
    by true e h = inl (λ free. absurd (false≢true (sym free ∙ e)))
    by false e (inl more) = inr (e, more)
    by false e (inr le) = inl (λ _. le)

  try_slots : (f : List ℕ) (d : Device) (n : ℕ) → n ≤ 4 → ((k : ℕ) → k < n → IsGood f d k) ⊎ ((k : ℕ) × (k < 4) × GivesMore f d k)
  try_slots f d zero h = inl (λ k lt. absurd (omega arith))
  try_slots f d (suc n) h = by (try_slots f d n (omega arith)) (try_slot f d n) where
    by : ((k : ℕ) → k < n → IsGood f d k) ⊎ ((k : ℕ) × (k < 4) × GivesMore f d k) → IsGood f d n ⊎ GivesMore f d n → ((k : ℕ) → k < suc n → IsGood f d k) ⊎ ((k : ℕ) × (k < 4) × GivesMore f d k)
    by (inr more) _ = inr more
    by (inl below) (inr more) = inr (n, omega arith, more)
    by (inl below) (inl here) = inl (up_to (IsGood f d) n below here)

  try_devices : (f : List ℕ) (n : ℕ) → n ≤ devices c → ((i : ℕ) → i < n → IsReachClosedAt c f (device_at c i)) ⊎ ((i : ℕ) × (k : ℕ) × (i < devices c) × (k < 4) × GivesMore f (device_at c i) k)
  try_devices f zero h = inl (λ i lt. absurd (omega arith))
  try_devices f (suc n) h = by (try_devices f n (omega arith)) (try_slots f (device_at c n) 4 (omega arith)) where
    by : ((i : ℕ) → i < n → IsReachClosedAt c f (device_at c i)) ⊎ ((i : ℕ) × (k : ℕ) × (i < devices c) × (k < 4) × GivesMore f (device_at c i) k) → ((k : ℕ) → k < 4 → IsGood f (device_at c n) k) ⊎ ((k : ℕ) × (k < 4) × GivesMore f (device_at c n) k) → ((i : ℕ) → i < suc n → IsReachClosedAt c f (device_at c i)) ⊎ ((i : ℕ) × (k : ℕ) × (i < devices c) × (k < 4) × GivesMore f (device_at c i) k)
    by (inr more) _ = inr more
    by (inl below) (inr more) = inr (n, more.0, omega arith, more.1, more.2)
    by (inl below) (inl here) = inl (up_to (λ i. IsReachClosedAt c f (device_at c i)) n below here)

  -- ---- one bound widened
  abbrev widened : List ℕ → Device → ℕ → List ℕ
  widened f d k = slice_set f (target_place d k) (reach_given c d k (reach_reads f d))

  WithinClosed : List ℕ → Type 0
  WithinClosed f = (g : List ℕ) → IsReachFamily c g → IsReachClosed c g → IsReachWithin f g

  widened_family : (f : List ℕ) (d : Device) (k : ℕ) → target_place d k < length f → GivesMore f d k → IsReachFamily c f → IsReachFamily c (widened f d k)
  widened_family f d k inside more family = set_family c f (target_place d k) (reach_given c d k (reach_reads f d)) inside (target_free c d k more.0) (gives_in_range c d k (reach_reads f d) (family.in_range (read_place d k))) family

  widened_within : (f : List ℕ) (i k : ℕ) → i < devices c → k < 4 → target_place (device_at c i) k < length f → GivesMore f (device_at c i) k → WithinClosed f → WithinClosed (widened f (device_at c i) k)
  unfolding WithinClosed
  widened_within f i k lt small inside more within g family closed b =
      let d = device_at c i in
      set_within f (target_place d k) (reach_given c d k (reach_reads f d)) g inside (within g family closed) (le_trans (gives_within c f g d k (within g family closed)) (closed i lt k small more.0)) b

  -- ---- until it is closed
  climb : (fuel : ℕ) (f : List ℕ) → IsReachFamily c f → WithinClosed f → room (width c) (widest c) < total f + fuel → (h : List ℕ) × IsReachLeast c h
  unfolding WithinClosed
  climb zero f family within h = absurd (let most : total f ≤ room (length f) (widest c) = total_at_most f (widest c) family.in_range in
      let same : room (length f) (widest c) ≡ room (width c) (widest c) = ap (λ (n : ℕ). room n (widest c)) family.every_bound in omega arith)
  climb (suc fuel) f family within h = elim (try_devices f (devices c) (omega arith)) [
    | inl closed ↦ (f, record { family = family; closed = closed; least = within })
    | inr more ↦ let d = device_at c more.0 in
        let place : target_place d more.1 < width c = target_place_within c d (device_sound c circuit more.0 more.2) more.1 in
        let inside : target_place d more.1 < length f = omega (arith, family.every_bound) in
        let grows : total (widened f d more.1) + slice_index f (target_place d more.1) ≡ total f + reach_given c d more.1 (reach_reads f d) = total-set f (target_place d more.1) (reach_given c d more.1 (reach_reads f d)) inside in
        climb fuel (widened f d more.1) (widened_family f d more.1 inside more.4 family) (widened_within f more.0 more.1 more.2 more.3 inside more.4 within) (omega (arith, more.4.1))
  ]

  pub reach_least_exists : (h : List ℕ) × IsReachLeast c h
  unfolding WithinClosed
  reach_least_exists = climb (suc (room (width c) (widest c))) (opening c) (opening_family c circuit) (λ g family _. opening_within c g family) (omega arith)
