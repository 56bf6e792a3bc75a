-- The start is a sound state.
use Rattle.std.proofs.Common.{◌≡◌, ℕ, zero, suc, ◌-◌, ◌/◌, ◌%◌, ◌<◌, ◌≤◌, false, ◌∷◌, get_or, replicate, arith, ap, refl, ◌∙◌, inl}
use Rattle.std.specs.Prelude.{slice_index, Option, Some, None, is_some}
use Rattle.std.proofs.lemmas.List.{length-replicate}
use Rattle.std.proofs.lemmas.List.Folds.{sum_by-replicate}
use Rattle.cvc_law.specs.declared.interval.Fixed.{Fixed}
use Rattle.cvc_law.specs.Network.{Network, devices, fixed_at, floor_of, ceiling_of, IsCircuit}
use Rattle.cvc_law.specs.Reach.{widest, reach_on, declared_interval, is_declared_bound, declared_reach, reach_reads}
use Rattle.cvc_law.specs.ReachLeast.{opening}
use Rattle.cvc_law.proofs.ReachValues.{low_none, high_none}
use Rattle.cvc_law.proofs.ReachFamilies.{opening_at, opening_family, opening_within}
use Rattle.cvc_core.specs.declared.actor.Run.{Run}
use Rattle.cvc_core.specs.declared.actor.Actor.{Actor}
use Rattle.cvc_core.specs.declared.actor.Actor.TheVariants.{Absent, Idle}
use Rattle.cvc_core.specs.State.{actor_at, device_of, credits_of, held, IfRunning, Runs}
use Rattle.cvc_core.specs.Start.{start}
use Rattle.cvc_core.specs.Sound.{IsRunOf, IsInOrder, queued_part, HasFewCredits, IsWatched, Sound}
use Rattle.cvc_core.proofs.Placing.{replicate_at}

replicate_here : (n i : ℕ) → i < n → slice_index (replicate n 1) i ≡ 1
replicate_here zero i lt = absurd (omega arith)
replicate_here (suc n) zero lt = refl
replicate_here (suc n) (suc i) lt = replicate_here n i (omega arith)

-- nobody runs a device
actor_start : (P : Actor → Type 0) (n k : ℕ) → P (Idle 0) → P Absent → P (get_or (Idle 0 ∷ replicate n Absent) k Absent)
actor_start P n zero h g = h
actor_start P n (suc k) h g = replicate_at P n k Absent Absent g g

module _ (c : Network) (n : ℕ) where
  nobody : (k d : ℕ) → Runs (actor_at (start c n) k) d → ⊥
  unfolding start
  nobody k d = actor_start (λ a. Runs a d → ⊥) (n - 1) k (λ z. z) (λ z. z)

  no_runs : (P : Run → Type 0) (k : ℕ) → IfRunning (actor_at (start c n) k) P
  unfolding start
  no_runs P k = actor_start (λ a. IfRunning a P) (n - 1) k tt tt

  pub start_sound : IsCircuit c.fixed c.devices → n ≤ 64 → Sound c (start c n)
  unfolding start
  start_sound circuit few = record {
    form = record {
      circuit = circuit;
      every_device = length-replicate (devices c) 1;
      each_mark = λ d. replicate_at (λ (x : ℕ). x < 4) (devices c) d 1 0 (omega arith) (omega arith);
      few_actors = let long = length-replicate (n - 1) Absent in omega arith;
      runs = no_runs (IsRunOf c);
    };
    in_range = record { bounds = opening_family c circuit; reads = no_runs (λ r. (i : ℕ) → held r i ≤ widest c) };
    within = λ g family closed. opening_within c g family;
    reads_within = no_runs (λ r. (i : ℕ) → held r i ≤ reach_reads (opening c) (device_of c r) i);
    runs_marked = record {
      somebody = λ d h. absurd (let one : slice_index (replicate (devices c) 1) d ≤ 1 = replicate_at (λ (x : ℕ). x ≤ 1) (devices c) d 1 0 (omega arith) (omega arith) in omega arith);
      marked = λ k d h. absurd (nobody k d h);
      nobody_else = λ k l d h g. absurd (nobody k d h);
      in_order = no_runs (IsInOrder c);
    };
    counted = record {
      total = let queued = sum_by-replicate queued_part (devices c) 1 in let others = sum_by-replicate credits_of (n - 1) Absent in omega arith;
      few_credits = λ k. actor_start HasFewCredits (n - 1) k (omega arith) tt;
    };
    resting = λ d lt _. inl (inl (ap (λ (x : ℕ). x % 2) (replicate_here (devices c) d lt)));
    watched = no_runs (IsWatched c (start c n));
  }

  -- each bound at the start is the declared one
  pub start_at : (b : ℕ) → slice_index (start c n).bounds b ≡ declared_reach c b
  unfolding start
  start_at b = opening_at c b

  undeclared_reach : (side : ℕ) (o : Option Fixed) → is_some o ≡ false → reach_on c side (declared_interval o) ≡ 0
  undeclared_reach zero None h = low_none (ceiling_of c)
  undeclared_reach (suc side) None h = high_none (floor_of c)
  undeclared_reach side (Some w) h = cc

  -- or unknown
  pub start_unknown : (b : ℕ) → is_declared_bound c b ≡ false → slice_index (start c n).bounds b ≡ 0
  start_unknown b free = start_at b ∙ undeclared_reach (b % 2) (fixed_at c (b / 2)) free
