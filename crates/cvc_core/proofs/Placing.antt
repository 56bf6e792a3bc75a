-- Lists, runs and debts, where one thing of them changes.
use Rattle.std.proofs.Common.{◌≡◌, ◌≢◌, ℕ, zero, suc, ◌+◌, ◌-◌, ◌%◌, ◌<◌, ◌≤◌, Bool, true, false, cond, eqb, List, [], ◌∷◌, length, get_or, set, replicate, Option, Some, None, arith, ap, refl, sym, subst, ◌∙◌, ◌⊎◌, inl, inr, ⊎_elim, get_or-set_other, true≢false}
use Rattle.std.specs.Prelude.{slice_index_or, IsSome}
use Rattle.std.proofs.lemmas.List.{set_past}
use Rattle.std.proofs.lemmas.Grind.{get_or-set_at}
use Rattle.std.proofs.lemmas.Bool.Decides.{eqb_tells}
use mathlib.Core.Logic.{dite}
use native.Mathlib.Decide.{ℕ_discrete, dec_lt}
use Rattle.cvc_law.specs.Network.{Network}
use Rattle.cvc_core.specs.declared.actor.Debt.{Debt}
use Rattle.cvc_core.specs.declared.actor.Run.{Run}
use Rattle.cvc_core.specs.declared.actor.Actor.{Actor}
use Rattle.cvc_core.specs.declared.actor.Actor.TheVariants.{Absent, Idle, Running}
use Rattle.cvc_core.specs.State.{or_nothing, IfRunning}
use Rattle.cvc_core.specs.Steps.{is_queued, queued}
use Rattle.cvc_core.specs.Sound.{IsDebtOf, IsOwedBy}

module _ {A : Type 0} where
  -- what holds at each place of a list where one was set
  pub set_each : (P : ℕ → A → Type 0) (l : List A) (k : ℕ) (a d : A) → k < length l → P k a → ((j : ℕ) → j ≢ k → P j (get_or l j d)) → (j : ℕ) → P j (get_or (set l k a) j d)
  set_each P l k a d lt here others j = dite (ℕ_discrete j k)
      (λ e. subst (λ (z : ℕ × A). P z.0 z.1) (λ i. (sym e i, sym (get_or-set_at l k j a d e lt) i)) here)
      (λ ne. subst (P j) (sym (get_or-set_other l k j a d ne)) (others j ne))

  pub each_set : (P : A → Type 0) (l : List A) (k : ℕ) (a d : A) → k < length l → P a → ((j : ℕ) → P (get_or l j d)) → (j : ℕ) → P (get_or (set l k a) j d)
  each_set P l k a d lt here all = set_each (λ j x. P x) l k a d lt here (λ j ne. all j)

  pub replicate_at : (P : A → Type 0) (n i : ℕ) (x d : A) → P x → P d → P (get_or (replicate n x) i d)
  replicate_at P zero i x d h g = g
  replicate_at P (suc n) zero x d h g = h
  replicate_at P (suc n) (suc i) x d h g = replicate_at P n i x d h g

  pub get_or_past : (l : List A) (i : ℕ) (d : A) → length l ≤ i → get_or l i d ≡ d
  get_or_past [] i d h = refl
  get_or_past (x ∷ xs) zero d h = absurd (omega arith)
  get_or_past (x ∷ xs) (suc i) d h = get_or_past xs i d (omega arith)

  pub same_some : {x y : A} → Some x ≡ Some y → x ≡ y
  same_some e = cc

  pub known : (o : Option A) → IsSome o → (x : A) × (o ≡ Some x)
  known None h = absurd (true≢false (sym h))
  known (Some x) h = (x, refl)

  -- what holds of a value that a test makes
  pub tested : (P : A → Type 0) (b : Bool) (new x : A) → (b ≡ true → P new) → cond b (Some new) None ≡ Some x → P x
  tested P true new x h is = subst P (same_some is) (h refl)
  tested P false new x h is = cc

pub bool_cases : (b : Bool) → (b ≡ true) ⊎ (b ≡ false)
bool_cases true = inl refl
bool_cases false = inr refl

-- ---- reads and slots
-- a read that is held after one was loaded is that one, or was held before
pub read_set : (l : List (Option ℕ)) (i x j y : ℕ) → slice_index_or (set l i (Some x)) j None ≡ Some y → ((j ≡ i) × (x ≡ y)) ⊎ (slice_index_or l j None ≡ Some y)
read_set l i x j y h = dite (dec_lt i (length l))
    (λ within. dite (ℕ_discrete j i)
    (λ same. inl (same, same_some (sym (get_or-set_at l i j (Some x) None same within) ∙ h)))
    (λ other. inr (sym (get_or-set_other l i j (Some x) None other) ∙ h)))
    (λ past. inr (ap (λ (m : List (Option ℕ)). slice_index_or m j None) (sym (set_past l i (Some x) (omega arith))) ∙ h))

-- a fact of each held read stays where one is loaded
pub held_set : (P : ℕ → ℕ → Type 0) (l : List (Option ℕ)) (i x : ℕ) → P i x → ((j : ℕ) → P j (or_nothing (slice_index_or l j None))) → (j : ℕ) → P j (or_nothing (slice_index_or (set l i (Some x)) j None))
held_set P l i x now all j = dite (dec_lt i (length l))
    (λ within. set_each (λ (m : ℕ) (o : Option ℕ). P m (or_nothing o)) l i (Some x) None within now (λ m _. all m) j)
    (λ past. subst (λ (m : List (Option ℕ)). P j (or_nothing (slice_index_or m j None))) (sym (set_past l i (Some x) (omega arith))) (all j))

pub given_set : (l : List Bool) (i j : ℕ) → slice_index_or (set l i true) j false ≡ true → (j ≡ i) ⊎ (slice_index_or l j false ≡ true)
given_set l i j h = dite (ℕ_discrete j i) inl (λ other. inr (sym (get_or-set_other l i j true false other) ∙ h))

pub given_more : (l : List Bool) (i j : ℕ) → i < length l → slice_index_or l j false ≡ true → slice_index_or (set l i true) j false ≡ true
given_more l i j lt h = dite (ℕ_discrete j i) (λ same. get_or-set_at l i j true false same lt) (λ other. get_or-set_other l i j true false other ∙ h)

pub nothing_read : (n i x : ℕ) → slice_index_or (replicate n None) i None ≡ Some x → ⊥
nothing_read n i x h = replicate_at (λ (o : Option ℕ). o ≡ Some x → ⊥) n i None None (λ e. cc) (λ e. cc) h

pub nothing_held : (n i : ℕ) → or_nothing (slice_index_or (replicate n None) i None) ≡ 0
nothing_held n i = replicate_at (λ (o : Option ℕ). or_nothing o ≡ 0) n i None None refl refl

pub nothing_given : (n i : ℕ) → slice_index_or (replicate n false) i false ≡ true → ⊥
nothing_given n i h = replicate_at (λ (b : Bool). b ≡ true → ⊥) n i false false (λ e. true≢false (sym e)) (λ e. true≢false (sym e)) h

-- ---- marks
pub queued_mark : (x : ℕ) → x < 4 → (queued x < 4) × (queued x % 2 ≡ 1) × (2 ≤ x → 2 ≤ queued x) × (2 ≤ queued x → 2 ≤ x)
queued_mark x small = ⊎_elim
    (λ (t : (eqb (x % 2) 1 ≡ true) × (x % 2 ≡ 1)). rw t.0 (small, t.1, (λ h. h), (λ h. h)))
    (λ (t : (eqb (x % 2) 1 ≡ false) × (x % 2 ≢ 1)). rw t.0 (let o = t.1 in (omega arith, omega arith, (λ h. omega arith), (λ h. omega arith))))
    (eqb_tells (x % 2) 1)

-- a credit goes to a mark that was not Queued
pub queued_balance : (x n : ℕ) → n ≡ 2 → (queued x % 2 + cond (is_queued x) n (n - 1) ≡ x % 2 + n) × (1 ≤ cond (is_queued x) n (n - 1)) × (cond (is_queued x) n (n - 1) ≤ 2)
queued_balance x n two = ⊎_elim
    (λ (t : (eqb (x % 2) 1 ≡ true) × (x % 2 ≡ 1)). rw t.0 (refl, omega arith, omega arith))
    (λ (t : (eqb (x % 2) 1 ≡ false) × (x % 2 ≢ 1)). rw t.0 (let o = t.1 in (omega arith, omega arith, omega arith)))
    (eqb_tells (x % 2) 1)

-- ---- runs
pub map_running : (P Q : Run → Type 0) (a : Actor) → ((r : Run) → a ≡ Running r → P r → Q r) → IfRunning a P → IfRunning a Q
map_running P Q Absent f h = tt
map_running P Q (Idle n) f h = tt
map_running P Q (Running r) f h = f r refl h

-- a debt is sound whatever else of the run changes
pub same_debt : (c : Network) (r : Run) (reads : List (Option ℕ)) (owes : Option Debt) (credits : ℕ) (debt : Debt) → IsDebtOf c r debt → IsDebtOf c record { device = r.device; reads = reads; given = r.given; owes = owes; credits = credits } debt
same_debt c r reads owes credits debt h = record { undeclared = h.undeclared; was_given = h.was_given; inside = h.inside }

pub owed_at : (c : Network) (o : Option Debt) (d : ℕ) → o ≡ None → IsOwedBy c o d → ⊥
owed_at c None d is h = h
owed_at c (Some debt) d is h = cc
