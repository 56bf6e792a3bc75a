-- A run that gives by its slots and marks the fans of what it widened.
use Rattle.std.proofs.Common.{◌≡◌, ℕ, zero, suc, ◌+◌, ◌*◌, ◌-◌, ◌%◌, ◌<◌, ◌≤◌, Bool, true, false, List, [], ◌∷◌, to_z, of_z, w64, Option, None, Some, IsSome, length, map, set, slice_index, slice_index_or, nat_lt, inl, inr, ⊎_elim, arith, ap, refl, sym, subst, ◌∙◌, length-set, get_or-set_same, get_or-set_other, lt-ltb}
use Rattle.std.specs.Prelude.{ℤ, pos, neg_ℤ, ◌≤ℤ◌, IfSome, IsSomeAnd, if◌then◌else◌}
use Rattle.std.proofs.lemmas.Int.{ints}
use Rattle.std.proofs.lemmas.Bool.Decides.{nat_tests}
use mathlib.Core.Logic.{dite}
use native.Mathlib.Decide.{ℕ_discrete, dec_lt}
use Rattle.cvc_base.specs.declared.ids.DevId.{DevId}
use Rattle.cvc_law.specs.declared.device.Device.{Device}
use Rattle.cvc_law.specs.declared.interval.Reads.{Reads}
use Rattle.cvc_law.specs.Network.{Network, fan_of, is_declared, floor_of, ceiling_of}
use Rattle.cvc_law.specs.Conduction.{given, target}
use Rattle.cvc_law.specs.Reach.{widest, device_at, target_place}
use Rattle.cvc_law.specs.ReachWord.{stored, word_of, reach_in, IsInMillion}
use Rattle.cvc_law.proofs.ReachFans.{fan_has, touches_given}
use Rattle.cvc_law.proofs.ReachGiving.{gives_in_range}
use Rattle.cvc_law.proofs.ReachConduct.{given_in_range}
use Rattle.cvc_law.proofs.WordOrder.{low_less, high_less, low_most, high_most}
use Rattle.cvc_core.specs.declared.actor.Debt.{Debt}
use Rattle.cvc_core.specs.declared.actor.Run.{Run}
use Rattle.cvc_core.specs.declared.actor.Actor.{Actor}
use Rattle.cvc_core.specs.declared.actor.Actor.TheVariants.{Idle, Running}
use Rattle.cvc_core.specs.declared.actor.Intent.{Intent}
use Rattle.cvc_core.specs.declared.actor.Intent.TheVariants.{Widen, TakeCredit, Queue, Release, GiveCredit}
use Rattle.cvc_core.specs.State.{run_of, device_of, held, given_at, offer, debt_of, next_device}
use Rattle.cvc_core.specs.Steps.{IsAllowed, IsSettled, one_more, one_less, new_actor, next_debt, is_queued, widened}
use Rattle.cvc_core.specs.Store.{held_reads}
use Rattle.cvc_field.specs.declared.view.View.{View}
use Rattle.cvc_field.specs.Views.{advance, value_found, IsBoundWord}
use Rattle.cvc_field.specs.Runs.{SettledTo, IsGiving, MayGive, IsOwing, IsMarking, debt_from, given_run, with_debt}
use Rattle.cvc_field.proofs.Operands.{operand_low, operand_high, offers_nothing, offers_something}

-- what the actor is at after a step
actor_is : (c : Network) (i : Intent) (v w : View) (r : ℕ) → v.circuit ≡ c → w ≡ advance i v r → w.actor ≡ new_actor c i v.actor (value_found c i v.actor r)
unfolding advance
actor_is c i v w r own step = ap (λ (u : View). u.actor) step ∙ ap (λ (z : Network). new_actor z i v.actor (value_found z i v.actor r)) own

-- ---- marks
same_credits : (r : Run) (n : ℕ) → r.credits ≡ n → r ≡ record { device = r.device; reads = r.reads; given = r.given; owes = r.owes; credits = n }
same_credits r n e k = record { device = r.device; reads = r.reads; given = r.given; owes = r.owes; credits = e k }

pub credit_spared : (c : Network) (d : ℕ) (a : Actor) → IsOwing c d true a → a ≡ Running (with_debt (run_of a).owes true (run_of a))
credit_spared c d a t = subst (λ (z : Actor). z ≡ Running (with_debt (run_of z).owes true (run_of z))) (sym t.1) (ap (λ (z : Run). Running z) (same_credits t.0 2 t.4))

pub credit_taken : (c : Network) (d : ℕ) (v w : View) (word : ℕ) → v.circuit ≡ c → w ≡ advance TakeCredit v word → IsOwing c d false v.actor → w.actor ≡ Running (with_debt (run_of v.actor).owes true (run_of v.actor))
credit_taken c d v w word own step t = actor_is c TakeCredit v w word own step
    ∙ subst (λ (z : Actor). one_more z ≡ Running (with_debt (run_of z).owes true (run_of z))) (sym t.1) (λ k. Running record { device = t.0.device; reads = t.0.reads; given = t.0.given; owes = t.0.owes; credits = t.4 k + 1 })

pub may_add : (c : Network) (d : ℕ) (a : Actor) → IsOwing c d false a → (x : ℕ) → IsAllowed c TakeCredit a x
may_add c d a t x = subst (λ (z : Actor). IsAllowed c TakeCredit z x) (sym t.1) (t.2, t.4)

pub may_queue : (c : Network) (d : ℕ) (a : Actor) → IsOwing c d true a → (x : ℕ) → IsAllowed c Queue a x
may_queue c d a t x = subst (λ (z : Actor). IsAllowed c Queue z x) (sym t.1) (t.2, t.4)

pub queues_it : (c : Network) (d : ℕ) (a : Actor) → IsOwing c d true a → d ≡ next_device c (run_of a)
queues_it c d a t = sym t.3 ∙ ap (λ (z : Actor). next_device c (run_of z)) (sym t.1)

pub mark_set : (c : Network) (d : ℕ) (v w : View) (word : ℕ) → v.circuit ≡ c → w ≡ advance Queue v word → IsOwing c d true v.actor → w.actor ≡ Running (with_debt (next_debt c (debt_of (run_of v.actor).owes)) (is_queued word) (run_of v.actor))
mark_set c d v w word own step t = actor_is c Queue v w word own step
    ∙ subst (λ (z : Actor). new_actor c Queue z word ≡ Running (with_debt (next_debt c (debt_of (run_of z).owes)) (is_queued word) (run_of z))) (sym t.1)
    (λ k. Running record { device = t.0.device; reads = t.0.reads; given = t.0.given; owes = next_debt c (debt_of t.0.owes); credits = if is_queued word then t.4 k else (t.4 k - 1) })

-- with a credit to spare it still owes the same
pub still_owing : (c : Network) (d : ℕ) (spare : Bool) (a b : Actor) → IsOwing c d spare a → b ≡ Running (with_debt (run_of a).owes true (run_of a)) → IsOwing c d true b
still_owing c d spare a b t e = (with_debt (run_of a).owes true (run_of a), e, subst (λ (z : Actor). IsSome (run_of z).owes) (sym t.1) t.2, ap (λ (z : Actor). next_device c (run_of z)) t.1 ∙ t.3, refl)

pub marked_next : (c : Network) (a b z : Actor) (spare : Bool) → b ≡ Running (with_debt (run_of a).owes true (run_of a)) → z ≡ Running (with_debt (next_debt c (debt_of (run_of b).owes)) spare (run_of b)) → z ≡ Running (with_debt (next_debt c (debt_of (run_of a).owes)) spare (run_of a))
marked_next c a b z spare e f = f ∙ ap (λ (y : Actor). Running (with_debt (next_debt c (debt_of (run_of y).owes)) spare (run_of y))) e

-- ---- fans
owed_there : (c : Network) (net place : ℕ) → place < length (fan_of c net) → debt_from c net place ≡ Some record { net = record { 0 = net }; place = place }
owed_there c net place lt = rw (lt-ltb place (length (fan_of c net)) lt) refl

pub fan_begins : (c : Network) (net : ℕ) (spare : Bool) (a : Actor) → IsMarking c net 0 spare a → a ≡ Running (with_debt (debt_from c net 0) spare (run_of a))
fan_begins c net spare a t = subst (λ (z : Actor). z ≡ Running (with_debt (debt_from c net 0) spare (run_of z))) (sym t.1) (λ k. Running record { device = t.0.device; reads = t.0.reads; given = t.0.given; owes = t.2 k; credits = t.3 k })

mapped_at : (l : List DevId) (i : ℕ) (d : DevId) → i < length l → slice_index (map (λ (e : DevId). e.0) l) i ≡ (slice_index_or l i d).0
mapped_at [] i d lt = absurd (omega arith)
mapped_at (x ∷ xs) zero d lt = refl
mapped_at (x ∷ xs) (suc i) d lt = mapped_at xs i d (omega arith)

length_mapped : (l : List DevId) → length (map (λ (e : DevId). e.0) l) ≡ length l
length_mapped [] = refl
length_mapped (x ∷ xs) = ap suc (length_mapped xs)

pub fan_place : (c : Network) (net i : ℕ) (l : List DevId) (d : DevId) → map (λ (e : DevId). e.0) l ≡ fan_of c net → i < length l → (i < length (fan_of c net)) × (slice_index (fan_of c net) i ≡ (slice_index_or l i d).0)
fan_place c net i l d fan lt = (let long : length l ≡ length (fan_of c net) = sym (length_mapped l) ∙ ap length fan in omega arith, ap (λ (z : List ℕ). slice_index z i) (sym fan) ∙ mapped_at l i d lt)

pub fan_ended : (c : Network) (net i : ℕ) (l : List DevId) → map (λ (e : DevId). e.0) l ≡ fan_of c net → length l ≤ i → debt_from c net i ≡ None
fan_ended c net i l fan past = let long : length l ≡ length (fan_of c net) = sym (length_mapped l) ∙ ap length fan in
    let not_below : nat_lt i (length (fan_of c net)) ≡ false = (let far : length (fan_of c net) ≤ i = omega arith in grind (arith, nat_tests)) in rw not_below refl

pub fan_owes : (c : Network) (net i : ℕ) (d : DevId) (spare : Bool) (r : Run) (a : Actor) → i < length (fan_of c net) → slice_index (fan_of c net) i ≡ d.0 → a ≡ Running (with_debt (debt_from c net i) spare r) → IsOwing c d.0 spare a
fan_owes c net i d spare r a lt at e = (with_debt (debt_from c net i) spare r, e, subst IsSome (sym (owed_there c net i lt)) refl, ap (λ (o : Option Debt). slice_index (fan_of c (debt_of o).net.0) (debt_of o).place) (owed_there c net i lt) ∙ at, refl)

pub fan_next : (c : Network) (net i : ℕ) (spare more : Bool) (r : Run) (a b : Actor) → i < length (fan_of c net) → a ≡ Running (with_debt (debt_from c net i) spare r) → b ≡ Running (with_debt (next_debt c (debt_of (run_of a).owes)) more (run_of a)) → b ≡ Running (with_debt (debt_from c net (i + 1)) more r)
fan_next c net i spare more r a b lt e f = f ∙ (ap (λ (z : Actor). Running (with_debt (next_debt c (debt_of (run_of z).owes)) more (run_of z))) e ∙ ap (λ (o : Option Debt). Running (with_debt (next_debt c (debt_of o)) more r)) (owed_there c net i lt))

-- ---- slots
module _ (c : Network) (d : DevId) (found : Reads) (k : ℕ) (spare : Bool) (r : Run) (h : SettledTo c d found k None spare r) where
  one_more_settled : IsSettled c r k → (j : ℕ) → j < k + 1 → IsSettled c r j
  one_more_settled now j below = dite (ℕ_discrete j k) (λ same. subst (IsSettled c r) (sym same) now) (λ other. h.settled j (omega arith))

  settled_next : IsSettled c r k → SettledTo c d found (k + 1) None spare r
  settled_next now = record {
    ready = h.ready;
    loaded = h.loaded;
    device = h.device;
    reads = h.reads;
    owes = h.owes;
    credits = h.credits;
    settled = one_more_settled now;
    later = λ j above. h.later j (omega arith);
  }

  at_device : device_of c r ≡ device_at c d.0
  at_device = ap (λ (e : DevId). device_at c e.0) h.device

  given_same : given c (device_of c r) k (held_reads c r) ≡ given c (device_at c d.0) k found
  given_same = λ j. given c (at_device j) k (h.reads j)

  settled_given : (debt : Option Debt) → k < 4 → SettledTo c d found (k + 1) debt spare (given_run k debt r)
  settled_given debt lt = let four = h.ready.run.four_slots in record {
    ready = record {
      circuit = h.ready.circuit;
      run = record { device = h.ready.run.device; six_reads = h.ready.run.six_reads; four_slots = length-set r.given k true ∙ four; only_needed = h.ready.run.only_needed };
      in_range = h.ready.in_range;
    };
    loaded = h.loaded;
    device = h.device;
    reads = h.reads;
    owes = refl;
    credits = h.credits;
    settled = λ j below. dite (ℕ_discrete j k)
        (λ same. inl (ap (λ (i : ℕ). slice_index_or (set r.given k true) i false) same ∙ get_or-set_same r.given k true false (omega arith)))
        (λ other. ⊎_elim (λ (was : given_at r j ≡ true). inl (get_or-set_other r.given k j true false other ∙ was)) inr (h.settled j (omega arith)));
    later = λ j above. get_or-set_other r.given k j true false (λ same. omega arith) ∙ h.later j (omega arith);
  }

pub skips_declared : (c : Network) (d : DevId) (found : Reads) (k net : ℕ) (spare : Bool) (a : Actor) → net ≡ target (device_at c d.0) k → is_declared c net ≡ true → IsGiving c d found k None spare a → IsGiving c d found (k + 1) None spare a
skips_declared c d found k net spare a at declared t = (t.0, t.1, settled_next c d found k spare t.0 t.2 (inr (inr (ap (λ (z : Device). is_declared c (target z k)) (at_device c d found k spare t.0 t.2) ∙ (ap (is_declared c) (sym at) ∙ declared)))))

pub skips_nothing : (c : Network) (d : DevId) (found : Reads) (k : ℕ) (spare : Bool) (a : Actor) → k < 4 → given c (device_at c d.0) k found ≡ None → IsGiving c d found k None spare a → IsGiving c d found (k + 1) None spare a
skips_nothing c d found k spare a lt none t = (t.0, t.1, settled_next c d found k spare t.0 t.2 (inr (inl (offers_nothing c t.0 t.2.ready k lt (given_same c d found k spare t.0 t.2 ∙ none)))))

pub may_give : (c : Network) (d : DevId) (found : Reads) (k net : ℕ) (v : ℤ) (spare : Bool) (a : Actor) → net ≡ target (device_at c d.0) k → is_declared c net ≡ false → given c (device_at c d.0) k found ≡ Some v → IsGiving c d found k None spare a → MayGive c d k v a
may_give c d found k net v spare a at free is t = (t.0, t.1, t.2.ready, t.2.loaded, t.2.device, t.2.owes, t.2.later k (omega arith), ap (is_declared c) (sym at) ∙ free, ap (given c (device_at c d.0) k) t.2.reads ∙ is)

pub gave_slot : (c : Network) (d : DevId) (found : Reads) (k : ℕ) (spare : Bool) (debt : Option Debt) (a b : Actor) → k < 4 → IsGiving c d found k None spare a → b ≡ Running (given_run k debt (run_of a)) → IsGiving c d found (k + 1) debt spare b
gave_slot c d found k spare debt a b lt t e = (given_run k debt t.0, e ∙ ap (λ (z : Actor). Running (given_run k debt (run_of z))) t.1, settled_given c d found k spare t.0 t.2 debt lt)

pub marks_fan : (c : Network) (d : DevId) (found : Reads) (k net : ℕ) (spare : Bool) (a : Actor) → IsGiving c d found k (debt_from c net 0) spare a → IsMarking c net 0 spare a
marks_fan c d found k net spare a t = (t.0, t.1, t.2.owes, t.2.credits)

pub fan_marked : (c : Network) (d : DevId) (found : Reads) (k : ℕ) (debt : Option Debt) (spare more : Bool) (a b : Actor) → IsGiving c d found k debt spare a → b ≡ Running (with_debt None more (run_of a)) → IsGiving c d found k None more b
fan_marked c d found k debt spare more a b t e = let h = t.2 in (
  with_debt None more t.0,
  e ∙ ap (λ (z : Actor). Running (with_debt None more (run_of z))) t.1,
  record {
    ready = record {
      circuit = h.ready.circuit;
      run = record { device = h.ready.run.device; six_reads = h.ready.run.six_reads; four_slots = h.ready.run.four_slots; only_needed = h.ready.run.only_needed };
      in_range = h.ready.in_range;
    };
    loaded = h.loaded;
    device = h.device;
    reads = h.reads;
    owes = refl;
    credits = refl;
    settled = h.settled;
    later = h.later;
  },
)

abbrev the_debt : ℕ → Option Debt
the_debt n = Some record { net = record { 0 = n }; place = 0 }

not_below : (x y : ℕ) → y ≤ x → nat_lt x y ≡ false
not_below x y h = grind (arith, nat_tests)

above_floor : (fl : Option ℤ) (v : ℤ) → IfSome fl (λ x. neg_ℤ (pos 1000000) ≤ℤ x) → IsSomeAnd fl (λ x. x ≤ℤ v) → neg_ℤ (pos 1000000) ≤ℤ v
above_floor None v f h = absurd h
above_floor (Some x) v f h = omega (arith, ints)

below_ceiling : (ce : Option ℤ) (v : ℤ) → IfSome ce (λ x. x ≤ℤ pos 1000000) → IsSomeAnd ce (λ x. v ≤ℤ x) → v ≤ℤ pos 1000000
below_ceiling None v f h = absurd h
below_ceiling (Some x) v f h = omega (arith, ints)

-- a value that is given lies between the floor and the ceiling, so within a million
pub given_million : (c : Network) → IsInMillion c → (d : Device) (k : ℕ) (reads : Reads) (v : ℤ) → given c d k reads ≡ Some v → (neg_ℤ (pos 1000000) ≤ℤ v) × (v ≤ℤ pos 1000000)
given_million c range d k reads v is = let between = given_in_range c d k reads v is in (above_floor (floor_of c) v range.floor between.0, below_ceiling (ceiling_of c) v range.ceiling between.1)

-- read back from a machine word
pub value_back : (v : ℤ) → (neg_ℤ (pos 1000000) ≤ℤ v) × (v ≤ℤ pos 1000000) → to_z w64 (of_z w64 v) ≡ v
value_back v h = let low = h.0 in let high = h.1 in omega (arith, ints)

-- ---- a slot that gives a value
module _ (c : Network) (range : IsInMillion c) (d : DevId) (k net : ℕ) (value : ℤ) (v : View) (lt : k < 4) (at : net ≡ target (device_at c d.0) k) (may : MayGive c d k value v.actor) where
  abbrev r : Run
  r = may.0

  same_device : device_of c r ≡ device_at c d.0
  same_device = ap (λ (e : DevId). device_at c e.0) may.4

  gives_it : given c (device_of c r) k (held_reads c r) ≡ Some value
  gives_it = ap (λ (z : Device). given c z k (held_reads c r)) same_device ∙ may.8

  something : 0 < offer c r k
  something = offers_something c r may.2 k value lt gives_it

  most : offer c r k ≤ widest c
  most = gives_in_range c (device_of c r) k (held r) (may.2.in_range k)

  pub in_range : (neg_ℤ (pos 1000000) ≤ℤ value) × (value ≤ℤ pos 1000000)
  in_range = given_million c range (device_of c r) k (held_reads c r) value gives_it

  pub widens : (x : ℕ) → IsAllowed c (Widen k) v.actor x
  widens x = subst (λ (z : Actor). IsAllowed c (Widen k) z x) (sym may.1) (lt, may.3, may.5, (may.6, something, ap (λ (z : Device). is_declared c (target z k)) same_device ∙ may.7))

  pub widens_at : (bound : ℕ) → bound ≡ 2 * net + k % 2 → bound ≡ target_place (device_at c (run_of v.actor).device.0) k
  widens_at bound is = is ∙ (ap (λ (n : ℕ). 2 * n + k % 2) at ∙ ap (λ (e : DevId). target_place (device_at c e.0) k) (sym (ap (λ (z : Actor). (run_of z).device) may.1 ∙ may.4)))

  pub widens_most : offer c (run_of v.actor) k ≤ widest c
  widens_most = subst (λ (z : Actor). offer c (run_of z) k ≤ widest c) (sym may.1) most

  pub lowers_by : (operand : ℕ) → operand ≡ stored 0 (Some value) → k % 2 ≡ 0 → operand ≡ word_of c 0 (offer c (run_of v.actor) k)
  lowers_by operand is even = is ∙ (ap (stored 0) (sym gives_it) ∙ (sym (operand_low c r may.2 k lt even) ∙ ap (λ (z : Actor). word_of c 0 (offer c (run_of z) k)) (sym may.1)))

  pub raises_by : (operand : ℕ) → operand ≡ stored 0 (Some value) → k % 2 ≡ 1 → operand ≡ word_of c 1 (offer c (run_of v.actor) k)
  raises_by operand is odd = is ∙ (ap (stored 1) (sym gives_it) ∙ (sym (operand_high c r may.2 k lt (λ even. omega arith)) ∙ ap (λ (z : Actor). word_of c 1 (offer c (run_of z) k)) (sym may.1)))

  -- the net's fan has the device itself
  some_fan : 0 < length (fan_of c net)
  some_fan = let t = fan_has c (target (device_of c r) k) r.device.0 may.2.run.device (touches_given c (device_of c r) k (held r) something) in
      let there : target (device_of c r) k ≡ net = ap (λ (z : Device). target z k) same_device ∙ sym at in
      let long : length (fan_of c (target (device_of c r) k)) ≡ length (fan_of c net) = ap (λ (n : ℕ). length (fan_of c n)) there in let below = t.1 in omega arith

  owes_it : Some record { net = record { 0 = target (device_of c r) k }; place = 0 } ≡ debt_from c net 0
  owes_it = ap (λ (n : ℕ). the_debt n) (ap (λ (z : Device). target z k) same_device ∙ sym at) ∙ sym (owed_there c net 0 some_fan)

  -- what the run is after it, by what was found
  after_widen : (x : ℕ) (narrower : Bool) → nat_lt x (offer c r k) ≡ narrower → widened c k x r ≡ given_run k (if narrower then debt_from c net 0 else None) r
  after_widen x narrower e j = record { device = r.device; reads = r.reads; given = set r.given k true; owes = if e j then owes_it j else None; credits = r.credits }

  pub widened_low : (w : View) (word operand bound : ℕ) → v.circuit ≡ c → w ≡ advance (Widen k) v word → bound ≡ 2 * net + k % 2 → operand ≡ stored 0 (Some value) → k % 2 ≡ 0 → IsBoundWord c (bound % 2) word
      → w.actor ≡ Running (given_run k (if nat_lt operand word then debt_from c net 0 else None) (run_of v.actor))
  widened_low w word operand bound own step is by even known =
      let side : bound % 2 ≡ 0 = omega arith in let low : IsBoundWord c 0 word = subst (λ (s : ℕ). IsBoundWord c s word) side known in
      let x : ℕ = reach_in c 0 word in let op : operand ≡ word_of c 0 (offer c r k) = by ∙ (ap (stored 0) (sym gives_it) ∙ sym (operand_low c r may.2 k lt even)) in
      let narrower : nat_lt x (offer c r k) ≡ nat_lt operand word = dite (dec_lt x (offer c r k))
      (λ below. let less : word_of c 0 (offer c r k) < word_of c 0 x = low_less c range x (offer c r k) low.reach most below in let back : word_of c 0 x ≡ word = low.back in lt-ltb x (offer c r k) below ∙ sym (lt-ltb operand word (omega arith)))
      (λ above. let more : word_of c 0 x ≤ word_of c 0 (offer c r k) = low_most c range x (offer c r k) low.reach most (omega arith) in let back : word_of c 0 x ≡ word = low.back in not_below x (offer c r k) (omega arith) ∙ sym (not_below operand word (omega arith))) in
      actor_is c (Widen k) v w word own step ∙ (subst (λ (z : Actor). new_actor c (Widen k) z (value_found c (Widen k) z word) ≡ Running (given_run k (if nat_lt operand word then debt_from c net 0 else None) (run_of z))) (sym may.1)
      (ap (λ (y : ℕ). Running (widened c k y r)) (ap (λ (s : ℕ). reach_in c s word) (let e : target_place (device_of c r) k % 2 ≡ 0 = omega arith in e)) ∙ ap (λ (z : Run). Running z) (after_widen x (nat_lt operand word) narrower)))

  pub widened_high : (w : View) (word operand bound : ℕ) → v.circuit ≡ c → w ≡ advance (Widen k) v word → bound ≡ 2 * net + k % 2 → operand ≡ stored 0 (Some value) → k % 2 ≡ 1 → IsBoundWord c (bound % 2) word
      → w.actor ≡ Running (given_run k (if nat_lt word operand then debt_from c net 0 else None) (run_of v.actor))
  widened_high w word operand bound own step is by odd known =
      let side : bound % 2 ≡ 1 = omega arith in let high : IsBoundWord c 1 word = subst (λ (s : ℕ). IsBoundWord c s word) side known in
      let x : ℕ = reach_in c 1 word in let op : operand ≡ word_of c 1 (offer c r k) = by ∙ (ap (stored 1) (sym gives_it) ∙ sym (operand_high c r may.2 k lt (λ even. omega arith))) in
      let narrower : nat_lt x (offer c r k) ≡ nat_lt word operand = dite (dec_lt x (offer c r k))
      (λ below. let less : word_of c 1 x < word_of c 1 (offer c r k) = high_less c range x (offer c r k) high.reach most below in let back : word_of c 1 x ≡ word = high.back in lt-ltb x (offer c r k) below ∙ sym (lt-ltb word operand (omega arith)))
      (λ above. let more : word_of c 1 (offer c r k) ≤ word_of c 1 x = high_most c range x (offer c r k) high.reach most (omega arith) in let back : word_of c 1 x ≡ word = high.back in not_below x (offer c r k) (omega arith) ∙ sym (not_below word operand (omega arith))) in
      actor_is c (Widen k) v w word own step ∙ (subst (λ (z : Actor). new_actor c (Widen k) z (value_found c (Widen k) z word) ≡ Running (given_run k (if nat_lt word operand then debt_from c net 0 else None) (run_of z))) (sym may.1)
      (ap (λ (y : ℕ). Running (widened c k y r)) (ap (λ (s : ℕ). reach_in c s word) (let e : target_place (device_of c r) k % 2 ≡ 1 = omega arith in e)) ∙ ap (λ (z : Run). Running z) (after_widen x (nat_lt word operand) narrower)))

-- ---- the end
pub may_leave : (c : Network) (d : DevId) (found : Reads) (spare : Bool) (a : Actor) → IsGiving c d found 4 None spare a → (x : ℕ) → IsAllowed c Release a x
may_leave c d found spare a t x = subst (λ (z : Actor). IsAllowed c Release z x) (sym t.1) (t.2.loaded, t.2.owes, t.2.settled)

pub leaves_it : (c : Network) (d : DevId) (found : Reads) (spare : Bool) (a : Actor) → IsGiving c d found 4 None spare a → d.0 ≡ (run_of a).device.0
leaves_it c d found spare a t = sym (ap (λ (z : Actor). (run_of z).device.0) t.1 ∙ ap (λ (e : DevId). e.0) t.2.device)

pub left_it : (c : Network) (d : DevId) (found : Reads) (spare : Bool) (v w : View) (word : ℕ) → v.circuit ≡ c → w ≡ advance Release v word → IsGiving c d found 4 None spare v.actor → w.actor ≡ Idle (if spare then 2 else 1)
left_it c d found spare v w word own step t = actor_is c Release v w word own step ∙ (ap (λ (z : Actor). Idle (run_of z).credits) t.1 ∙ ap (λ (n : ℕ). Idle n) t.2.credits)

pub may_give_back : (c : Network) (n : ℕ) (a : Actor) → a ≡ Idle (suc n) → (x : ℕ) → IsAllowed c GiveCredit a x
may_give_back c n a e x = subst (λ (z : Actor). IsAllowed c GiveCredit z x) (sym e) (omega arith)

pub gave_back : (c : Network) (n : ℕ) (v w : View) (word : ℕ) → v.circuit ≡ c → w ≡ advance GiveCredit v word → v.actor ≡ Idle (suc n) → w.actor ≡ Idle n
gave_back c n v w word own step e = actor_is c GiveCredit v w word own step ∙ (ap one_less e ∙ (let less : suc n - 1 ≡ n = omega arith in ap (λ (m : ℕ). Idle m) less))
