-- The reads of a device are loaded, one after the other.
use Rattle.std.proofs.Common.{◌≡◌, ℕ, zero, suc, ◌+◌, ◌%◌, ◌<◌, ◌≤◌, true, false, List, Option, None, Some, IsSome, replicate, set, slice_index_or, arith, ap, refl, sym, subst, ◌∙◌, length-set, get_or-set_other, lt-ltb}
use Rattle.std.specs.Prelude.{ℤ}
use Rattle.std.proofs.lemmas.Grind.{get_or-set_at}
use Rattle.std.proofs.lemmas.Bool.Decides.{nat_tests}
use mathlib.Core.Logic.{dite}
use native.Mathlib.Decide.{ℕ_discrete, dec_lt}
use Rattle.cvc_base.specs.declared.ids.DevId.{DevId}
use Rattle.cvc_law.specs.Network.{Network, devices, IsCircuit, ceiling_of, floor_of}
use Rattle.cvc_law.specs.Reach.{widest, low_of, high_of, bound_of, device_at, read_place, read_count, needs}
use Rattle.cvc_law.specs.ReachWord.{bound_in, reach_in}
use Rattle.cvc_core.specs.declared.actor.Run.{Run}
use Rattle.cvc_core.specs.declared.actor.Actor.{Actor}
use Rattle.cvc_core.specs.declared.actor.Actor.TheVariants.{Running}
use Rattle.cvc_core.specs.declared.actor.Intent.TheVariants.{Read}
use Rattle.cvc_core.specs.State.{run_of, device_of, or_nothing, read_at, held}
use Rattle.cvc_core.specs.Steps.{IsAllowed, begun, loaded, new_actor}
use Rattle.cvc_field.specs.declared.view.View.{View}
use Rattle.cvc_field.specs.Views.{advance, value_found, IsBoundWord}
use Rattle.cvc_field.specs.Runs.{LoadedTo, IsLoading, IsGiving, reads_in}
use Rattle.cvc_field.proofs.Bounds.{bound_of_word}

-- ---- at the beginning
no_low : (ce : Option ℤ) → low_of ce 0 ≡ None
no_low None = refl
no_low (Some ce) = refl

no_high : (fl : Option ℤ) → high_of fl 0 ≡ None
no_high None = refl
no_high (Some fl) = refl

no_bound : (c : Network) (side : ℕ) → bound_of c side 0 ≡ None
no_bound c zero = no_low (ceiling_of c)
no_bound c (suc n) = no_high (floor_of c)

none_at : (n j : ℕ) → let none : Option ℕ = None in slice_index_or (replicate n none) j none ≡ none
none_at zero j = refl
none_at (suc n) zero = refl
none_at (suc n) (suc j) = none_at n j

unknown_at : (n j : ℕ) → let none : Option ℤ = None in slice_index_or (replicate n none) j none ≡ none
unknown_at zero j = refl
unknown_at (suc n) zero = refl
unknown_at (suc n) (suc j) = unknown_at n j

none_given : (n j : ℕ) → slice_index_or (replicate n false) j false ≡ false
none_given zero j = refl
none_given (suc n) zero = refl
none_given (suc n) (suc j) = none_given n j

pub loading_begins : (c : Network) (d : DevId) (a : Actor) → a ≡ Running (begun d.0) → IsLoading c d 0 (replicate 6 None) a
loading_begins c d a is = (
  begun d.0,
  is,
  record {
    device = refl;
    owes = refl;
    credits = refl;
    four_slots = refl;
    six_reads = refl;
    six_bounds = refl;
    nothing_given = none_given 4;
    done = λ j lt. absurd (omega arith);
    later = λ j above. none_at 6 j;
    in_range = λ j. let none : held (begun d.0) j ≡ 0 = ap or_nothing (none_at 6 j) in omega arith;
    told = λ j lt. unknown_at 6 j ∙ (sym (no_bound c (j % 2)) ∙ ap (bound_of c (j % 2)) (sym (ap or_nothing (none_at 6 j))));
  },
)

-- ---- one read
loaded_next : (c : Network) (d : DevId) (i x : ℕ) (bounds : List (Option ℤ)) (o : Option ℤ) (r : Run) → i < 6 → x ≤ widest c → o ≡ bound_of c (i % 2) x → LoadedTo c d i bounds r → LoadedTo c d (i + 1) (set bounds i o) (loaded i x r)
loaded_next c d i x bounds o r lt most is h = let six = h.six_reads in let many = h.six_bounds in record {
  device = h.device;
  owes = h.owes;
  credits = h.credits;
  four_slots = h.four_slots;
  six_reads = length-set r.reads i (Some x) ∙ h.six_reads;
  six_bounds = length-set bounds i o ∙ h.six_bounds;
  nothing_given = h.nothing_given;
  done = λ j below. dite (ℕ_discrete j i)
      (λ same. subst IsSome (sym (get_or-set_at r.reads i j (Some x) None same (omega arith))) refl)
      (λ other. subst IsSome (sym (get_or-set_other r.reads i j (Some x) None other)) (h.done j (omega arith)));
  later = λ j above. get_or-set_other r.reads i j (Some x) None (λ same. omega arith) ∙ h.later j (omega arith);
  in_range = λ j. dite (ℕ_discrete j i)
      (λ same. let e : held (loaded i x r) j ≡ x = ap or_nothing (get_or-set_at r.reads i j (Some x) None same (omega arith)) in omega arith)
      (λ other. let e : held (loaded i x r) j ≡ held r j = ap or_nothing (get_or-set_other r.reads i j (Some x) None other) in let old = h.in_range j in omega arith);
  told = λ j few. dite (ℕ_discrete j i)
      (λ same. get_or-set_at bounds i j o None same (omega arith) ∙ (is ∙ (λ k. bound_of c (sym same k % 2) (sym (ap or_nothing (get_or-set_at r.reads i j (Some x) None same (omega arith))) k))))
      (λ other. get_or-set_other bounds i j o None other ∙ (h.told j few ∙ ap (bound_of c (j % 2)) (sym (ap or_nothing (get_or-set_other r.reads i j (Some x) None other)))));
}

pub loading_loads : (c : Network) (d : DevId) (i place word : ℕ) (bounds : List (Option ℤ)) (o : Option ℤ) (v w : View) → v.circuit ≡ c → i < 6 → w ≡ advance (Read i) v word → place ≡ read_place (device_at c d.0) i → o ≡ bound_in (place % 2) word → IsBoundWord c (place % 2) word
    → IsLoading c d i bounds v.actor → IsLoading c d (i + 1) (set bounds i o) w.actor
unfolding advance
loading_loads c d i place word bounds o v w own lt step at is known t =
    let device : (run_of v.actor).device ≡ d = ap (λ (a : Actor). (run_of a).device) t.1 ∙ t.2.device in
    let x : ℕ = reach_in c (place % 2) word in
    let same : value_found v.circuit (Read i) v.actor word ≡ x = (λ k. reach_in (own k) (read_place (device_at (own k) (device k).0) i % 2) word) ∙ ap (λ (b : ℕ). reach_in c (b % 2) word) (sym at) in
    let side : place % 2 ≡ i % 2 = omega arith in (
      loaded i x t.0,
      ap (λ (u : View). u.actor) step ∙ (λ k. new_actor v.circuit (Read i) (t.1 k) (same k)),
      loaded_next c d i x bounds o t.0 lt known.reach (is ∙ (bound_of_word c (place % 2) word (omega arith) known ∙ ap (λ (s : ℕ). bound_of c s x) side)) t.2,
    )

-- it may be loaded
pub may_load : (c : Network) (d : DevId) (i : ℕ) (bounds : List (Option ℤ)) (a : Actor) → i < read_count (device_at c d.0).kind → IsLoading c d i bounds a → (x : ℕ) → IsAllowed c (Read i) a x
may_load c d i bounds a lt t x = subst (λ (z : Actor). IsAllowed c (Read i) z x) (sym t.1)
    (ap (λ (e : DevId). needs (device_at c e.0).kind i) t.2.device ∙ lt-ltb i (read_count (device_at c d.0).kind) lt, t.2.later i (omega arith), t.2.nothing_given)

pub loads_at : (c : Network) (d : DevId) (i place : ℕ) (bounds : List (Option ℤ)) (a : Actor) → place ≡ read_place (device_at c d.0) i → IsLoading c d i bounds a → place ≡ read_place (device_at c (run_of a).device.0) i
loads_at c d i place bounds a at t = at ∙ ap (λ (e : DevId). read_place (device_at c e.0) i) (sym (ap (λ (b : Actor). (run_of b).device) t.1 ∙ t.2.device))

-- ---- all of them
not_none : (o : Option ℕ) (x : ℕ) → o ≡ None → o ≡ Some x → ⊥
not_none o x none some_x = cc

pub all_loaded : (c : Network) (d : DevId) (bounds : List (Option ℤ)) (a : Actor) → IsCircuit c.fixed c.devices → d.0 < devices c → IsLoading c d (read_count (device_at c d.0).kind) bounds a → IsGiving c d (reads_in bounds) 0 None false a
all_loaded c d bounds a circuit lt t = let r : Run = t.0 in let h = t.2 in
    let kind : (device_of c r).kind ≡ (device_at c d.0).kind = ap (λ (e : DevId). (device_at c e.0).kind) h.device in
    let needed : (i : ℕ) → needs (device_of c r).kind i ≡ true → i < read_count (device_at c d.0).kind = λ i need. (let n : needs (device_at c d.0).kind i ≡ true = ap (λ k. needs k i) (sym kind) ∙ need in grind (arith, nat_tests)) in (
      r,
      t.1,
      record {
        ready = record {
          circuit = circuit;
          run = record {
            device = subst (λ (e : DevId). e.0 < devices c) (sym h.device) lt;
            six_reads = h.six_reads;
            four_slots = h.four_slots;
            only_needed = λ i x is. dite (dec_lt i (read_count (device_at c d.0).kind))
                (λ below. ap (λ k. needs k i) kind ∙ lt-ltb i (read_count (device_at c d.0).kind) below)
                (λ above. absurd (not_none (read_at r i) x (h.later i (omega arith)) is));
          };
          in_range = h.in_range;
        };
        loaded = λ i need. h.done i (needed i need);
        device = h.device;
        reads = λ k. record {
          a = record { low = sym (h.told 0 (omega arith)) k; high = sym (h.told 1 (omega arith)) k };
          b = record { low = sym (h.told 2 (omega arith)) k; high = sym (h.told 3 (omega arith)) k };
          g = record { low = sym (h.told 4 (omega arith)) k; high = sym (h.told 5 (omega arith)) k };
        };
        owes = h.owes;
        credits = h.credits;
        settled = λ j below. absurd (omega arith);
        later = λ j above. h.nothing_given j;
      },
    )

-- the reads of the device's kind
pub loaded_to_end : (c : Network) (d : DevId) (n i : ℕ) (bounds : List (Option ℤ)) (a : Actor) → n ≡ read_count (device_at c d.0).kind → i ≤ n → n ≤ i → IsLoading c d i bounds a → IsLoading c d (read_count (device_at c d.0).kind) bounds a
loaded_to_end c d n i bounds a count few many t = let same : i ≡ n = omega arith in subst (λ (m : ℕ). IsLoading c d m bounds a) (same ∙ count) t
