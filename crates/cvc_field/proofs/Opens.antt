-- The words at the start are a sound field.
use Rattle.std.proofs.Common.{add-one, append_assoc, take, ◌≡◌, ℕ, zero, suc, ◌+◌, ◌*◌, ◌/◌, ◌-◌, ◌%◌, ◌<◌, ◌≤◌, List, [], ◌∷◌, ◌++◌, length, slice_index, slice_index_or, get_or, Option, None, replicate, arith, ap, refl, sym, subst, ◌∙◌, length-append, true≢false}
use Rattle.std.proofs.lemmas.List.{length-replicate, get_or_append_left}
use mathlib.Core.Option.{some, some-injective, some-ne-none}
use lib.ListN.{get_elem?}
use Rattle.atomic_table.specs.Table.{opening}
use Rattle.cvc_law.specs.declared.interval.Fixed.{Fixed}
use Rattle.cvc_law.specs.Network.{Network, devices, fixed_at, IsCircuit}
use Rattle.cvc_law.specs.Reach.{width, bound_on, declared_interval}
use Rattle.cvc_law.specs.ReachWord.{stored, word_of, IsInMillion}
use Rattle.cvc_law.proofs.WordOrder.{declared_word}
use Rattle.cvc_core.specs.declared.actor.Actor.TheVariants.{Absent, Idle}
use Rattle.cvc_core.specs.State.{Place, CountWord, BoundWord, MarkWord, found}
use Rattle.cvc_core.specs.Steps.{IsPresent}
use Rattle.cvc_core.specs.Start.{start}
use Rattle.cvc_core.proofs.Starting.{start_sound, start_at, start_unknown}
use Rattle.cvc_field.specs.declared.view.View.{View}
use Rattle.cvc_field.specs.Words.{word_index, word_at}
use Rattle.cvc_field.specs.Views.{first_view}
use Rattle.cvc_field.specs.Words.{IsPlace}
use Rattle.cvc_field.specs.Field.{ViewFits, IsSoundField}
use Rattle.cvc_field.specs.Words.{word_row, start_words}

length-word_row : (xs : List (Option Fixed)) → length (word_row xs) ≡ 2 * length xs
length-word_row [] = refl
length-word_row (x ∷ xs) = let r = length-word_row xs in omega arith

row_at : (xs : List (Option Fixed)) (b : ℕ) → b < 2 * length xs → slice_index (word_row xs) b ≡ stored (b % 2) (bound_on (b % 2) (declared_interval (slice_index_or xs (b / 2) None)))
row_at [] b lt = absurd (omega arith)
row_at (x ∷ xs) zero lt = refl
row_at (x ∷ xs) (suc zero) lt = refl
row_at (x ∷ xs) (suc (suc b)) lt = let side : suc (suc b) % 2 ≡ b % 2 = omega arith in let net : suc (suc b) / 2 ≡ suc (b / 2) = omega arith in rw (side, net) (row_at xs b (omega arith))

past : (l m : List ℕ) (n d : ℕ) → length l ≡ n → slice_index (l ++ m) (n + d) ≡ slice_index m d
past [] m n d e = let z : n + d ≡ d = omega arith in ap (slice_index m) z
past (x ∷ xs) m zero d e = absurd (omega arith)
past (x ∷ xs) m (suc n) d e = let z : suc n + d ≡ suc (n + d) = omega arith in rw z (past xs m n d (omega arith))

start_bound : (c : Network) (hands b : ℕ) → IsCircuit c.fixed c.devices → stored (b % 2) (bound_on (b % 2) (declared_interval (fixed_at c (b / 2)))) ≡ word_at c (BoundWord b) (slice_index (start c hands).bounds b)
start_bound c hands b circuit = sym (declared_word c b circuit) ∙ ap (word_of c (b % 2)) (sym (start_at c hands b))

start_word : (c : Network) (hands : ℕ) (q : Place) → IsCircuit c.fixed c.devices → IsPlace c q → slice_index (start_words c) (word_index c q) ≡ word_at c q (found (start c hands) q)
unfolding start
start_word c hands CountWord circuit is = refl
start_word c hands (BoundWord b) circuit is = let z : 1 + b ≡ suc b = omega arith in let long = length-word_row c.fixed in
    rw z (get_or_append_left (word_row c.fixed) (replicate (devices c) 1) 0 b (omega arith) ∙ row_at c.fixed b is) ∙ start_bound c hands b circuit
start_word c hands (MarkWord d) circuit is = let z : 1 + width c + d ≡ suc (width c + d) = omega arith in
    rw z (past (word_row c.fixed) (replicate (devices c) 1) (width c) d (length-word_row c.fixed))

only_one : (v u : View) (j : ℕ) → get_elem? (v ∷ []) j ≡ some u → (j ≡ 0) × (v ≡ u)
only_one v u zero e = (refl, some-injective v u e)
only_one v u (suc j) e = absurd (some-ne-none u (sym e))

replicate_absent : (n k : ℕ) → IsPresent (get_or (replicate n Absent) k Absent) → ⊥
replicate_absent zero k h = h
replicate_absent (suc n) zero h = h
replicate_absent (suc n) (suc k) h = replicate_absent n k h

only_first : (hands k : ℕ) → IsPresent (get_or (Idle 0 ∷ replicate (hands - 1) Absent) k Absent) → 0 ≡ k
only_first hands zero present = refl
only_first hands (suc k) present = absurd (replicate_absent (hands - 1) k present)

pub opens : (c : Network) (hands : ℕ) → IsCircuit c.fixed c.devices → IsInMillion c → 0 < hands → hands ≤ 64 → IsSoundField c hands (opening (start_words c) [] (first_view c hands))
unfolding start
opens c hands circuit range some_hand few = let v : View = first_view c hands in record {
  history = [];
  happened = tt;
  machine = start c hands;
  replayed = refl;
  sound = start_sound c hands circuit few;
  range = range;
  actors = let n = length-replicate (hands - 1) Absent in omega arith;
  words = let a = length-append (word_row c.fixed) (replicate (devices c) 1) in let b = length-word_row c.fixed in let one : ℕ = 1 in let d : length (replicate (devices c) one) ≡ devices c = length-replicate (devices c) one in omega arith;
  word_is = λ q is. start_word c hands q circuit is;
  owner = λ k. 0;
  each = λ j u e live. let t = only_one v u j e in subst (λ (z : ℕ × View). ViewFits c hands (start c hands) (λ k. []) (λ k. 0) z.0 z.1) (λ k. (sym t.0 k, t.1 k)) record {
    some_number = some_hand;
    within = omega arith;
    owns = λ k a b. refl;
    actor = refl;
    told = refl;
    covers = tt;
    quiet = λ h. absurd (true≢false (sym h));
  };
  dealt = λ k lt. (0, v, refl, refl, record { above = omega arith; below = omega arith; only_first = only_first hands k });
  given = λ b free known. absurd (let none = start_unknown c hands b free in omega arith);
}

pub length-start_words : (c : Network) → length (start_words c) ≡ 1 + width c + devices c
length-start_words c = let one : ℕ = 1 in let a = length-append (word_row c.fixed) (replicate (devices c) one) in let b = length-word_row c.fixed in let d : length (replicate (devices c) one) ≡ devices c = length-replicate (devices c) one in omega arith

-- one more net
pub row_more : (xs : List (Option Fixed)) (i : ℕ) → i < length xs → word_row (take (suc i) xs) ≡ word_row (take i xs) ++ stored 0 (bound_on 0 (declared_interval (slice_index_or xs i None))) ∷ stored 1 (bound_on 1 (declared_interval (slice_index_or xs i None))) ∷ []
row_more [] i lt = absurd (omega arith)
row_more (x ∷ xs) zero lt = refl
row_more (x ∷ xs) (suc i) lt = ap (λ (l : List ℕ). stored 0 (bound_on 0 (declared_interval x)) ∷ stored 1 (bound_on 1 (declared_interval x)) ∷ l) (row_more xs i (omega arith))

grouped : (a w : List ℕ) (x y : ℕ) → ((a ++ w) ++ x ∷ []) ++ y ∷ [] ≡ a ++ (w ++ x ∷ (y ∷ []))
grouped a w x y = simp append_assoc

pub row_pushed : (l1 l2 l3 : List ℕ) (count : ℕ) (xs : List (Option Fixed)) (i low high : ℕ) → i < length xs → l1 ≡ count ∷ word_row (take i xs) → low ≡ stored 0 (bound_on 0 (declared_interval (slice_index_or xs i None))) → high ≡ stored 1 (bound_on 1 (declared_interval (slice_index_or xs i None)))
    → l2 ≡ l1 ++ low ∷ [] → l3 ≡ l2 ++ high ∷ [] → l3 ≡ count ∷ word_row (take (i + 1) xs)
row_pushed l1 l2 l3 count xs i low high lt a b d e f =
    f ∙ ((λ k. (e ∙ (λ j. a j ++ b j ∷ [])) k ++ d k ∷ []) ∙ rw (add-one, row_more xs i lt) (grouped (count ∷ []) (word_row (take i xs)) (stored 0 (bound_on 0 (declared_interval (slice_index_or xs i None)))) (stored 1 (bound_on 1 (declared_interval (slice_index_or xs i None))))))
