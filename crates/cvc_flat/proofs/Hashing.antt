-- Places in chains by their buckets: how the chains are made, from the last place on, and how they are followed.
use Rattle.std.proofs.Common.{◌≡◌, ℕ, suc, ◌+◌, ◌%◌, ◌<◌, ◌≤◌, Bool, false, List, length, get_or, set, replicate, sym, ap, subst, ◌∙◌, arith, length-set, inl, inr}
use Rattle.std.proofs.lemmas.Bool.{cases_eq, cases_lt}
use Rattle.std.proofs.lemmas.List.{get_or-replicate, get_or-set_other, get_or-set_same, length-replicate}
use Rattle.cvc_flat.specs.Hashes.{AreChained, IsNext, NonePasses, bucket_at, hash_at}

-- ## Made

-- from this place on
pub record AreChainedFrom (buckets : ℕ) (hashes : List ℕ) (from : ℕ) (first next : List ℕ) : Type 0 where
  pub some : 0 < buckets
  pub size : length first ≡ buckets
  pub count : length next ≡ length hashes
  pub heads : (bucket : ℕ) → bucket < buckets → IsNext buckets hashes bucket from (get_or first bucket 0)
  pub links : (place : ℕ) → from ≤ place → place < length hashes → IsNext buckets hashes (bucket_at buckets hashes place) (suc place) (get_or next place 0)

pub chained_last : (hashes first next : List ℕ) (count none : ℕ) → count ≡ length hashes → none ≡ count → first ≡ replicate (count + 1) none → next ≡ replicate count none
    → AreChainedFrom (length first) hashes count first next
chained_last hashes first next count none all last is also = record {
  some = omega (arith, long);
  size = refl_of (length first);
  count = ap length also ∙ length-replicate count none ∙ all;
  heads = λ bucket below.
      let at : get_or first bucket 0 ≡ count = ap (λ (l : List ℕ). get_or l bucket 0) is ∙ get_or-replicate (count + 1) bucket none 0 (omega (arith, long)) ∙ last in
      record {
        further = omega arith;
        inside = omega arith;
        here = λ below. absurd (omega arith);
        none = λ j from until same. omega arith;
      };
  links = λ place from inside. absurd (omega arith);
}
  where
    long : length first ≡ count + 1
    long = ap length is ∙ length-replicate (count + 1) none

    refl_of : (n : ℕ) → n ≡ n
    refl_of n = omega arith

-- one place more in front
next_wider : (buckets : ℕ) (hashes : List ℕ) (bucket place next : ℕ) → (bucket_at buckets hashes place ≡ bucket → ⊥) → IsNext buckets hashes bucket (suc place) next → IsNext buckets hashes bucket place next
next_wider buckets hashes bucket place next other h = record {
  further = omega (arith, h.further);
  inside = h.inside;
  here = h.here;
  none = λ j from until same. elim (cases_eq j place) [
    | inl at ↦ other (ap (bucket_at buckets hashes) (sym at) ∙ same)
    | inr off ↦ h.none j (omega arith) until same
  ];
}

pub chained_before : (buckets : ℕ) (hashes : List ℕ) (place p bucket old : ℕ) (first next : List ℕ) → place ≡ suc p → p < length hashes → bucket < buckets → bucket ≡ bucket_at buckets hashes p
    → old ≡ get_or first bucket 0 → AreChainedFrom buckets hashes place first next → AreChainedFrom buckets hashes p (set first bucket p) (set next p old)
chained_before buckets hashes place p bucket old first next step inside below at was h = record {
  some = h.some;
  size = length-set first bucket p ∙ h.size;
  count = length-set next p old ∙ h.count;
  heads = λ b few. elim (cases_eq b bucket) [
    | inl same ↦
        let head : get_or (set first bucket p) b 0 ≡ p = ap (get_or_in (set first bucket p)) same ∙ get_or-set_same first bucket p 0 (omega (arith, h.size)) in
        record {
          further = omega arith;
          inside = omega arith;
          here = λ _. ap (bucket_at buckets hashes) head ∙ sym at ∙ sym same;
          none = λ j from until e. omega arith;
        }
    | inr other ↦
        subst (IsNext buckets hashes b p) (sym (get_or-set_other first bucket b p 0 other))
        (next_wider buckets hashes b p (get_or first b 0) (λ e. other (sym e ∙ sym at))
        (subst (λ (n : ℕ). IsNext buckets hashes b n (get_or first b 0)) step (h.heads b few)))
  ];
  links = λ j from few. elim (cases_eq j p) [
    | inl same ↦
        let link : get_or (set next p old) j 0 ≡ get_or first bucket 0 = ap (get_or_in (set next p old)) same ∙ get_or-set_same next p old 0 (omega (arith, h.count)) ∙ was in
        subst (IsNext buckets hashes (bucket_at buckets hashes j) (suc j)) (sym link)
        (subst (λ (k : ℕ). IsNext buckets hashes (bucket_at buckets hashes k) (suc k) (get_or first bucket 0)) (sym same)
        (subst (λ (b : ℕ). IsNext buckets hashes b (suc p) (get_or first bucket 0)) at
        (subst (λ (n : ℕ). IsNext buckets hashes bucket n (get_or first bucket 0)) step (h.heads bucket below))))
    | inr other ↦
        subst (IsNext buckets hashes (bucket_at buckets hashes j) (suc j)) (sym (get_or-set_other next p j old 0 other)) (h.links j (omega arith) few)
  ];
}
  where
    get_or_in : List ℕ → ℕ → ℕ
    get_or_in l k = get_or l k 0

pub chained_all : (buckets : ℕ) (hashes first next : List ℕ) → AreChainedFrom buckets hashes 0 first next → AreChained hashes first next
chained_all buckets hashes first next h = record {
  some = omega (arith, h.some, h.size);
  count = h.count;
  heads = λ bucket below. subst (λ (n : ℕ). IsNext n hashes bucket 0 (get_or first bucket 0)) (sym h.size) (h.heads bucket (omega (arith, h.size)));
  links = λ place inside. subst (λ (n : ℕ). IsNext n hashes (bucket_at n hashes place) (suc place) (get_or next place 0)) (sym h.size) (h.links place (omega arith) inside);
}

-- ## Followed

-- a place of the hash's bucket, or the number of all places, before which no place of the hash passes
pub record IsReached (buckets : ℕ) (hashes : List ℕ) (hash : ℕ) (Passes : ℕ → Bool → Type 0) (place : ℕ) : Type 0 where
  pub inside : place ≤ length hashes
  pub here : place < length hashes → bucket_at buckets hashes place ≡ hash % buckets
  pub before : NonePasses hashes hash Passes place

pub reached_first : (buckets : ℕ) (hashes : List ℕ) (hash : ℕ) (Passes : ℕ → Bool → Type 0) (place : ℕ) → IsNext buckets hashes (hash % buckets) 0 place → IsReached buckets hashes hash Passes place
reached_first buckets hashes hash Passes place h = record {
  inside = h.inside;
  here = h.here;
  before = λ j until same. absurd (h.none j (omega arith) until (ap (λ (n : ℕ). n % buckets) same));
}

pub reached_next : (buckets : ℕ) (hashes : List ℕ) (hash : ℕ) (Passes : ℕ → Bool → Type 0) (place next : ℕ) → place < length hashes → (hash_at hashes place ≡ hash → Passes place false)
    → IsNext buckets hashes (bucket_at buckets hashes place) (suc place) next → IsReached buckets hashes hash Passes place → IsReached buckets hashes hash Passes next
reached_next buckets hashes hash Passes place next inside fails h reached = record {
  inside = h.inside;
  here = λ below. h.here below ∙ reached.here inside;
  before = λ j until same. elim (cases_lt j place) [
    | inl below ↦ reached.before j below same
    | inr beyond ↦ elim (cases_eq j place) [
      | inl at ↦ subst (λ (k : ℕ). Passes k false) (sym at) (fails (ap (hash_at hashes) (sym at) ∙ same))
      | inr other ↦ absurd (h.none j (omega arith) until (ap (λ (n : ℕ). n % buckets) same ∙ sym (reached.here inside)))
    ]
  ];
}
