-- Marks of the nets that names have found, one more at a time.
use Rattle.std.proofs.Common.{◌≡◌, ◌≢◌, ℕ, ◌<◌, Bool, true, false, ◌||◌, List, [], ◌∷◌, ◌++◌, length, refl, ap, sym, ◌∙◌, arith}
use Rattle.std.specs.Prelude.{◌==◌, nat_eq, slice_index_or, slice_set}
use Rattle.std.proofs.lemmas.Grind.{common_steps}
use Rattle.std.proofs.lemmas.List.{get_or-set_same, get_or-set_other}
use Rattle.std.proofs.lemmas.List.Folds.{list_any-append}
use Rattle.cvc_base.specs.declared.ids.NetId.{NetId}
use Rattle.cvc_bind.specs.Nets.{AreMarked, stands_in}
use Rattle.cvc_bind.proofs.Found.{net_inside}

or_false : (b : Bool) → (b || false) ≡ b
or_false true = refl
or_false false = refl

one_more : (nets : List NetId) (n k : ℕ) → stands_in (nets ++ record { 0 = n } ∷ []) k ≡ (stands_in nets k || (n == k))
one_more nets n k = list_any-append (λ (net : NetId). net.0 == k) nets (record { 0 = n } ∷ []) ∙ ap (λ b. stands_in nets k || b) (or_false (n == k))

pub marked_more : (marks : List Bool) (nets : List NetId) (n : ℕ) → n < length marks → AreMarked marks nets → AreMarked (slice_set marks n true) (nets ++ record { 0 = n } ∷ [])
marked_more marks nets n inside marked = record { right = λ k h. by k (nat_eq n k) refl h }
  where
    by : (k : ℕ) (b : Bool) → nat_eq n k ≡ b → k < length (slice_set marks n true) → slice_index_or (slice_set marks n true) k false ≡ stands_in (nets ++ record { 0 = n } ∷ []) k
    by k true e h =
        let same : k ≡ n = grind (arith, common_steps) in
        rw same (get_or-set_same marks n true false inside) ∙ sym (one_more nets n k ∙ ap (λ b. stands_in nets k || b) e ∙ or_true (stands_in nets k))
      where
        or_true : (b : Bool) → (b || true) ≡ true
        or_true true = refl
        or_true false = refl
    by k false e h =
        let other : k ≢ n = grind (arith, common_steps) in
        let old : k < length marks = grind (arith, common_steps) in
        get_or-set_other marks n k true false other ∙ marked.right k old ∙ sym (one_more nets n k ∙ ap (λ b. stands_in nets k || b) e ∙ or_false (stands_in nets k))

pub mark_of : (marks : List Bool) (nets : List NetId) (n : ℕ) → AreMarked marks nets → n < length marks → slice_index_or marks n false ≡ stands_in nets n
mark_of marks nets n marked inside = marked.right n inside

pub ruleset found_nets = (net_inside, marked_more, mark_of)
