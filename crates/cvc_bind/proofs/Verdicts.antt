-- Verdicts that were fine so far, in front of those that are left.
use Rattle.std.proofs.Common.{◌≡◌, ℕ, ◌+◌, ◌<◌, List, [], ◌∷◌, ◌++◌, map, length, drop, Result, Ok, Err, refl, sym, ap, ◌∙◌, append_assoc}
use Rattle.std.specs.Prelude.{slice_index_or}
use Rattle.std.proofs.Common.{◌≤◌}
use Rattle.std.proofs.lemmas.List.{append-nil, drop_all, drop_more}
use Rattle.cvc_base.specs.declared.fault.Fault.{Fault}
use Rattle.cvc_base.specs.Verdicts.{in_front, rows_or_fault}

abbrev pub behind : {A : Type 0} → List A → Result (List A) Fault → Result (List A) Fault
behind front (Ok rows) = Ok (front ++ rows)
behind front (Err fault) = Err fault

pub behind_none : {A : Type 0} (r : Result (List A) Fault) → behind [] r ≡ r
behind_none (Ok rows) = refl
behind_none (Err fault) = refl

behind_row : {A : Type 0} (front : List A) (x : A) (r : Result (List A) Fault) → behind front (in_front (Ok x) r) ≡ behind (front ++ x ∷ []) r
behind_row front x (Ok rows) = ap Ok (sym (append_assoc front (x ∷ []) rows))
behind_row front x (Err fault) = refl

module _ {A B : Type 0} (verdict : A → Result B Fault) (xs : List A) (i : ℕ) (default : A) (front : List B) (inside : i < length xs) where
  -- what is left begins with the verdict at the place
  left : rows_or_fault (map verdict (drop i xs)) ≡ in_front (verdict (slice_index_or xs i default)) (rows_or_fault (map verdict (drop (i + 1) xs)))
  unfolding rows_or_fault
  left = ap (λ l. rows_or_fault (map verdict l)) (drop_more xs i default inside)

  pub one_more : (x : B) → verdict (slice_index_or xs i default) ≡ Ok x → behind (front ++ x ∷ []) (rows_or_fault (map verdict (drop (i + 1) xs))) ≡ behind front (rows_or_fault (map verdict (drop i xs)))
  one_more x e =
      sym (behind_row front x (rows_or_fault (map verdict (drop (i + 1) xs)))) ∙ ap (λ v. behind front (in_front v (rows_or_fault (map verdict (drop (i + 1) xs))))) (sym e)
      ∙ ap (behind front) (sym left)

  pub at_fault : (fault : Fault) → verdict (slice_index_or xs i default) ≡ Err fault → behind front (rows_or_fault (map verdict (drop i xs))) ≡ Err fault
  at_fault fault e = ap (behind front) (left ∙ ap (λ v. in_front v (rows_or_fault (map verdict (drop (i + 1) xs)))) e)

-- nothing is left
pub none_left : {A B : Type 0} (verdict : A → Result B Fault) (xs : List A) (i : ℕ) (front : List B) → length xs ≤ i → behind front (rows_or_fault (map verdict (drop i xs))) ≡ Ok front
unfolding rows_or_fault
none_left verdict xs i front done = ap (λ l. behind front (rows_or_fault (map verdict l))) (drop_all i xs done) ∙ ap Ok (append-nil front)
