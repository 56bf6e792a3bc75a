-- Rows beside what is found in their modes.
use Rattle.std.proofs.Common.{◌≡◌, ℕ, ◌<◌, ◌≤◌, List, length, get_or, min, sym, ◌∙◌, arith}
use Rattle.std.specs.Prelude.{zip}
use Rattle.std.proofs.lemmas.Slice.Zip.{get_or-zip, length-zip}

module _ {A B : Type 0} (xs : List A) (ys : List B) (as_many : length ys ≡ length xs) where
  pub pair_inside : (k : ℕ) → k < length xs → k < length (zip xs ys)
  pair_inside k lt = grind (arith, as_many, length-zip xs ys)

  pub pairs_end : (k : ℕ) → length xs ≤ k → length (zip xs ys) ≤ k
  pairs_end k le = grind (arith, as_many, length-zip xs ys)

  pub pair_at : (k : ℕ) (x : A) (y : B) → k < length xs → x ≡ get_or xs k x → y ≡ get_or ys k y → (x, y) ≡ get_or (zip xs ys) k (x, y)
  pair_at k x y lt e f = (λ i. (e i, f i)) ∙ sym (get_or-zip xs ys k (x, y) lt (omega (arith, lt, as_many)))
