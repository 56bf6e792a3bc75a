-- The items of a list, as patterns of slices name them.
use Rattle.std.proofs.Common.{◌≡◌, ◌<◌, ◌≤◌, ◌-◌, List, [], ◌∷◌, length, get_or, take, drop, refl, sym, arith}
use Rattle.std.proofs.lemmas.List.{take_all}

module _ {A : Type 0} where
  pub no_items : (xs : List A) → length xs < 1 → xs ≡ []
  no_items [] h = refl
  no_items (x ∷ xs) h = absurd (omega arith)

  pub first_item : (xs : List A) (a : A) → 1 ≤ length xs → a ≡ get_or xs 0 a → xs ≡ a ∷ take (length xs - 1) (drop 1 xs)
  first_item [] a h e = absurd (omega arith)
  first_item (x ∷ xs) a h e = λ i. sym e i ∷ sym (take_all (length (x ∷ xs) - 1) xs (omega arith)) i

  pub two_items : (xs : List A) (a b : A) → 2 ≤ length xs → length xs < 3 → a ≡ get_or xs 0 a → b ≡ get_or xs 1 b → xs ≡ a ∷ b ∷ []
  two_items [] a b low high e f = absurd (omega arith)
  two_items (x ∷ []) a b low high e f = absurd (omega arith)
  two_items (x ∷ y ∷ []) a b low high e f = λ i. sym e i ∷ sym f i ∷ []
  two_items (x ∷ y ∷ z ∷ xs) a b low high e f = absurd (omega arith)

  pub three_items : (xs : List A) (a b c : A) → 3 ≤ length xs → length xs < 4 → a ≡ get_or xs 0 a → b ≡ get_or xs 1 b → c ≡ get_or xs 2 c → xs ≡ a ∷ b ∷ c ∷ []
  three_items [] a b c low high e f g = absurd (omega arith)
  three_items (x ∷ []) a b c low high e f g = absurd (omega arith)
  three_items (x ∷ y ∷ []) a b c low high e f g = absurd (omega arith)
  three_items (x ∷ y ∷ z ∷ []) a b c low high e f g = λ i. sym e i ∷ sym f i ∷ sym g i ∷ []
  three_items (x ∷ y ∷ z ∷ w ∷ xs) a b c low high e f g = absurd (omega arith)

  pub first_two : (xs : List A) (a b : A) → 2 ≤ length xs → a ≡ get_or xs 0 a → b ≡ get_or xs 1 b → xs ≡ a ∷ b ∷ take (length xs - 2) (drop 2 xs)
  first_two [] a b h e f = absurd (omega arith)
  first_two (x ∷ []) a b h e f = absurd (omega arith)
  first_two (x ∷ y ∷ xs) a b h e f = λ i. sym e i ∷ sym f i ∷ sym (take_all (length (x ∷ y ∷ xs) - 2) xs (omega arith)) i
