-- Where a row of a name stands first.
use Rattle.std.proofs.Common.{◌≡◌, ℕ, ◌+◌, ◌<◌, ◌≤◌, Bool, true, false, cond, List, [], length, get_or, Option, Some, None, inl, inr, sym, ap, ◌∙◌, arith}
use Rattle.std.specs.Prelude.{nat_lt}
use Rattle.std.specs.Str.{bytes_eq}
use Rattle.std.proofs.lemmas.Bool.{cases_lt}
use Rattle.std.proofs.lemmas.Bool.Decides.{nat_tests}
use Rattle.std.proofs.lemmas.List.{get_or-map, length-map}
use Rattle.std.proofs.lemmas.List.Sums.{position_or_len_is}
use Rattle.std.specs.List.{position_or_len}
use Rattle.cvc_names.specs.Names.{name_at, place_of}
use Rattle.cvc_power.specs.declared.row.PowerRow.{PowerRow}
use Rattle.cvc_power.specs.Power.{name_of}
use Rattle.cvc_delta.specs.Edits.{names_of}

-- no row before this place has the name
abbrev pub NotBefore : List PowerRow → List ℕ → ℕ → Type 0
NotBefore rows name k = (j : ℕ) → j < k → bytes_eq name (name_at (names_of rows) j) ≡ false

module _ (rows : List PowerRow) (name : List ℕ) (k : ℕ) (before : NotBefore rows name k) where
  pub found_none : length rows ≤ k → None ≡ place_of (names_of rows) name
  found_none past =
      let count : length (names_of rows) ≡ length rows = length-map rows name_of in
      let first : position_or_len (bytes_eq name) (names_of rows) ≡ length (names_of rows) =
      position_or_len_is (bytes_eq name) (names_of rows) (length (names_of rows)) [] (omega arith) (λ j less. before j (omega (arith, less, count, past))) (λ less. absurd (omega (arith, less))) in
      let test : nat_lt (length (names_of rows)) (length (names_of rows)) ≡ false = grind (arith, nat_tests) in
      sym (ap (λ n. cond (nat_lt n (length (names_of rows))) (Some n) None) first ∙ ap (λ (b : Bool). cond b (Some (length (names_of rows))) None) test)

  module _ (row : PowerRow) (b : Bool) (below : k < length rows) (at : row ≡ get_or rows k row) (tested : b ≡ bytes_eq name row.name) where
    here : bytes_eq name (name_at (names_of rows) k) ≡ b
    here = ap (bytes_eq name) (get_or-map name_of rows k row [] below ∙ ap name_of (sym at)) ∙ sym tested

    pub none_more : b ≡ false → NotBefore rows name (k + 1)
    none_more fails j less = elim (cases_lt j k) [
      | inl earlier ↦ before j earlier
      | inr later ↦ let same : j ≡ k = omega (arith, less, later) in ap (λ n. bytes_eq name (name_at (names_of rows) n)) same ∙ here ∙ fails
    ]

    pub found_first : b ≡ true → Some k ≡ place_of (names_of rows) name
    found_first passes =
        let inside : k < length (names_of rows) = omega (arith, below, length-map rows name_of) in
        let first : position_or_len (bytes_eq name) (names_of rows) ≡ k = position_or_len_is (bytes_eq name) (names_of rows) k [] (omega (arith, inside)) before (λ less. here ∙ passes) in
        let test : nat_lt k (length (names_of rows)) ≡ true = grind (arith, nat_tests) in
        sym (ap (λ n. cond (nat_lt n (length (names_of rows))) (Some n) None) first ∙ ap (λ (t : Bool). cond t (Some k) None) test)
