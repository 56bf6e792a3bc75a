-- A scan that goes on behind a block whose bytes all pass.
use Rattle.std.proofs.Common.{◌≡◌, ℕ, zero, suc, ◌+◌, ◌-◌, ◌≤◌, List, [], ◌∷◌, length, take, drop, Bool, true, ap, ◌∙◌, sym, arith, zero-add}
use Rattle.std.specs.List.{list_all, prefix_len}
use Rattle.std.proofs.lemmas.Bool.{and_parts, cond-true}
use Rattle.std.proofs.lemmas.List.{drop-drop, length-drop}
use Rattle.cvc_lex.specs.Skips.{SkipsTo}

module _ (test : ℕ → Bool) where
  pub skip_front : (n : ℕ) (bytes : List ℕ) → n ≤ length bytes → list_all test (take n bytes) ≡ true → n + prefix_len test (drop n bytes) ≡ prefix_len test bytes
  skip_front zero bytes le all = zero-add (prefix_len test bytes)
  skip_front (suc n) [] le all = absurd (omega (arith, le))
  skip_front (suc n) (x ∷ xs) le all =
      let parts = and_parts (test x) (list_all test (take n xs)) all in
      let rest = skip_front n xs (omega (arith, le)) parts.1 in
      let here = cond-true (test x) (1 + prefix_len test xs) 0 parts.0 in
      omega (arith, rest, here)

  -- the next n bytes pass too
  pub skip_block : (i n : ℕ) (passes : Bool) (bytes : List ℕ) → i + n ≤ length bytes → passes ≡ list_all test (take (i + n - i) (drop i bytes)) → passes ≡ true → SkipsTo test bytes i → SkipsTo test bytes (i + n)
  skip_block i n passes bytes le is holds so_far =
      let size : i + n - i ≡ n = omega arith in
      let all : list_all test (take n (drop i bytes)) ≡ true = ap (λ (k : ℕ). list_all test (take k (drop i bytes))) (sym size) ∙ sym is ∙ holds in
      let more = skip_front n (drop i bytes) (omega (arith, length-drop i bytes)) all in
      let at = ap (λ (u : List ℕ). prefix_len test u) (drop-drop n i bytes) in
      let whole = so_far.1 in
      (le, omega (arith, more, at, whole))
