-- Rows that get the lines of their places, one by one.
use Rattle.std.proofs.Common.{◌≡◌, ℕ, zero, suc, ◌+◌, ◌<◌, ◌≤◌, List, [], ◌∷◌, ◌++◌, length, take, drop, get_or, refl, sym, ap, ◌∙◌, arith}
use Rattle.std.specs.Prelude.{slice_set}
use Rattle.std.proofs.lemmas.List.{append-nil, drop_all, take_all}
use Rattle.cvc_power.specs.declared.row.PowerRow.{PowerRow}
use Rattle.cvc_delta.specs.Edits.{numbered, numbered_from}

-- the first ones have theirs
abbrev mixed : ℕ → ℕ → List PowerRow → List PowerRow
mixed first i rows = take i (numbered_from first rows) ++ drop i rows

pub number_step : (first i line : ℕ) (rows : List PowerRow) (a d : PowerRow) → i < length rows → line ≡ first + i
    → slice_set (slice_set (mixed first i rows) i a) i (record (get_or (mixed first i rows) i d) { line = line }) ≡ mixed first (suc i) rows
unfolding numbered_from
number_step first i line [] a d below e = absurd (omega arith)
number_step first zero line (row ∷ rows) a d below e = let same : line ≡ first = omega arith in ap (λ n. record row { line = n } ∷ rows) same
number_step first (suc i) line (row ∷ rows) a d below e = ap (λ xs. record row { line = first } ∷ xs) (number_step (suc first) i line rows a d (omega arith) (omega arith))

pub length_numbered : (first : ℕ) (rows : List PowerRow) → length (numbered_from first rows) ≡ length rows
unfolding numbered_from
length_numbered first [] = refl
length_numbered first (row ∷ rows) = ap suc (length_numbered (suc first) rows)

pub all_numbered : (i : ℕ) (rows : List PowerRow) → length rows ≤ i → take i (numbered rows) ++ drop i rows ≡ numbered rows
all_numbered i rows done =
    let long : length (numbered rows) ≤ i = omega (arith, length_numbered 1 rows) in
    (λ j. take_all i (numbered rows) long j ++ drop_all i rows done j) ∙ append-nil (numbered rows)

pub numbered_more : (all now one next : List PowerRow) (i line : ℕ) (a row : PowerRow) → i < length all → now ≡ take i (numbered all) ++ drop i all
    → one ≡ slice_set now i a → row ≡ get_or now i row → line ≡ i + 1 → next ≡ slice_set one i (record row { line = line }) → next ≡ take (i + 1) (numbered all) ++ drop (i + 1) all
numbered_more all now one next i line a row below are put was at then =
    let own : row ≡ get_or (mixed 1 i all) i row = was ∙ ap (λ xs. get_or xs i row) are in
    then ∙ (λ j. slice_set ((put ∙ ap (λ xs. slice_set xs i a) are) j) i (record (own j) { line = line }))
    ∙ number_step 1 i line all a row below (omega arith)
    ∙ ap (λ n. mixed 1 n all) (let e : suc i ≡ i + 1 = omega arith in e)
