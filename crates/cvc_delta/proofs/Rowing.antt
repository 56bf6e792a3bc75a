-- What edits do to rows that stand at the lines of their places, no two of which have one name.
use Rattle.std.proofs.Common.{◌≡◌, ℕ, zero, suc, ◌+◌, ◌<◌, ◌≤◌, ◌||◌, not, Bool, true, false, cond, List, [], ◌∷◌, ◌++◌, length, map, take, drop, get_or, All, Option, Some, None, Result, Ok, Err, refl, sym, ap, subst, ◌∙◌, arith, length-append}
use Rattle.std.specs.Prelude.{ℤ, pos, ◌≤ℤ◌, ◌^◌, slice_set, if◌then◌else◌}
use Rattle.std.specs.Bool.{OnFalse, OnTrue}
use Rattle.std.specs.List.{filter, list_any, remove}
use Rattle.std.specs.Str.{bytes_eq}
use Rattle.std.specs.Cmp.Lexicographic.{bytes_decides}
use Rattle.std.proofs.lemmas.Int.{ints}
use Rattle.std.proofs.lemmas.List.{get_or-map, length-map, length-set}
use Rattle.std.proofs.lemmas.List.Elements.{All-append, All-cons, All-filter, All-head, All-nil, All-set, All-tail}
use Rattle.std.proofs.lemmas.List.Quantifiers.{position-Some}
use Rattle.cvc_names.specs.Names.{has_twice, is_among, name_at, place_of, with_name}
use Rattle.cvc_names.proofs.Repeats.{has_twice-push}
use Rattle.cvc_power.specs.declared.row.PowerRow.{PowerRow}
use Rattle.cvc_power.specs.Power.{IsOrdered, name_of, row_with}
use Rattle.cvc_delta.specs.Edits.{AreApart, has_other_name, has_row, names_of, numbered, numbered_from, set_at, set_row, unset_row}
use Rattle.cvc_delta.specs.Rows.{ArePlacedFrom, AreRows, AreWiderRows, IsWiderRow}
use Rattle.cvc_delta.proofs.Editing.{name_in_place, names_numbered, names_set}
use Rattle.cvc_delta.proofs.Numbering.{length_numbered}

neither : (a b : Bool) → (a || b) ≡ false → (a ≡ false) × (b ≡ false)
neither true b e = cc
neither false b e = (refl, e)

-- ## A row that is taken out is the one of its name

none_named : (name : List ℕ) (rows : List PowerRow) → list_any (bytes_eq name) (names_of rows) ≡ false → filter (has_other_name name) rows ≡ rows
none_named name [] none = refl
none_named name (row ∷ rows) none =
    let both = neither (bytes_eq name row.name) (list_any (bytes_eq name) (names_of rows)) none in
    ap (λ b. cond (not b) (row ∷ filter (has_other_name name) rows) (filter (has_other_name name) rows)) both.0 ∙ ap (λ xs. row ∷ xs) (none_named name rows both.1)

one_gone : (name : List ℕ) (rows : List PowerRow) (k : ℕ) (d : PowerRow) → k < length rows → bytes_eq name (get_or rows k d).name ≡ true → ((j : ℕ) → j < k → bytes_eq name (get_or rows j d).name ≡ false)
    → AreApart rows → remove rows k ≡ filter (has_other_name name) rows
one_gone name [] k d below at before apart = absurd (omega arith)
one_gone name (row ∷ rows) zero d below at before apart =
    let once = neither (list_any (bytes_eq row.name) (names_of rows)) (has_twice (names_of rows)) apart in
    let none : list_any (bytes_eq name) (names_of rows) ≡ false = ap (λ text. list_any (bytes_eq text) (names_of rows)) ((bytes_decides name row.name).0 at) ∙ once.0 in
    sym (ap (λ b. cond (not b) (row ∷ filter (has_other_name name) rows) (filter (has_other_name name) rows)) at ∙ none_named name rows none)
one_gone name (row ∷ rows) (suc k) d below at before apart =
    let once = neither (list_any (bytes_eq row.name) (names_of rows)) (has_twice (names_of rows)) apart in
    let later = one_gone name rows k d (omega arith) at (λ j less. before (suc j) (omega arith)) once.1 in
    ap (λ xs. row ∷ xs) later ∙ sym (ap (λ b. cond (not b) (row ∷ filter (has_other_name name) rows) (filter (has_other_name name) rows)) (before 0 (omega arith)))

pub place_inside : (rows : List PowerRow) (name : List ℕ) (k : ℕ) → place_of (names_of rows) name ≡ Some k → k < length rows
place_inside rows name k is = let below = (position-Some (bytes_eq name) (names_of rows) k [] is).0 in omega (arith, below, length-map rows name_of)

pub removed_is_filtered : (rows : List PowerRow) (name : List ℕ) (k : ℕ) → AreApart rows → place_of (names_of rows) name ≡ Some k → remove rows k ≡ filter (has_other_name name) rows
removed_is_filtered rows name k apart is =
    let inside = place_inside rows name k is in
    let found = position-Some (bytes_eq name) (names_of rows) k [] is in
    one_gone name rows k no_row inside (sym (ap (bytes_eq name) (get_or-map name_of rows k no_row [] inside)) ∙ found.1)
    (λ j less. sym (ap (bytes_eq name) (get_or-map name_of rows j no_row [] (omega (arith, less, inside)))) ∙ found.2 j less) apart
  where
    no_row : PowerRow
    no_row = row_with 0 [] (record { low = pos 0; high = pos 0 })

-- ## What holds of the rows holds behind an edit

placed_set : (first k : ℕ) (rows : List PowerRow) (row : PowerRow) → row.line ≡ first + k → ArePlacedFrom first rows → ArePlacedFrom first (slice_set rows k row)
placed_set first k [] row at placed = tt
placed_set first zero (r ∷ rows) row at placed = (let same : row.line ≡ first = omega arith in same, placed.1)
placed_set first (suc k) (r ∷ rows) row at placed = (placed.0, placed_set (suc first) k rows row (omega arith) placed.1)

placed_push : (first : ℕ) (rows : List PowerRow) (row : PowerRow) → row.line ≡ first + length rows → ArePlacedFrom first rows → ArePlacedFrom first (rows ++ row ∷ [])
placed_push first [] row at placed = (let same : row.line ≡ first = omega arith in same, tt)
placed_push first (r ∷ rows) row at placed = (placed.0, placed_push (suc first) rows row (omega arith) placed.1)

placed_numbered : (first : ℕ) (rows : List PowerRow) → ArePlacedFrom first (numbered_from first rows)
unfolding numbered_from
placed_numbered first [] = tt
placed_numbered first (row ∷ rows) = (refl, placed_numbered (suc first) rows)

ordered_numbered : (first : ℕ) (rows : List PowerRow) → All IsOrdered rows → All IsOrdered (numbered_from first rows)
unfolding numbered_from
ordered_numbered first [] ordered = All-nil IsOrdered
ordered_numbered first (row ∷ rows) ordered =
    All-cons IsOrdered (record row { line = first }) (numbered_from (suc first) rows) (All-head IsOrdered row rows ordered) (ordered_numbered (suc first) rows (All-tail IsOrdered row rows ordered))

all_placed : (first : ℕ) (rows : List PowerRow) → ArePlacedFrom first rows → numbered_from first rows ≡ rows
unfolding numbered_from
all_placed first [] placed = refl
all_placed first (row ∷ rows) placed = λ i. record row { line = sym placed.0 i } ∷ all_placed (suc first) rows placed.1 i

-- an unset of a name that no row has leaves the rows as they are
pub unset_none : (rows next : List PowerRow) (name : List ℕ) (there : Bool) → AreRows rows → there ≡ has_row rows name → there ≡ false → OnFalse there (next ≡ rows) → next ≡ unset_row rows name
unset_none rows next name false are is e same = same ∙ sym (ap numbered (none_named name rows (sym is)) ∙ all_placed 1 rows are.placed)
unset_none rows next name true are is e same = cc

still_none : (text : List ℕ) (test : PowerRow → Bool) (rows : List PowerRow) → list_any (bytes_eq text) (names_of rows) ≡ false → list_any (bytes_eq text) (names_of (filter test rows)) ≡ false
still_none text test [] none = refl
still_none text test (row ∷ rows) none =
    let both = neither (bytes_eq text row.name) (list_any (bytes_eq text) (names_of rows)) none in
    by (test row) both.0 (still_none text test rows both.1)
  where
    by : (b : Bool) → bytes_eq text row.name ≡ false → list_any (bytes_eq text) (names_of (filter test rows)) ≡ false
        → list_any (bytes_eq text) (names_of (cond b (row ∷ filter test rows) (filter test rows))) ≡ false
    by true own later = ap (λ b. b || list_any (bytes_eq text) (names_of (filter test rows))) own ∙ later
    by false own later = later

still_apart : (test : PowerRow → Bool) (rows : List PowerRow) → AreApart rows → AreApart (filter test rows)
still_apart test [] apart = refl
still_apart test (row ∷ rows) apart =
    let once = neither (list_any (bytes_eq row.name) (names_of rows)) (has_twice (names_of rows)) apart in
    by (test row) (still_none row.name test rows once.0) (still_apart test rows once.1)
  where
    by : (b : Bool) → list_any (bytes_eq row.name) (names_of (filter test rows)) ≡ false → AreApart (filter test rows) → AreApart (cond b (row ∷ filter test rows) (filter test rows))
    by true none later = ap (λ b. b || has_twice (names_of (filter test rows))) none ∙ later
    by false none later = later

apart_with : (names : List (List ℕ)) (name : List ℕ) → has_twice names ≡ false → has_twice (with_name names name) ≡ false
apart_with names name apart = by (is_among names name) refl
  where
    by : (b : Bool) → is_among names name ≡ b → has_twice (if b then names else names ++ name ∷ []) ≡ false
    by true e = apart
    by false e = has_twice-push names name ∙ (λ i. apart i || e i)

pub rows_numbered : (rows : List PowerRow) → All IsOrdered rows → AreApart rows → length rows < 2 ^ 32 → AreRows (numbered rows)
rows_numbered rows ordered apart few = record {
  ordered = ordered_numbered 1 rows ordered;
  apart = ap has_twice (names_numbered 1 rows) ∙ apart;
  placed = placed_numbered 1 rows;
  few = omega (arith, few, length_numbered 1 rows);
}

fewer : (test : PowerRow → Bool) (rows : List PowerRow) → length (filter test rows) ≤ length rows
fewer test [] = omega arith
fewer test (row ∷ rows) = by (test row) (fewer test rows)
  where
    by : (b : Bool) → length (filter test rows) ≤ length rows → length (cond b (row ∷ filter test rows) (filter test rows)) ≤ length (row ∷ rows)
    by true later = omega (arith, later)
    by false later = omega (arith, later)

pub rows_unset : (rows : List PowerRow) (name : List ℕ) → AreRows rows → AreRows (unset_row rows name)
rows_unset rows name are =
    rows_numbered (filter (has_other_name name) rows) (All-filter (has_other_name name) IsOrdered rows are.ordered) (still_apart (has_other_name name) rows are.apart)
    (omega (arith, fewer (has_other_name name) rows, are.few))

pub rows_set : (rows : List PowerRow) (name : List ℕ) (low high : ℤ) → AreRows rows → low ≤ℤ high → length (set_row rows name low high) < 2 ^ 32 → AreRows (set_row rows name low high)
rows_set rows name low high are fits few = record {
  ordered = ordered (place_of (names_of rows) name);
  apart = ap has_twice (names_set rows name low high) ∙ apart_with (names_of rows) name are.apart;
  placed = placed (place_of (names_of rows) name);
  few = few;
}
  where
    new : ℕ → PowerRow
    new line = row_with line name (record { low = low; high = high })

    ordered : (o : Option ℕ) → All IsOrdered (set_at rows name low high o)
    ordered (Some k) = All-set IsOrdered rows k (new (k + 1)) fits are.ordered
    ordered None = All-append IsOrdered rows (new (length rows + 1) ∷ []) are.ordered (All-cons IsOrdered (new (length rows + 1)) [] fits (All-nil IsOrdered))

    placed : (o : Option ℕ) → ArePlacedFrom 1 (set_at rows name low high o)
    placed (Some k) = placed_set 1 k rows (new (k + 1)) (omega arith) are.placed
    placed None = placed_push 1 rows (new (length rows + 1)) (omega arith) are.placed

-- ## Wider rows

wider_same : (rows : List PowerRow) → AreWiderRows rows rows
wider_same [] = tt
wider_same (row ∷ rows) = (record { name = refl; low = omega (arith, ints); high = omega (arith, ints) }, wider_same rows)

pub wider_set : (rows : List PowerRow) (k : ℕ) (row d : PowerRow) → k < length rows → IsWiderRow (get_or rows k d) row → AreWiderRows rows (slice_set rows k row)
wider_set [] k row d below wider = absurd (omega arith)
wider_set (r ∷ rows) zero row d below wider = (wider, wider_same rows)
wider_set (r ∷ rows) (suc k) row d below wider = (record { name = refl; low = omega (arith, ints); high = omega (arith, ints) }, wider_set rows k row d (omega arith) wider)

-- a row that is put in the place of the one of its name
pub widened_rows : (rows next : List PowerRow) (k : ℕ) (row before : PowerRow) (b : Bool) → k < length rows → next ≡ slice_set rows k row → before ≡ get_or rows k before → before.name ≡ row.name
    → OnTrue b (row.low ≤ℤ before.low) → OnTrue b (before.high ≤ℤ row.high) → OnTrue b (AreWiderRows rows next)
widened_rows rows next k row before true below put was same low high =
    let wider : IsWiderRow before row = record { name = same; low = low; high = high } in
    subst (AreWiderRows rows) (sym put) (wider_set rows k row before below (subst (λ r. IsWiderRow r row) was wider))
widened_rows rows next k row before false below put was same low high = tt

-- ## By what the rows are behind an edit

pub are_numbered : (rows next : List PowerRow) → next ≡ numbered rows → All IsOrdered rows → AreApart rows → length rows < 2 ^ 32 → AreRows next
are_numbered rows next is ordered apart few = subst AreRows (sym is) (rows_numbered rows ordered apart few)

pub are_unset : (rows next : List PowerRow) (name : List ℕ) → next ≡ unset_row rows name → AreRows rows → AreRows next
are_unset rows next name is are = subst AreRows (sym is) (rows_unset rows name are)

pub are_set : (rows next : List PowerRow) (name : List ℕ) (low high : ℤ) → next ≡ set_row rows name low high → AreRows rows → low ≤ℤ high → length next < 2 ^ 32 → AreRows next
are_set rows next name low high is are fits few = subst AreRows (sym is) (rows_set rows name low high are fits (subst (λ xs. length xs < 2 ^ 32) is few))
