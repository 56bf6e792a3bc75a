-- The ways to instances, row by row.
use Rattle.std.proofs.Common.{◌≡◌, ℕ, zero, suc, ◌+◌, ◌<◌, ◌≤◌, List, [], ◌∷◌, ◌++◌, length, get_or, refl, sym, ap, ◌∙◌, length-append, arith}
use Rattle.std.specs.Prelude.{All}
use Rattle.std.proofs.Math.Seq.{get_or-append_seam}
use Rattle.std.proofs.lemmas.List.{get_or_append_left}
use Rattle.std.proofs.lemmas.List.Elements.{All-append}
use Rattle.cvc_plan.proofs.Lists.{all_cons, all_head, all_one, all_tail}
use Rattle.cvc_flat.specs.declared.rows.InstanceRow.{InstanceRow}
use Rattle.cvc_flat.specs.Tables.{Way, no_row, way_at, way_in, ways_from, ways_of}

-- what is known stays in its place
pub known_stays : (known : List Way) (rows : List InstanceRow) (i : ℕ) → i < length known → way_at (ways_from known rows) i ≡ way_at known i
unfolding ways_from
known_stays known [] i h = refl
known_stays known (r ∷ rs) i h =
    known_stays (known ++ way_in known r ∷ []) rs i (omega (arith, length-append known (way_in known r ∷ []))) ∙ get_or_append_left known (way_in known r ∷ []) [] i h

pub length_ways : (known : List Way) (rows : List InstanceRow) → length (ways_from known rows) ≡ length known + length rows
unfolding ways_from
length_ways known [] = omega arith
length_ways known (r ∷ rs) = omega (arith, length_ways (known ++ way_in known r ∷ []) rs, length-append known (way_in known r ∷ []))

pub ways_append : (known : List Way) (xs ys : List InstanceRow) → ways_from known (xs ++ ys) ≡ ways_from (ways_from known xs) ys
unfolding ways_from
ways_append known [] ys = refl
ways_append known (x ∷ xs) ys = ways_append (known ++ way_in known x ∷ []) xs ys

step_from : (known : List Way) (rows : List InstanceRow) (i n : ℕ) → n ≡ length known + i → i < length rows → (get_or rows i no_row).parent < n
    → way_at (ways_from known rows) n ≡ way_in (ways_from known rows) (get_or rows i no_row)
unfolding ways_from
step_from known [] i n e h p = absurd (omega arith)
step_from known (r ∷ rs) zero n e h p =
    let more : List Way = known ++ way_in known r ∷ [] in
    let here : n ≡ length known = omega arith in
    let inside : n < length more = omega (arith, length-append known (way_in known r ∷ [])) in
    let above : r.parent < length known = omega arith in
    let later : r.parent < length more = omega (arith, length-append known (way_in known r ∷ [])) in
    known_stays more rs n inside
    ∙ ap (way_at more) here
    ∙ get_or-append_seam known (way_in known r) [] []
    ∙ ap (λ (w : Way). r.card ∷ w) (sym (known_stays more rs r.parent later ∙ get_or_append_left known (way_in known r ∷ []) [] r.parent above))
step_from known (r ∷ rs) (suc j) n e h p =
    step_from (known ++ way_in known r ∷ []) rs j n (omega (arith, length-append known (way_in known r ∷ []))) (omega arith) p

-- the way to an instance goes by its card, from its parent's way
pub way_step : (rows : List InstanceRow) (i : ℕ) → i < length rows → (get_or rows i no_row).parent ≤ i
    → way_at (ways_of rows) (i + 1) ≡ way_in (ways_of rows) (get_or rows i no_row)
unfolding ways_of
way_step rows i h p = step_from ([] ∷ []) rows i (i + 1) (omega arith) h (omega arith)

pub way_top : (rows : List InstanceRow) → way_at (ways_of rows) 0 ≡ []
unfolding ways_of
way_top rows = known_stays ([] ∷ []) rows 0 (omega arith)

-- ## What holds of each card on a way

all_at : (P : ℕ → Type 0) (ways : List Way) (i : ℕ) → All (λ (w : Way). All P w) ways → All P (way_at ways i)
all_at P [] i h = λ k d b. absurd (omega arith)
all_at P (w ∷ ws) zero h = h 0 w (omega arith)
all_at P (w ∷ ws) (suc i) h = all_at P ws i (all_tail (λ (v : Way). All P v) w ws h)

all_from : (P : ℕ → Type 0) (known : List Way) (rows : List InstanceRow) → All (λ (w : Way). All P w) known → All (λ (r : InstanceRow). P r.card) rows
    → All (λ (w : Way). All P w) (ways_from known rows)
unfolding ways_from
all_from P known [] h k = h
all_from P known (r ∷ rs) h k =
    let here : All P (way_in known r) = all_cons P r.card (way_at known r.parent) (all_head (λ (x : InstanceRow). P x.card) r rs k) (all_at P known r.parent h) in
    all_from P (known ++ way_in known r ∷ []) rs (All-append (λ (w : Way). All P w) known (way_in known r ∷ []) h (all_one (λ (w : Way). All P w) (way_in known r) here)) (all_tail (λ (x : InstanceRow). P x.card) r rs k)

pub all_ways : (P : ℕ → Type 0) (rows : List InstanceRow) → All (λ (r : InstanceRow). P r.card) rows → All (λ (w : Way). All P w) (ways_of rows)
unfolding ways_of
all_ways P rows h = all_from P ([] ∷ []) rows (all_one (λ (w : Way). All P w) [] (λ k d b. absurd (omega arith))) h

pub all_on_way : (P : ℕ → Type 0) (rows : List InstanceRow) (i : ℕ) → All (λ (r : InstanceRow). P r.card) rows → All P (way_at (ways_of rows) i)
all_on_way P rows i h = all_at P (ways_of rows) i (all_ways P rows h)
