-- Instances by their names, in tables where no two have the same.
use Rattle.std.proofs.Common.{◌≡◌, ℕ, zero, suc, ◌+◌, ◌-◌, ◌<◌, ◌≤◌, Bool, true, false, cond, List, [], ◌∷◌, length, map, drop, get_or, refl, sym, ap, ◌∙◌, arith}
use Rattle.std.specs.Prelude.{Some, None, find}
use Rattle.std.specs.Option.{option_map}
use Rattle.std.proofs.lemmas.List.{get_or-drop, get_or-map, length-drop, length-map}
use Rattle.cvc_cdl.specs.Instances.{same_names}
use Rattle.cvc_cdl.proofs.SameNames.{names_same, names_true}
use Rattle.cvc_plan.specs.declared.rows.InstancePart.{InstancePart}
use Rattle.cvc_plan.specs.Nets.{Path, names_of, net_of}
use Rattle.cvc_plan.specs.Parts.{link_at}
use Rattle.cvc_flat.specs.declared.rows.InstanceRow.{InstanceRow}
use Rattle.cvc_flat.specs.FindNet.{net_named, path_named}
use Rattle.cvc_flat.specs.Flat.{FlatList}
use Rattle.cvc_flat.specs.Resolving.{IsChild}
use Rattle.cvc_flat.specs.Tables.{IsTree, names_on, no_row, path_of, way_at, way_in, ways_of}
use Rattle.cvc_flat.proofs.Ways.{length_ways, way_step, way_top}

-- ## The first that passes

find_at_place : {A : Type 0} (p : A → Bool) (xs : List A) (k : ℕ) (d : A) → k < length xs → p (get_or xs k d) ≡ true → ((j : ℕ) → j < k → p (get_or xs j d) ≡ false) → find p xs ≡ Some (get_or xs k d)
find_at_place p [] k d h here before = absurd (omega arith)
find_at_place p (x ∷ xs) zero d h here before = ap (λ b. cond b (Some x) (find p xs)) here
find_at_place p (x ∷ xs) (suc k) d h here before =
    ap (λ b. cond b (Some x) (find p xs)) (before 0 (omega arith)) ∙ find_at_place p xs k d (omega arith) here (λ j b. before (suc j) (omega arith))

find_none : {A : Type 0} (p : A → Bool) (xs : List A) (d : A) → ((j : ℕ) → j < length xs → p (get_or xs j d) ≡ false) → find p xs ≡ None
find_none p [] d never = refl
find_none p (x ∷ xs) d never = ap (λ b. cond b (Some x) (find p xs)) (never 0 (omega arith)) ∙ find_none p xs d (λ j b. never (suc j) (omega arith))

-- the names on the way to a child
pub child_names : (names : List (List ℕ)) (parts : List InstancePart) (rows : List InstanceRow) → IsTree rows → (up i : ℕ) (name : List ℕ) → IsChild names parts rows up name i
    → names_on names parts (way_at (ways_of rows) i) ≡ name ∷ names_on names parts (way_at (ways_of rows) up)
child_names names parts rows tree up zero name child = absurd (omega (arith, child.above))
child_names names parts rows tree up (suc j) name child =
    let below : j < length rows = omega (arith, child.inside) in
    let one : suc j ≡ j + 1 = omega arith in
    let at : way_at (ways_of rows) (suc j) ≡ way_in (ways_of rows) (get_or rows j no_row) = ap (way_at (ways_of rows)) one ∙ way_step rows j below (tree.parents j below) in
    let row : suc j - 1 ≡ j = omega arith in
    let first : (link_at names parts (get_or rows j no_row).card).name ≡ name = ap (λ n. (link_at names parts (get_or rows n no_row).card).name) (sym row) ∙ child.named in
    let parent : (get_or rows j no_row).parent ≡ up = ap (λ n. (get_or rows n no_row).parent) (sym row) ∙ child.parent in
    ap (names_on names parts) at ∙ (λ k. first k ∷ names_on names parts (way_at (ways_of rows) (parent k)))

module _ (names : List (List ℕ)) (parts : List InstancePart) (rows : List InstanceRow) (tree : IsTree rows)
    (apart : (i j : ℕ) → i ≤ length rows → j ≤ length rows → names_on names parts (way_at (ways_of rows) i) ≡ names_on names parts (way_at (ways_of rows) j) → i ≡ j)
    (f : FlatList) (is : f.instances ≡ map (path_of names parts) (drop 1 (ways_of rows))) where
  abbrev on : ℕ → List (List ℕ)
  on i = names_on names parts (way_at (ways_of rows) i)

  abbrev path : ℕ → Path
  path i = path_of names parts (way_at (ways_of rows) i)

  count : length f.instances ≡ length rows
  unfolding ways_of
  count = omega (arith, ap length is, length-map (drop 1 (ways_of rows)) (path_of names parts), length-drop 1 (ways_of rows), length_ways ([] ∷ []) rows)

  instance_is : (j : ℕ) → j < length rows → get_or f.instances j [] ≡ path (1 + j)
  unfolding ways_of
  instance_is j h =
      ap (λ (l : List Path). get_or l j []) is
      ∙ get_or-map (path_of names parts) (drop 1 (ways_of rows)) j [] [] (omega (arith, length-drop 1 (ways_of rows), length_ways ([] ∷ []) rows))
      ∙ ap (path_of names parts) (get_or-drop 1 (ways_of rows) j [])

  no_false : (b : Bool) → (b ≡ true → ⊥) → b ≡ false
  no_false true h = absurd (h refl)
  no_false false h = refl

  -- an instance is found by its names
  pub named_here : (i : ℕ) → i ≤ length rows → path_named f (on i) ≡ Some (path i)
  named_here zero h = ap (λ w. path_named f (names_on names parts w)) (way_top rows) ∙ ap (λ w. Some (path_of names parts w)) (sym (way_top rows))
  named_here (suc j) h =
      let step : way_at (ways_of rows) (j + 1) ≡ way_in (ways_of rows) (get_or rows j no_row) = way_step rows j (omega arith) (tree.parents j (omega arith)) in
      let one : suc j ≡ j + 1 = omega arith in
      let more : 1 + j ≡ suc j = omega arith in
      let at : way_at (ways_of rows) (suc j) ≡ way_in (ways_of rows) (get_or rows j no_row) = ap (way_at (ways_of rows)) one ∙ step in
      let same : (k : ℕ) → k < length rows → same_names (on (suc j)) (names_of (get_or f.instances k [])) ≡ true → j ≡ k =
      λ k b e. let q : suc j ≡ 1 + k = apart (suc j) (1 + k) h (omega arith) (names_true (on (suc j)) (names_of (get_or f.instances k [])) e ∙ ap names_of (instance_is k b)) in omega arith in
      let found : find (λ (p : Path). same_names (on (suc j)) (names_of p)) f.instances ≡ Some (get_or f.instances j []) =
      find_at_place (λ (p : Path). same_names (on (suc j)) (names_of p)) f.instances j [] (omega (arith, count))
      (ap (λ p. same_names (on (suc j)) (names_of p)) (instance_is j (omega arith) ∙ ap path more) ∙ names_same (on (suc j)))
      (λ k b. no_false (same_names (on (suc j)) (names_of (get_or f.instances k []))) (λ e. let q : j ≡ k = same k (omega arith) e in omega arith)) in
      let shape : path_named f (on (suc j)) ≡ find (λ (p : Path). same_names (on (suc j)) (names_of p)) f.instances =
      ap (λ w. path_named f (names_on names parts w)) at ∙ ap (λ w. find (λ (p : Path). same_names (names_on names parts w) (names_of p)) f.instances) (sym at) in
      shape ∙ found ∙ ap Some (instance_is j (omega arith) ∙ ap path more)

  -- names that no instance has
  abbrev pub NoneHas : List (List ℕ) → Type 0
  NoneHas ns = (i : ℕ) → i ≤ length rows → on i ≡ ns → ⊥

  unnamed : (own : List ℕ) (up : List (List ℕ)) → NoneHas (own ∷ up) → path_named f (own ∷ up) ≡ None
  unnamed own up none =
      find_none (λ (p : Path). same_names (own ∷ up) (names_of p)) f.instances []
      (λ k b. no_false (same_names (own ∷ up) (names_of (get_or f.instances k [])))
      (λ e. none (1 + k) (omega (arith, count)) (sym (names_true (own ∷ up) (names_of (get_or f.instances k [])) e ∙ ap names_of (instance_is k (omega (arith, count)))))))

  head_of : List ℕ → List (List ℕ) → List ℕ
  head_of d [] = d
  head_of d (x ∷ xs) = x

  tail_of : List (List ℕ) → List (List ℕ)
  tail_of [] = []
  tail_of (x ∷ xs) = xs

  deeper : (name own : List ℕ) (up : List (List ℕ)) → NoneHas (own ∷ up) → NoneHas (name ∷ own ∷ up)
  unfolding tail_of
  deeper name own up none zero h e =
      let q : [] ≡ name ∷ own ∷ up = ap (names_on names parts) (sym (way_top rows)) ∙ e in cc
  deeper name own up none (suc j) h e =
      let one : suc j ≡ j + 1 = omega arith in
      let at : way_at (ways_of rows) (suc j) ≡ way_in (ways_of rows) (get_or rows j no_row) = ap (way_at (ways_of rows)) one ∙ way_step rows j (omega arith) (tree.parents j (omega arith)) in
      none (get_or rows j no_row).parent (omega (arith, tree.parents j (omega arith))) (ap tail_of (ap (names_on names parts) (sym at) ∙ e))

  -- no net is named behind such names
  pub nothing_behind : (own : List ℕ) (up pieces : List (List ℕ)) → NoneHas (own ∷ up) → net_named f (own ∷ up) pieces ≡ None
  unfolding net_named
  nothing_behind own up [] none = refl
  nothing_behind own up (name ∷ []) none = ap (option_map (λ p. net_of f.globals p name)) (unnamed own up none)
  nothing_behind own up (name ∷ more ∷ rest) none = nothing_behind name (own ∷ up) (more ∷ rest) (deeper name own up none)

  pub no_child : (up : ℕ) (name : List ℕ) → up ≤ length rows → ((i : ℕ) → IsChild names parts rows up name i → ⊥) → NoneHas (name ∷ on up)
  unfolding tail_of head_of
  no_child up name h none zero b e =
      let q : [] ≡ name ∷ on up = ap (names_on names parts) (sym (way_top rows)) ∙ e in cc
  no_child up name h none (suc j) b e =
      let one : suc j ≡ j + 1 = omega arith in
      let at : way_at (ways_of rows) (suc j) ≡ way_in (ways_of rows) (get_or rows j no_row) = ap (way_at (ways_of rows)) one ∙ way_step rows j (omega arith) (tree.parents j (omega arith)) in
      let whole : names_on names parts (way_in (ways_of rows) (get_or rows j no_row)) ≡ name ∷ on up = ap (names_on names parts) (sym at) ∙ e in
      let row : suc j - 1 ≡ j = omega arith in
      none (suc j) record {
        above = omega arith;
        inside = b;
        parent = ap (λ n. (get_or rows n no_row).parent) row ∙ apart (get_or rows j no_row).parent up (omega (arith, tree.parents j (omega arith))) h (ap tail_of whole);
        named = ap (λ n. (link_at names parts (get_or rows n no_row).card).name) row ∙ ap (head_of name) whole;
      }
