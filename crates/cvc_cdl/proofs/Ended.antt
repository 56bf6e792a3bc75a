-- The faults of a draft's end are those of its cards, and an accepted netlist has none.
use Rattle.std.proofs.Common.{◌≡◌, ℕ, zero, suc, ◌-◌, ◌<◌, Bool, true, false, cond, List, [], ◌∷◌, ◌++◌, length, map, take, drop, get_or, Option, Some, None, if◌then◌else◌, refl, sym, ap, subst, ◌∙◌, arith}
use Rattle.std.specs.Prelude.{slice_get}
use Rattle.std.specs.Option.{option_map}
use Rattle.std.specs.List.{cons_option, filter_map, find}
use Rattle.std.specs.Str.{bytes_eq}
use Rattle.std.proofs.lemmas.List.{length-map, take-append-drop}
use Rattle.std.proofs.lemmas.Slice.Eq.{bytes_eq-Decides}
use Rattle.cvc_base.specs.declared.cause.Cause.TheVariants.{OpenSubckt, Recursive}
use Rattle.cvc_base.specs.declared.fault.Fault.{Fault}
use Rattle.cvc_card.specs.declared.card.CellCard.{CellCard}
use Rattle.cvc_card.specs.declared.card.InstCard.{InstCard}
use Rattle.cvc_card.specs.Card.{has_twice}
use Rattle.cvc_card.specs.Parts.{last_of}
use Rattle.cvc_cdl.specs.declared.netlist.Cell.{Cell}
use Rattle.cvc_cdl.specs.declared.netlist.Item.{Item}
use Rattle.cvc_cdl.specs.declared.netlist.Item.TheVariants as items
use Rattle.cvc_cdl.specs.Levels.{Entry, Level, cell_cards, items_at}
use Rattle.cvc_cdl.specs.Netlist.{cell_of, cells_of, name_of_cell}
use Rattle.cvc_cdl.specs.Building.{fault_at, first_fault, or_else}
use Rattle.cvc_cdl.specs.Builder.{draft_of, places_behind}
use Rattle.cvc_cdl.specs.Chains.{AreUses, name_at, used_at}
use Rattle.cvc_cdl.specs.Ending.{cell_cause, cells_fault, ending_fault, endless_fault, first_instance_fault, instance_cause, instances, is_endless, open_fault, open_fault_at, top_fault, used_by, used_in}
use Rattle.cvc_cdl.specs.Finishing.{all_uses_in, cells_fault_in, draft_fault, endless_at, endless_fault_in, file_items, instances_in, names_endless, open_in, place_at, place_used, places_after, uses_in}
use Rattle.cvc_cdl.specs.Lookup.{place_of}
use Rattle.cvc_cdl.proofs.Chains.{is_endless-at}
use Rattle.cvc_cdl.proofs.Drafted.{cell_names_are}
use Rattle.cvc_cdl.proofs.Endings.{inners, instances_in-append, named-none, uses_below}
use Rattle.cvc_cdl.proofs.Kept.{kept}
use Rattle.cvc_cdl.proofs.Ordered.{in_order}
use Rattle.cvc_cdl.proofs.Placing.{here}

-- ## What holds of each instance

module _ (P : InstCard → Type 0) where
  abbrev pub AllInst : List InstCard → Type 0
  AllInst [] = Unit {0}
  AllInst (x ∷ xs) = P x × AllInst xs

  abbrev pub AllInner : List (List Item) → Type 0
  AllInner [] = Unit {0}
  AllInner (is ∷ rest) = AllInst (instances_in is) × AllInner rest

  inst_split : (xs ys : List InstCard) → AllInst (xs ++ ys) → AllInst xs × AllInst ys
  inst_split [] ys h = (tt, h)
  inst_split (x ∷ xs) ys h = let both = inst_split xs ys h.1 in ((h.0, both.0), both.1)

  inst_join : (xs ys : List InstCard) → AllInst xs → AllInst ys → AllInst (xs ++ ys)
  inst_join [] ys h k = k
  inst_join (x ∷ xs) ys h k = (h.0, inst_join xs ys h.1 k)

  items_split : (a b : List Item) → AllInst (instances_in (a ++ b)) → AllInst (instances_in a) × AllInst (instances_in b)
  items_split a b h = inst_split (instances_in a) (instances_in b) (subst AllInst (instances_in-append a b) h)

  -- on the main level, and in each cell
  pub file_split : (from : ℕ) (rest : List Item) (xs : List (List Item)) (ps : List ℕ) → AllInst (instances_in (file_items from rest xs ps)) → AllInst (instances_in rest) × AllInner xs
  unfolding file_items
  file_split from rest [] ps h = (h, tt)
  file_split from rest (x ∷ xs) ps h =
      let n = place_at from ps - from in
      let p = place_at from ps in
      let both = items_split (take n rest ++ x) (file_items p (drop n rest) xs (places_after ps)) h in
      let front = items_split (take n rest) x both.0 in
      let back = file_split p (drop n rest) xs (places_after ps) both.1 in (
        subst (λ is. AllInst (instances_in is)) (take-append-drop n rest)
            (subst AllInst (sym (instances_in-append (take n rest) (drop n rest))) (inst_join (instances_in (take n rest)) (instances_in (drop n rest)) front.0 back.0)),
        (front.1, back.1),
      )

-- ## Instances that fit their cells

abbrev pub FitsCell : List Cell → InstCard → Type 0
FitsCell cells x = instance_cause cells x ≡ None

pub or_none : {A : Type 0} (a b : Option A) → or_else a b ≡ None → (a ≡ None) × (b ≡ None)
or_none None b h = (refl, h)
or_none (Some x) b h = absurd cc

pub map_none : {A B : Type 0} (f : A → B) (o : Option A) → option_map f o ≡ None → o ≡ None
map_none f None h = refl
map_none f (Some x) h = absurd cc

pub all_fit : (cells : List Cell) (xs : List InstCard) → first_instance_fault cells xs ≡ None → AllInst (FitsCell cells) xs
unfolding first_instance_fault
all_fit cells [] h = tt
all_fit cells (x ∷ xs) h =
    let both = or_none (option_map (fault_at x.line) (instance_cause cells x)) (first_instance_fault cells xs) h in
    (map_none (fault_at x.line) (instance_cause cells x) both.0, all_fit cells xs both.1)

-- the place of a cell that an instance fits
record HasPlace (cells : List Cell) (name : List ℕ) : Type 0 where
  place : ℕ
  at : place_of (map name_of_cell cells) name ≡ Some place
  named : name_at cells place ≡ name
  below : place < length cells

place_named : (ns : List (List ℕ)) (name : List ℕ) (i : ℕ) → place_of ns name ≡ Some i → (get_or ns i [] ≡ name) × (i < length ns)
unfolding place_of
place_named [] name i e = absurd cc
place_named (n ∷ ns) name i e = by (bytes_eq name n) refl (place_of ns name) (λ k f. place_named ns name k f) i e
  where
    by : (b : Bool) → bytes_eq name n ≡ b → (o : Option ℕ) → ((k : ℕ) → o ≡ Some k → (get_or ns k [] ≡ name) × (k < length ns)) → (i : ℕ) → (if b then Some 0 else option_map suc o) ≡ Some i
        → (get_or (n ∷ ns) i [] ≡ name) × (i < suc (length ns))
    by true same o h zero e = (sym ((bytes_eq-Decides name n).0 same), omega arith)
    by true same o h (suc i) e = absurd cc
    by false same None h i e = absurd cc
    by false same (Some k) h zero e = absurd cc
    by false same (Some k) h (suc i) e = let z : k ≡ i = cc in let r = h k refl in (ap (λ j. get_or ns j []) (sym z) ∙ r.0, omega (arith, r.1))

has_place : (cells : List Cell) (x : InstCard) → FitsCell cells x → HasPlace cells x.cell
has_place cells x fits = by (place_of (map name_of_cell cells) x.cell) refl
  where
    by : (o : Option ℕ) → place_of (map name_of_cell cells) x.cell ≡ o → HasPlace cells x.cell
    by None e = absurd (let f : Some _ ≡ None = sym (ap (λ o. cell_cause o x.ports) (named-none cells x.cell (sym e))) ∙ fits in cc)
    by (Some i) e = let r = place_named (map name_of_cell cells) x.cell i e in record { place = i; at = e; named = r.0; below = omega (arith, r.1, length-map cells name_of_cell) }

-- ## Uses

module _ (cells : List Cell) where
  abbrev names : List (List ℕ)
  names = map name_of_cell cells

  uses_named : (is : List Item) → AllInst (FitsCell cells) (instances_in is) → map (name_at cells) (filter_map (place_used names) is) ≡ filter_map used_in is
  uses_named [] h = refl
  uses_named (items.Device d ∷ is) h = uses_named is h
  uses_named (items.Inst x ∷ is) h =
      let p = has_place cells x h.0 in
      ap (λ o. map (name_at cells) (cons_option o (filter_map (place_used names) is))) p.at ∙ (λ i. p.named i ∷ uses_named is h.1 i)

  each_use : (cs : List Cell) → AllInner (FitsCell cells) (inners cs) → (i : ℕ) → map (name_at cells) (used_at (map (uses_in names) cs) i) ≡ used_by (slice_get cs i)
  each_use [] h zero = refl
  each_use [] h (suc i) = refl
  each_use (c ∷ cs) h zero = uses_named c.items h.0
  each_use (c ∷ cs) h (suc i) = each_use cs h.1 i

  are_uses : AllInner (FitsCell cells) (inners cells) → AreUses cells (all_uses_in cells)
  are_uses h = record { sized = length-map cells (uses_in names); below = uses_below cells; named = each_use cells h }

  module _ (once : has_twice (map name_of_cell cells) ≡ false) (inner : AllInner (FitsCell cells) (inners cells)) where
    endless_same : (x : InstCard) → FitsCell cells x → names_endless cells x ≡ is_endless cells x.cell
    endless_same x fits =
        let p = has_place cells x fits in
        ap (endless_at cells) p.at ∙ sym (is_endless-at cells (all_uses_in cells) once (are_uses inner) p.place p.below) ∙ ap (is_endless cells) p.named

    find_same : (xs : List InstCard) → AllInst (FitsCell cells) xs → find (names_endless cells) xs ≡ find (λ (x : InstCard). is_endless cells x.cell) xs
    find_same [] h = refl
    find_same (x ∷ xs) h = λ i. cond (endless_same x h.0 i) (Some x) (find_same xs h.1 i)

    pub endless_fault_same : (xs : List InstCard) → AllInst (FitsCell cells) xs → endless_fault_in cells xs ≡ endless_fault cells xs
    endless_fault_same xs h = ap (option_map (λ (x : InstCard). fault_at x.line Recursive)) (find_same xs h)

-- ## The faults of the end

module _ (es : List Entry) (faultless : first_fault [] es ≡ None) where
  abbrev pub cells : List Cell
  cells = cells_of es

  pub cells_once : has_twice (map name_of_cell cells) ≡ false
  cells_once = ap has_twice (cell_names_are es) ∙ (kept es faultless).once

  pub all_split : (P : InstCard → Type 0) → AllInst P (instances es) → AllInst P (instances_in (items_at None es)) × AllInner P (inners cells)
  all_split P h = file_split P 0 (items_at None es) (inners cells) (places_behind [] es) (subst (AllInst P) (sym (in_order es faultless)) h)

  cells_fault_same : (top : Option (List ℕ)) → cells_fault_in cells (instances es) top ≡ cells_fault cells (instances es) top
  cells_fault_same top = by (first_instance_fault cells (instances es)) refl
    where
      by : (o : Option Fault) → first_instance_fault cells (instances es) ≡ o
          → or_else o (or_else (endless_fault_in cells (instances es)) (top_fault cells top)) ≡ or_else o (or_else (endless_fault cells (instances es)) (top_fault cells top))
      by (Some fault) e = refl
      by None e =
          let fit = all_fit cells (instances es) e in
          ap (λ o. or_else o (top_fault cells top)) (endless_fault_same cells cells_once (all_split (FitsCell cells) fit).1 (instances es) fit)

  open_same : (l : Level) → open_in l cells ≡ open_fault_at l (cell_cards es)
  unfolding cells_of
  open_same None = refl
  open_same (Some name) = ap (option_map (λ (c : Cell). fault_at c.line OpenSubckt)) (last_of-map (cell_cards es)) ∙ by (last_of (cell_cards es))
    where
      last_of-map : (cs : List CellCard) → last_of (map (cell_of es) cs) ≡ option_map (cell_of es) (last_of cs)
      last_of-map [] = refl
      last_of-map (c ∷ []) = refl
      last_of-map (c ∷ d ∷ cs) = last_of-map (d ∷ cs)

      by : (o : Option CellCard) → option_map (λ (c : Cell). fault_at c.line OpenSubckt) (option_map (cell_of es) o) ≡ option_map (λ (c : CellCard). fault_at c.line OpenSubckt) o
      by None = refl
      by (Some c) = refl

  pub ending_same : (top : Option (List ℕ)) → draft_fault (draft_of es) top ≡ ending_fault es top
  unfolding draft_fault ending_fault
  ending_same top =
      (λ i. or_else (open_same (here es) i) (cells_fault_in cells (in_order es faultless i) top))
      ∙ ap (or_else (open_fault es)) (cells_fault_same top)
