-- The instances of a draft, level by level with the places of its cells, are those of the cards in file order.
use Rattle.std.proofs.Common.{◌≡◌, ℕ, ◌+◌, ◌-◌, ◌≤◌, List, [], ◌∷◌, ◌++◌, length, take, drop, Some, None, refl, sym, ap, subst, ◌∙◌, arith, append_assoc}
use Rattle.std.specs.Option.{option_to_list}
use Rattle.std.proofs.Math.Seq.{take-length, drop-length}
use Rattle.std.proofs.lemmas.List.{append-nil, drop-append-le, length-append, length-drop, map-append, take-append-le}
use Rattle.cvc_base.specs.declared.param.Pair.{Pair}
use Rattle.cvc_card.specs.declared.card.Card.{Card}
use Rattle.cvc_card.specs.declared.card.Card.TheVariants.{Device, Inst, Subckt, Ends, Global, Params, Ignored}
use Rattle.cvc_card.specs.declared.card.CellCard.{CellCard}
use Rattle.cvc_card.specs.declared.card.InstCard.{InstCard}
use Rattle.cvc_cdl.specs.declared.netlist.Cell.{Cell}
use Rattle.cvc_cdl.specs.declared.netlist.Item.{Item}
use Rattle.cvc_cdl.specs.declared.netlist.Item.TheVariants as items
use Rattle.cvc_cdl.specs.Levels.{Entry, Level, cell_cards, items_at, level_behind, placed}
use Rattle.cvc_cdl.specs.Netlist.{cells_of}
use Rattle.cvc_cdl.specs.Building.{fault_of, first_fault}
use Rattle.cvc_cdl.specs.Ending.{inst_in, instance_in, instances}
use Rattle.cvc_cdl.specs.Builder.{Draft, draft_of, places_behind}
use Rattle.cvc_cdl.specs.Drafting.{begun_cell, cell_with_item, cell_with_pairs, in_last, with_card, with_cell, with_item, with_pairs}
use Rattle.cvc_cdl.specs.Finishing.{file_items, instances_in, items_of_cell, place_at, places_after}
use Rattle.cvc_cdl.proofs.Drafts.{in_last-push}
use Rattle.cvc_cdl.proofs.Placing.{by_cards, instances-push}
use Rattle.cvc_cdl.proofs.Kept.{IsKept, kept_none, kept_step, no_cause}
use Rattle.cvc_cdl.proofs.Stepped.{step}
use Rattle.cvc_cdl.proofs.Endings.{filter_map-one, inners, instances_in-append}

-- the places rise within the items that are left
Fits : ℕ → List Item → List (List Item) → List ℕ → Type 0
Fits from rest [] [] = Unit {0}
Fits from rest [] (p ∷ ps) = ⊥
Fits from rest (x ∷ xs) [] = ⊥
Fits from rest (x ∷ xs) (p ∷ ps) = (from ≤ p) × (p ≤ from + length rest) × Fits p (drop (p - from) rest) xs ps

-- what stands on the main level behind the last cell
left_of : ℕ → List Item → List (List Item) → List ℕ → List Item
left_of from rest [] ps = rest
left_of from rest (x ∷ xs) ps = left_of (place_at from ps) (drop (place_at from ps - from) rest) xs (places_after ps)

moved : (a b c y : List Item) → a ++ b ++ (c ++ y) ≡ (a ++ b ++ c) ++ y
moved a b c y = sym (append_assoc (a ++ b) c y)

-- ## One item more on the main level

module _ (y : Item) where
  main_file : (from : ℕ) (rest : List Item) (xs : List (List Item)) (ps : List ℕ) → Fits from rest xs ps → file_items from (rest ++ y ∷ []) xs ps ≡ file_items from rest xs ps ++ y ∷ []
  unfolding file_items Fits
  main_file from rest [] [] h = refl
  main_file from rest [] (p ∷ ps) h = absurd h
  main_file from rest (x ∷ xs) [] h = absurd h
  main_file from rest (x ∷ xs) (p ∷ ps) h =
      let n = p - from in
      let le : n ≤ length rest = omega (arith, h.0, h.1) in
      (λ i. take-append-le n rest (y ∷ []) le i ++ x ++ file_items p (drop-append-le n rest (y ∷ []) le i) xs ps)
      ∙ ap (λ zs. take n rest ++ x ++ zs) (main_file p (drop n rest) xs ps h.2)
      ∙ moved (take n rest) x (file_items p (drop n rest) xs ps) (y ∷ [])

  main_fits : (from : ℕ) (rest : List Item) (xs : List (List Item)) (ps : List ℕ) → Fits from rest xs ps → Fits from (rest ++ y ∷ []) xs ps
  unfolding Fits
  main_fits from rest [] [] h = tt
  main_fits from rest [] (p ∷ ps) h = absurd h
  main_fits from rest (x ∷ xs) [] h = absurd h
  main_fits from rest (x ∷ xs) (p ∷ ps) h =
      let n = p - from in
      let le : n ≤ length rest = omega (arith, h.0, h.1) in
      (h.0, (omega (arith, h.1, length-append rest (y ∷ []))), subst (λ zs. Fits p zs xs ps) (sym (drop-append-le n rest (y ∷ []) le)) (main_fits p (drop n rest) xs ps h.2))

-- ## One cell more

module _ (inner : List Item) (n : ℕ) where
  behind : (from p : ℕ) (rest : List Item) → n ≡ from + length rest → from ≤ p → p ≤ from + length rest → n ≡ p + length (drop (p - from) rest)
  behind from p rest at low high = omega (arith, length-drop (p - from) rest)

  cell_file : (from : ℕ) (rest : List Item) (xs : List (List Item)) (ps : List ℕ) → Fits from rest xs ps → n ≡ from + length rest → file_items from rest (xs ++ inner ∷ []) (ps ++ n ∷ []) ≡ file_items from rest xs ps ++ inner
  unfolding file_items Fits
  cell_file from rest [] [] h at =
      let gap : n - from ≡ length rest = omega arith in
      (λ i. take (gap i) rest ++ inner ++ drop (gap i) rest) ∙ (λ i. take-length rest i ++ inner ++ drop-length rest i) ∙ append-nil (rest ++ inner)
  cell_file from rest [] (p ∷ ps) h at = absurd h
  cell_file from rest (x ∷ xs) [] h at = absurd h
  cell_file from rest (x ∷ xs) (p ∷ ps) h at =
      ap (λ zs. take (p - from) rest ++ x ++ zs) (cell_file p (drop (p - from) rest) xs ps h.2 (behind from p rest at h.0 h.1))
      ∙ moved (take (p - from) rest) x (file_items p (drop (p - from) rest) xs ps) inner

  cell_fits : (from : ℕ) (rest : List Item) (xs : List (List Item)) (ps : List ℕ) → Fits from rest xs ps → n ≡ from + length rest → Fits from rest (xs ++ inner ∷ []) (ps ++ n ∷ [])
  unfolding Fits
  cell_fits from rest [] [] h at = (omega arith, omega arith, tt)
  cell_fits from rest [] (p ∷ ps) h at = absurd h
  cell_fits from rest (x ∷ xs) [] h at = absurd h
  cell_fits from rest (x ∷ xs) (p ∷ ps) h at = (h.0, h.1, cell_fits p (drop (p - from) rest) xs ps h.2 (behind from p rest at h.0 h.1))

  cell_left : (from : ℕ) (rest : List Item) (xs : List (List Item)) (ps : List ℕ) → Fits from rest xs ps → n ≡ from + length rest → left_of from rest (xs ++ inner ∷ []) (ps ++ n ∷ []) ≡ []
  unfolding left_of Fits
  cell_left from rest [] [] h at = let gap : n - from ≡ length rest = omega arith in ap (λ k. drop k rest) gap ∙ drop-length rest
  cell_left from rest [] (p ∷ ps) h at = absurd h
  cell_left from rest (x ∷ xs) [] h at = absurd h
  cell_left from rest (x ∷ xs) (p ∷ ps) h at = cell_left p (drop (p - from) rest) xs ps h.2 (behind from p rest at h.0 h.1)

-- ## One item more in the last cell

module _ (inner more : List Item) where
  inner_left : (from : ℕ) (rest : List Item) (xs : List (List Item)) (ps : List ℕ) → left_of from rest (xs ++ inner ∷ []) ps ≡ left_of from rest (xs ++ more ∷ []) ps
  unfolding left_of
  inner_left from rest [] ps = refl
  inner_left from rest (x ∷ xs) ps = inner_left (place_at from ps) (drop (place_at from ps - from) rest) xs (places_after ps)

  inner_fits : (from : ℕ) (rest : List Item) (xs : List (List Item)) (ps : List ℕ) → Fits from rest (xs ++ inner ∷ []) ps → Fits from rest (xs ++ more ∷ []) ps
  unfolding Fits
  inner_fits from rest [] [] h = absurd h
  inner_fits from rest [] (p ∷ []) h = h
  inner_fits from rest [] (p ∷ q ∷ ps) h = h
  inner_fits from rest (x ∷ xs) [] h = absurd h
  inner_fits from rest (x ∷ xs) (p ∷ ps) h = (h.0, h.1, inner_fits p (drop (p - from) rest) xs ps h.2)

module _ (inner : List Item) (y : Item) where
  inner_file : (from : ℕ) (rest : List Item) (xs : List (List Item)) (ps : List ℕ) → left_of from rest (xs ++ inner ∷ []) ps ≡ [] → file_items from rest (xs ++ (inner ++ y ∷ []) ∷ []) ps ≡ file_items from rest (xs ++ inner ∷ []) ps ++ y ∷ []
  unfolding file_items left_of
  inner_file from rest [] ps none =
      let n = place_at from ps - from in
      ap (λ zs. take n rest ++ (inner ++ y ∷ []) ++ zs) none ∙ append-nil (take n rest ++ (inner ++ y ∷ [])) ∙ sym (append_assoc (take n rest) inner (y ∷ []))
      ∙ ap (λ zs. zs ++ y ∷ []) (sym (append-nil (take n rest ++ inner)) ∙ ap (λ zs. take n rest ++ inner ++ zs) (sym none))
  inner_file from rest (x ∷ xs) ps none =
      let n = place_at from ps - from in
      let p = place_at from ps in
      ap (λ zs. take n rest ++ x ++ zs) (inner_file p (drop n rest) xs (places_after ps) none)
      ∙ moved (take n rest) x (file_items p (drop n rest) (xs ++ inner ∷ []) (places_after ps)) (y ∷ [])

-- ## Drafts

-- the last cell is open, and nothing of the main level stands behind it
record IsShut (d : Draft) : Type 0 where
  front : List Cell
  last : Cell
  are : d.cells ≡ front ++ last ∷ []
  none : left_of 0 d.items (inners d.cells) d.places ≡ []

ShutIf : Level → Draft → Type 0
ShutIf None d = Unit {0}
ShutIf (Some name) d = IsShut d

pub record InOrder (d : Draft) (xs : List InstCard) : Type 0 where
  fits : Fits 0 d.items (inners d.cells) d.places
  order : instances_in (file_items 0 d.items (inners d.cells) d.places) ≡ xs
  shut : ShutIf d.level d

inners-push : (cs : List Cell) (c : Cell) → inners (cs ++ c ∷ []) ≡ inners cs ++ c.items ∷ []
inners-push cs c = map-append items_of_cell cs (c ∷ [])

module _ (d : Draft) (xs : List InstCard) (o : InOrder d xs) where
  -- the same instances
  unchanged : xs ++ [] ≡ xs
  unchanged = append-nil xs

  longer : (item : Item) (file : List Item) → file ≡ file_items 0 d.items (inners d.cells) d.places ++ item ∷ [] → instances_in file ≡ xs ++ option_to_list (inst_in item)
  longer item file more =
      ap instances_in more ∙ instances_in-append (file_items 0 d.items (inners d.cells) d.places) (item ∷ []) ∙ (λ i. o.order i ++ filter_map-one inst_in item i)

  item_order : (item : Item) (l : Level) → d.level ≡ l → InOrder (with_item l d item) (xs ++ option_to_list (inst_in item))
  unfolding ShutIf
  item_order item None at = record {
    fits = main_fits item 0 d.items (inners d.cells) d.places o.fits;
    order = longer item (file_items 0 (d.items ++ item ∷ []) (inners d.cells) d.places) (main_file item 0 d.items (inners d.cells) d.places o.fits);
    shut = subst (λ (x : Level). ShutIf x (with_item None d item)) (sym at) tt;
  }
  item_order item (Some name) at =
      let s : IsShut d = subst (λ (x : Level). ShutIf x d) at o.shut in
      let more = s.last.items ++ item ∷ [] in
      let old : inners d.cells ≡ inners s.front ++ s.last.items ∷ [] = ap inners s.are ∙ inners-push s.front s.last in
      let last : Cell = cell_with_item item s.last in
      let cells : in_last (cell_with_item item) d.cells ≡ s.front ++ last ∷ [] = ap (in_last (cell_with_item item)) s.are ∙ in_last-push (cell_with_item item) s.front s.last in
      let new : inners (in_last (cell_with_item item) d.cells) ≡ inners s.front ++ more ∷ [] = ap inners cells ∙ inners-push s.front last in
      let none : left_of 0 d.items (inners s.front ++ s.last.items ∷ []) d.places ≡ [] = ap (λ ys. left_of 0 d.items ys d.places) (sym old) ∙ s.none in
      record {
        fits = subst (λ ys. Fits 0 d.items ys d.places) (sym new) (inner_fits s.last.items more 0 d.items (inners s.front) d.places (subst (λ ys. Fits 0 d.items ys d.places) old o.fits));
        order = longer item (file_items 0 d.items (inners (in_last (cell_with_item item) d.cells)) d.places)
            (ap (λ ys. file_items 0 d.items ys d.places) new ∙ inner_file s.last.items item 0 d.items (inners s.front) d.places none
            ∙ ap (λ ys. file_items 0 d.items ys d.places ++ item ∷ []) (sym old));
        shut = subst (λ (x : Level). ShutIf x (with_item (Some name) d item)) (sym at) (record {
          front = s.front;
          last = last;
          are = cells;
          none = ap (λ ys. left_of 0 d.items ys d.places) new ∙ sym (inner_left s.last.items more 0 d.items (inners s.front) d.places) ∙ none;
        });
      }

  pairs_order : (pairs : List Pair) (l : Level) → d.level ≡ l → InOrder (with_pairs l d pairs) (xs ++ [])
  unfolding ShutIf
  pairs_order pairs None at = record { fits = o.fits; order = o.order ∙ sym unchanged; shut = subst (λ (x : Level). ShutIf x (with_pairs None d pairs)) (sym at) tt }
  pairs_order pairs (Some name) at =
      let s : IsShut d = subst (λ (x : Level). ShutIf x d) at o.shut in
      let last : Cell = cell_with_pairs pairs s.last in
      let cells : in_last (cell_with_pairs pairs) d.cells ≡ s.front ++ last ∷ [] = ap (in_last (cell_with_pairs pairs)) s.are ∙ in_last-push (cell_with_pairs pairs) s.front s.last in
      let same : inners d.cells ≡ inners (in_last (cell_with_pairs pairs) d.cells) = ap inners s.are ∙ inners-push s.front s.last ∙ sym (inners-push s.front last) ∙ sym (ap inners cells) in
      record {
        fits = subst (λ ys. Fits 0 d.items ys d.places) same o.fits;
        order = ap (λ ys. instances_in (file_items 0 d.items ys d.places)) (sym same) ∙ o.order ∙ sym unchanged;
        shut = subst (λ (x : Level). ShutIf x (with_pairs (Some name) d pairs)) (sym at)
            (record { front = s.front; last = last; are = cells; none = ap (λ ys. left_of 0 d.items ys d.places) (sym same) ∙ s.none });
      }

  begin_order : (c : CellCard) → InOrder (with_cell d c) (xs ++ [])
  unfolding ShutIf
  begin_order c =
      let n = length d.items in
      let at : n ≡ 0 + length d.items = omega arith in
      let new : inners (d.cells ++ begun_cell c ∷ []) ≡ inners d.cells ++ [] ∷ [] = inners-push d.cells (begun_cell c) in
      record {
        fits = subst (λ ys. Fits 0 d.items ys (d.places ++ n ∷ [])) (sym new) (cell_fits [] n 0 d.items (inners d.cells) d.places o.fits at);
        order = ap (λ ys. instances_in (file_items 0 d.items ys (d.places ++ n ∷ []))) new
            ∙ ap instances_in (cell_file [] n 0 d.items (inners d.cells) d.places o.fits at ∙ append-nil (file_items 0 d.items (inners d.cells) d.places))
            ∙ o.order ∙ sym unchanged;
        shut = record {
          front = d.cells;
          last = begun_cell c;
          are = refl;
          none = ap (λ ys. left_of 0 d.items ys (d.places ++ n ∷ [])) new ∙ cell_left [] n 0 d.items (inners d.cells) d.places o.fits at;
        };
      }

  shut_same : (l : Level) → d.level ≡ l → (e : Draft) → e.cells ≡ d.cells → e.items ≡ d.items → e.places ≡ d.places → ShutIf l d → ShutIf l e
  unfolding ShutIf
  shut_same None at e c i p s = tt
  shut_same (Some name) at e c i p s = record { front = s.front; last = s.last; are = c ∙ s.are; none = (λ j. left_of 0 (i j) (inners (c j)) (p j)) ∙ s.none }

  card_order : (line : ℕ) (card : Card) → InOrder (with_card d line card) (xs ++ option_to_list (instance_in card))
  unfolding ShutIf
  card_order line (Device x) = item_order (items.Device x) d.level refl
  card_order line (Inst x) = item_order (items.Inst x) d.level refl
  card_order line (Subckt c) = begin_order c
  card_order line (Ends name) = record { fits = o.fits; order = o.order ∙ sym unchanged; shut = tt }
  card_order line (Global names) = record { fits = o.fits; order = o.order ∙ sym unchanged; shut = shut_same d.level refl (with_card d line (Global names)) refl refl refl o.shut }
  card_order line (Params pairs) = pairs_order pairs d.level refl
  card_order line Ignored = record { fits = o.fits; order = o.order ∙ sym unchanged; shut = o.shut }

-- ## All cards

record IsOrdered (es : List Entry) : Type 0 where
  kept : IsKept es
  ordered : InOrder (draft_of es) (instances es)

none_ordered : IsOrdered []
unfolding Fits ShutIf file_items instances cell_cards level_behind placed items_at places_behind cells_of
none_ordered = record { kept = kept_none; ordered = record { fits = tt; order = refl; shut = tt } }

one_ordered : (es : List Entry) (e : Entry) → IsOrdered es → fault_of es e ≡ None → IsOrdered (es ++ e ∷ [])
one_ordered es e h none = record {
  kept = kept_step es e.line h.kept e.card (no_cause es e none);
  ordered =
      subst (λ (d : Draft). InOrder d (instances (es ++ e ∷ []))) (step es e.line h.kept e.card (no_cause es e none))
      (subst (InOrder (with_card (draft_of es) e.line e.card)) (sym (instances-push es e)) (card_order (draft_of es) (instances es) h.ordered e.line e.card));
}

pub in_order : (es : List Entry) → first_fault [] es ≡ None → instances_in (file_items 0 (items_at None es) (inners (cells_of es)) (places_behind [] es)) ≡ instances es
in_order es none = (by_cards IsOrdered none_ordered one_ordered es none).ordered.order
