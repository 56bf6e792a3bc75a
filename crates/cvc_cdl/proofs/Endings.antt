-- Loops over items, cells and instances, at the end of a netlist.
use Rattle.std.proofs.Common.{◌≡◌, ℕ, zero, suc, ◌+◌, ◌-◌, ◌<◌, ◌≤◌, Bool, true, false, cond, List, [], ◌∷◌, ◌++◌, length, map, take, drop, get_or, Option, Some, None, is_some, Bor, if◌then◌else◌, refl, sym, ap, subst, ◌∙◌, arith, append_assoc}
use Rattle.std.specs.Prelude.{All}
use Rattle.std.specs.Option.{IfSome, option_map, option_to_list}
use Rattle.std.specs.List.{cons_option, filter_map, find}
use Rattle.std.specs.Str.{bytes_eq}
use Rattle.std.proofs.lemmas.List.{drop_all, drop_more, length-map, map-append, nil_from_length, take_more}
use Rattle.std.proofs.lemmas.List.Elements.{All-cons, All-map, All-nil, filter_map-append}
use Rattle.cvc_base.specs.declared.cause.Cause.{Cause}
use Rattle.cvc_base.specs.declared.cause.Cause.TheVariants.{NoTop, Recursive, UnknownCell}
use Rattle.cvc_base.specs.declared.fault.Fault.{Fault}
use Rattle.cvc_card.specs.declared.card.InstCard.{InstCard}
use Rattle.cvc_cdl.specs.declared.netlist.Cell.{Cell}
use Rattle.cvc_cdl.specs.declared.netlist.Item.{Item}
use Rattle.cvc_cdl.specs.declared.netlist.Item.TheVariants as items
use Rattle.cvc_card.specs.Parts.{last_of}
use Rattle.cvc_cdl.specs.Netlist.{name_of_cell, top_of}
use Rattle.cvc_cdl.specs.Building.{fault_at, or_else}
use Rattle.cvc_cdl.specs.Builder.{named_top}
use Rattle.cvc_cdl.specs.Chains.{AreBelow}
use Rattle.cvc_cdl.specs.Ending.{cell_cause, cell_named, first_instance_fault, inst_in, instance_cause, ports_cause, top_fault}
use Rattle.cvc_cdl.specs.Finishing.{all_uses_in, endless_fault_in, file_items, instances_in, items_of_cell, names_endless, place_at, place_used, places_after, uses_in}
use Rattle.cvc_cdl.specs.Lookup.{place_of}
use Rattle.cvc_cdl.specs.Placed.{IsPlaced, inst_placed, insts_placed, place_placed}
use Rattle.cvc_cdl.specs.declared.library.Placed.{Placed}
use Rattle.cvc_cdl.proofs.Lookups.{no_place, place_of-below}

-- ## A filter of items

pub filter_map-one : {X Y : Type 0} (h : X → Option Y) (x : X) → filter_map h (x ∷ []) ≡ option_to_list (h x)
filter_map-one {X = X} {Y = Y} h x = by (h x)
  where
    by : (o : Option Y) → filter_map (λ (z : X). o) (x ∷ []) ≡ option_to_list o
    by None = refl
    by (Some y) = refl

pub filter_more : {X Y : Type 0} (h : X → Option Y) (xs : List X) (i : ℕ) (x : X) → i < length xs → x ≡ get_or xs i x → filter_map h (take (i + 1) xs) ≡ filter_map h (take i xs) ++ option_to_list (h x)
filter_more h xs i x lt at =
    ap (filter_map h) (take_more xs i x lt ∙ ap (λ y. take i xs ++ y ∷ []) (sym at)) ∙ filter_map-append h (take i xs) (x ∷ []) ∙ ap (λ ys. filter_map h (take i xs) ++ ys) (filter_map-one h x)

pub used_more : {X Y : Type 0} (h : X → Option Y) (xs : List X) (i : ℕ) (x : X) → i < length xs → x ≡ get_or xs i x → (o : Option Y) → o ≡ h x → (ys next : List Y) → ys ≡ filter_map h (take i xs)
    → next ≡ ys ++ option_to_list o → next ≡ filter_map h (take (i + 1) xs)
used_more h xs i x lt at o is ys next so more = more ∙ (λ j. so j ++ option_to_list (is j)) ∙ sym (filter_more h xs i x lt at)

insts-option : (o : Option Placed) → insts_placed (option_to_list o) ≡ option_to_list (option_map inst_placed o)
insts-option None = refl
insts-option (Some x) = refl

pub insts_more : (is : List Item) (i : ℕ) (x : Item) → i < length is → x ≡ get_or is i x → (o : Option Placed) → option_map inst_placed o ≡ inst_in x → (start found next : List Placed)
    → insts_placed found ≡ insts_placed start ++ instances_in (take i is) → next ≡ found ++ option_to_list o → insts_placed next ≡ insts_placed start ++ instances_in (take (i + 1) is)
insts_more is i x lt at o same start found next so more =
    ap insts_placed more ∙ map-append inst_placed found (option_to_list o)
    ∙ (λ j. so j ++ (insts-option o ∙ ap option_to_list same) j)
    ∙ append_assoc (insts_placed start) (instances_in (take i is)) (option_to_list (inst_in x))
    ∙ ap (λ ys. insts_placed start ++ ys) (sym (filter_more inst_in is i x lt at))

-- ## All instances in file order

places-step : (ps : List ℕ) (i : ℕ) → places_after (drop i ps) ≡ drop (i + 1) ps
places-step [] i = by (drop-none i) (drop-none (i + 1))
  where
    drop-none : (n : ℕ) → drop {A = ℕ} n [] ≡ []
    drop-none zero = refl
    drop-none (suc n) = refl

    by : drop {A = ℕ} i [] ≡ [] → drop {A = ℕ} (i + 1) [] ≡ [] → places_after (drop i []) ≡ drop (i + 1) []
    by e f = ap places_after e ∙ sym f
places-step (p ∷ ps) zero = refl
places-step (p ∷ ps) (suc i) = let e : suc i + 1 ≡ suc (i + 1) = omega arith in rw e (places-step ps i)

abbrev pub inners : List Cell → List (List Item)
inners cells = map items_of_cell cells

pub file_step : (cells : List Cell) (places : List ℕ) (i : ℕ) (c : Cell) → i < length cells → c ≡ get_or cells i c → (from : ℕ) (rest inner : List Item) → inner ≡ c.items → (place n : ℕ) → place ≡ place_at from (drop i places)
    → n ≡ place - from → file_items from rest (inners (drop i cells)) (drop i places) ≡ take n rest ++ inner ++ file_items place (drop n rest) (inners (drop (i + 1) cells)) (drop (i + 1) places)
unfolding file_items
file_step cells places i c lt at from rest inner same place n is gap =
    let cells_are : drop i cells ≡ c ∷ drop (i + 1) cells = drop_more cells i c lt ∙ ap (λ d. d ∷ drop (i + 1) cells) (sym at) in
    let gap_is : place_at from (drop i places) - from ≡ n = ap (λ p. p - from) (sym is) ∙ sym gap in
    ap (λ cs. file_items from rest (inners cs) (drop i places)) cells_are
    ∙ (λ j. take (gap_is j) rest ++ sym same j ++ file_items (sym is j) (drop (gap_is j) rest) (inners (drop (i + 1) cells)) (places-step places i j))

pub instances_in-append : (a b : List Item) → instances_in (a ++ b) ≡ instances_in a ++ instances_in b
instances_in-append a b = filter_map-append inst_in a b

pub instances_step : (whole found more next : List InstCard) (front inner behind all : List Item) → whole ≡ found ++ instances_in all → all ≡ front ++ inner ++ behind → more ≡ found ++ instances_in front → next ≡ more ++ instances_in inner
    → whole ≡ next ++ instances_in behind
instances_step whole found more next front inner behind all so split a b =
    so ∙ ap (λ xs. found ++ instances_in xs) split
    ∙ ap (λ xs. found ++ xs) (instances_in-append (front ++ inner) behind ∙ ap (λ xs. xs ++ instances_in behind) (instances_in-append front inner))
    ∙ sym (append_assoc found (instances_in front ++ instances_in inner) (instances_in behind))
    ∙ ap (λ xs. xs ++ instances_in behind) (sym (append_assoc found (instances_in front) (instances_in inner)) ∙ ap (λ xs. xs ++ instances_in inner) (sym a) ∙ sym b)

pub file_end : (cells : List Cell) (places : List ℕ) (i : ℕ) → length cells ≤ i → (from : ℕ) (rest : List Item) → file_items from rest (inners (drop i cells)) (drop i places) ≡ rest
unfolding file_items
file_end cells places i le from rest = ap (λ cs. file_items from rest (inners cs) (drop i places)) (drop_all i cells le)

-- ## The cause at an instance

named-at : (cells : List Cell) (name : List ℕ) (i : ℕ) (d : Cell) → Some i ≡ place_of (map name_of_cell cells) name → cell_named cells name ≡ Some (get_or cells i d)
unfolding place_of
named-at [] name i d e = cc
named-at (c ∷ cs) name i d e = by (bytes_eq name c.name) (place_of (map name_of_cell cs) name) (λ k f. named-at cs name k d f) i e
  where
    by : (b : Bool) (o : Option ℕ) → ((k : ℕ) → Some k ≡ o → cell_named cs name ≡ Some (get_or cs k d)) → (i : ℕ) → Some i ≡ (if b then Some 0 else option_map suc o) → cond b (Some c) (cell_named cs name) ≡ Some (get_or (c ∷ cs) i d)
    by true o h i e = let z : i ≡ 0 = cc in rw z refl
    by false None h i e = cc
    by false (Some k) h i e = let z : i ≡ suc k = cc in rw z (h k refl)

pub named-none : (cells : List Cell) (name : List ℕ) → None ≡ place_of (map name_of_cell cells) name → cell_named cells name ≡ None
unfolding place_of
named-none [] name e = refl
named-none (c ∷ cs) name e = by (bytes_eq name c.name) (place_of (map name_of_cell cs) name) (named-none cs name) e
  where
    by : (b : Bool) (o : Option ℕ) → (None ≡ o → cell_named cs name ≡ None) → None ≡ (if b then Some 0 else option_map suc o) → cond b (Some c) (cell_named cs name) ≡ None
    by true o h e = cc
    by false None h e = h refl
    by false (Some k) h e = cc

pub cause_unknown : (cells : List Cell) (x : InstCard) (name : List ℕ) → name ≡ x.cell → None ≡ place_of (map name_of_cell cells) name → Some UnknownCell ≡ instance_cause cells x
cause_unknown cells x name same none = sym (ap (λ o. cell_cause o x.ports) (named-none cells x.cell (none ∙ ap (place_of (map name_of_cell cells)) same)))

pub cause_known : (cells : List Cell) (x : InstCard) (name : List ℕ) (i : ℕ) (d : Cell) → name ≡ x.cell → Some i ≡ place_of (map name_of_cell cells) name → (cause : Option Cause) → cause ≡ ports_cause (get_or cells i d).ports x.ports
    → cause ≡ instance_cause cells x
cause_known cells x name i d same some cause is = is ∙ sym (ap (λ o. cell_cause o x.ports) (named-at cells x.cell i d (some ∙ ap (place_of (map name_of_cell cells)) same)))

-- ## The first of the instances

module _ (xs : List Placed) (i : ℕ) where
  left : (x : Placed) → i < length xs → x ≡ get_or xs i x → insts_placed (drop i xs) ≡ x.inst.now ∷ insts_placed (drop (i + 1) xs)
  left x lt at = ap insts_placed (drop_more xs i x lt ∙ ap (λ y. y ∷ drop (i + 1) xs) (sym at))

  module _ (cells : List Cell) (whole : Option Fault) where
    module _ (so : whole ≡ first_instance_fault cells (insts_placed (drop i xs))) where
      pub misfit_here : (x : Placed) → i < length xs → x ≡ get_or xs i x → (cause : Cause) → Some cause ≡ instance_cause cells x.inst.now → (fault : Fault) → fault ≡ fault_at x.inst.now.line cause → Some fault ≡ whole
      unfolding first_instance_fault
      misfit_here x lt at cause is fault same =
          ap Some same ∙ ap (λ o. or_else (option_map (fault_at x.inst.now.line) o) (first_instance_fault cells (insts_placed (drop (i + 1) xs)))) is
          ∙ sym (so ∙ ap (first_instance_fault cells) (left x lt at))

      pub misfit_later : (x : Placed) → i < length xs → x ≡ get_or xs i x → None ≡ instance_cause cells x.inst.now → whole ≡ first_instance_fault cells (insts_placed (drop (i + 1) xs))
      unfolding first_instance_fault
      misfit_later x lt at none =
          so ∙ ap (first_instance_fault cells) (left x lt at) ∙ ap (λ o. or_else (option_map (fault_at x.inst.now.line) o) (first_instance_fault cells (insts_placed (drop (i + 1) xs)))) (sym none)

      pub no_misfit : length xs ≤ i → None ≡ whole
      unfolding first_instance_fault
      no_misfit le = sym (so ∙ ap (λ (ys : List Placed). first_instance_fault cells (insts_placed ys)) (drop_all i xs le))

    module _ (so : whole ≡ endless_fault_in cells (insts_placed (drop i xs))) where
      pub recursive_here : (x : Placed) → i < length xs → x ≡ get_or xs i x → true ≡ names_endless cells x.inst.now → (fault : Fault) → fault ≡ fault_at x.inst.now.line Recursive → Some fault ≡ whole
      recursive_here x lt at is fault same =
          ap Some same ∙ ap (λ b. option_map (λ (y : InstCard). fault_at y.line Recursive) (cond b (Some x.inst.now) (find (names_endless cells) (insts_placed (drop (i + 1) xs))))) is
          ∙ sym (so ∙ ap (endless_fault_in cells) (left x lt at))

      pub recursive_later : (x : Placed) → i < length xs → x ≡ get_or xs i x → false ≡ names_endless cells x.inst.now → whole ≡ endless_fault_in cells (insts_placed (drop (i + 1) xs))
      recursive_later x lt at fails =
          so ∙ ap (endless_fault_in cells) (left x lt at)
          ∙ ap (λ b. option_map (λ (y : InstCard). fault_at y.line Recursive) (cond b (Some x.inst.now) (find (names_endless cells) (insts_placed (drop (i + 1) xs))))) (sym fails)

      pub none_recursive : length xs ≤ i → None ≡ whole
      none_recursive le = sym (so ∙ ap (λ (ys : List Placed). endless_fault_in cells (insts_placed ys)) (drop_all i xs le))

-- ## Uses of cells

pub all_below : {X : Type 0} (n : ℕ) (h : X → Option ℕ) → ((x : X) → IfSome (h x) (λ i. i < n)) → (xs : List X) → All (λ i. i < n) (filter_map h xs)
all_below {X = X} n h below [] = All-nil (λ (i : ℕ). i < n)
all_below {X = X} n h below (x ∷ xs) = subst (λ ys. All (λ i. i < n) ys) (sym (filter_map-append h (x ∷ []) xs)) (by (h x) (below x) (all_below n h below xs))
  where
    by : (o : Option ℕ) → IfSome o (λ i. i < n) → All (λ i. i < n) (filter_map h xs) → All (λ i. i < n) (filter_map (λ (z : X). o) (x ∷ []) ++ filter_map h xs)
    by None lt rest = rest
    by (Some i) lt rest = All-cons (λ (j : ℕ). j < n) i (filter_map h xs) lt rest

used_below : (names : List (List ℕ)) (x : Item) → IfSome (place_used names x) (λ i. i < length names)
used_below names (items.Device d) = tt
used_below names (items.Inst x) = place_of-below names x.cell

pub uses_below : (cells : List Cell) → AreBelow (all_uses_in cells)
uses_below cells =
    let names : List (List ℕ) = map name_of_cell cells in
    let sizes : length names ≡ length (all_uses_in cells) = length-map cells name_of_cell ∙ sym (length-map cells (uses_in names)) in
    All-map (All (λ (i : ℕ). i < length (all_uses_in cells))) (uses_in names) cells
    (λ k d lt. subst (λ n. All (λ (i : ℕ). i < n) (uses_in names (get_or cells k d))) sizes (all_below (length names) (place_used names) (used_below names) (get_or cells k d).items))

-- the places of what stands in a cell
uses_placed : (cells : List Cell) (ps : List Placed) → All (IsPlaced cells) ps → filter_map place_placed ps ≡ filter_map (λ (x : InstCard). place_of (map name_of_cell cells) x.cell) (insts_placed ps)
uses_placed cells [] h = refl
uses_placed cells (p ∷ ps) h =
    let first : IsPlaced cells p = h 0 p (omega arith) in
    let later : All (IsPlaced cells) ps = λ k d lt. h (suc k) d (omega arith) in
    λ i. cons_option (first.at i) (uses_placed cells ps later i)

uses_inside : (names : List (List ℕ)) (is : List Item) → filter_map (λ (x : InstCard). place_of names x.cell) (instances_in is) ≡ filter_map (place_used names) is
uses_inside names [] = refl
uses_inside names (items.Device d ∷ is) = uses_inside names is
uses_inside names (items.Inst x ∷ is) = ap (cons_option (place_of names x.cell)) (uses_inside names is)

pub uses_are : (cells : List Cell) (ps : List Placed) (c : Cell) (is : List Item) → All (IsPlaced cells) ps → insts_placed ps ≡ instances_in is → is ≡ c.items → filter_map place_placed ps ≡ uses_in (map name_of_cell cells) c
uses_are cells ps c is h e same =
    uses_placed cells ps h ∙ ap (filter_map (λ (x : InstCard). place_of (map name_of_cell cells) x.cell)) e ∙ uses_inside (map name_of_cell cells) is
    ∙ ap (filter_map (place_used (map name_of_cell cells))) same

-- ## The top

pub top_known : (cells : List Cell) (name : List ℕ) (i : ℕ) → Some i ≡ place_of (map name_of_cell cells) name → None ≡ top_fault cells (Some name)
top_known cells name i some = ap (λ b. if b then None else Some (fault_at 0 NoTop)) (ap is_some some ∙ no_place (map name_of_cell cells) name)

pub top_unknown : (cells : List Cell) (name : List ℕ) → None ≡ place_of (map name_of_cell cells) name → Some (fault_at 0 NoTop) ≡ top_fault cells (Some name)
top_unknown cells name none = ap (λ b. if b then None else Some (fault_at 0 NoTop)) (ap is_some none ∙ no_place (map name_of_cell cells) name)

last_of-at : (cells : List Cell) (n : ℕ) (c : Cell) → n + 1 ≡ length cells → c ≡ get_or cells n c → last_of cells ≡ Some c
last_of-at [] n c size at = absurd (omega arith)
last_of-at (d ∷ []) zero c size at = ap Some (sym at)
last_of-at (d ∷ []) (suc n) c size at = absurd (omega arith)
last_of-at (d ∷ e ∷ cs) zero c size at = absurd (omega arith)
last_of-at (d ∷ e ∷ cs) (suc n) c size at = last_of-at (e ∷ cs) n c (omega arith) at

-- the top by default is the last cell, where nothing stands on the main level
pub last_is_top : (cells : List Cell) (is : List Item) (c : Cell) → 1 ≤ length cells → c ≡ get_or cells (length cells - 1) c → length is ≡ 0 → (name copy : List ℕ) → copy ≡ name → name ≡ c.name → (top : Option (Bor (List ℕ))) → top ≡ None
    → Some copy ≡ top_of (named_top top) is cells
last_is_top cells is c some at empty name copy same named top none =
    ap Some (same ∙ named) ∙ ap (option_map name_of_cell) (sym (last_of-at cells (length cells - 1) c (omega arith) at))
    ∙ ap (λ (ys : List Item). top_of None ys cells) (sym (nil_from_length is empty))
    ∙ ap (λ (t : Option (Bor (List ℕ))). top_of (named_top t) is cells) (sym none)
