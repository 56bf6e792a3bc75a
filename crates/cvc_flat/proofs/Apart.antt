-- The instances of a walk have different names: on each level no name stands twice, and what lies behind an instance has its names on the way.
use Rattle.std.proofs.Common.{◌≡◌, ℕ, zero, suc, List, [], ◌∷◌, ◌++◌, length, drop, map, refl, sym, ap, subst, ◌∙◌, append_assoc, length-append, arith, Bool, true, false, ◌||◌}
use Rattle.std.specs.List.{flat_map, list_any}
use Rattle.std.specs.Str.{bytes_eq}
use Rattle.std.specs.Cmp.Lexicographic.{bytes_decides}
use Rattle.std.proofs.lemmas.List.Elements.{filter_map-append}
use Rattle.std.proofs.lemmas.Bool.{false≢true}
use Rattle.cvc_card.specs.declared.card.InstCard.{InstCard}
use Rattle.cvc_card.specs.Card.{has_twice}
use Rattle.cvc_cdl.specs.declared.netlist.Item.{Item}
use Rattle.cvc_cdl.specs.declared.netlist.Item.TheVariants as items
use Rattle.cvc_cdl.specs.declared.netlist.Netlist.{Netlist}
use Rattle.cvc_cdl.specs.Building.{name_of_item}
use Rattle.cvc_cdl.specs.Instances.{Instance, cell_at, names_to}
use Rattle.cvc_params.proofs.Each.{Each, each_append, each_map}
use Rattle.cvc_flat.specs.Walk.{Visit, visits_at, walk}
use Rattle.cvc_flat.specs.Flat.{instance_at, instances_behind}

abbrev Names : Type 0
Names = List (List ℕ)

abbrev pub Different : Instance → Instance → Type 0
Different p q = names_to p ≡ names_to q → ⊥

-- each differs from all behind it
abbrev pub AllApart : List Instance → Type 0
AllApart [] = Unit {0}
AllApart (p ∷ ps) = Each (Different p) ps × AllApart ps

-- the instance lies behind an item of this name in the instance of these names
pub record IsBehind (up : Names) (name : List ℕ) (q : Instance) : Type 0 where
  pub front : Names
  pub split : names_to q ≡ front ++ name ∷ up

drop_front : (f : Names) (x : List ℕ) (up : Names) → drop (length f) (f ++ x ∷ up) ≡ x ∷ up
drop_front [] x up = refl
drop_front (a ∷ f) x up = drop_front f x up

head_or : List ℕ → Names → List ℕ
head_or d [] = d
head_or d (x ∷ xs) = x

same_item : (up : Names) (x y : List ℕ) (p q : Instance) → IsBehind up x p → IsBehind up y q → names_to p ≡ names_to q → x ≡ y
unfolding head_or
same_item up x y p q a b e =
    let lists : a.front ++ x ∷ up ≡ b.front ++ y ∷ up = sym a.split ∙ e ∙ b.split in
    let long : length a.front ≡ length b.front = omega (arith, length-append a.front (x ∷ up), length-append b.front (y ∷ up), ap length lists) in
    ap (head_or x) (sym (drop_front a.front x up) ∙ ap (drop (length a.front)) lists ∙ ap (λ k. drop k (b.front ++ y ∷ up)) long ∙ drop_front b.front y up)

apart_append : (ps qs : List Instance) → AllApart ps → AllApart qs → Each (λ p. Each (Different p) qs) ps → AllApart (ps ++ qs)
apart_append [] qs a b c = b
apart_append (p ∷ ps) qs a b c = (each_append (Different p) ps qs a.0 c.0, apart_append ps qs a.1 b c.1)

-- ## One level

behind_deeper : (up : Names) (own name : List ℕ) (q : Instance) → IsBehind (own ∷ up) name q → IsBehind up own q
behind_deeper up own name q b = record { front = b.front ++ name ∷ []; split = b.split ∙ sym (append_assoc b.front (name ∷ []) (own ∷ up)) }

-- an instance behind one of the items
abbrev IsIn : Netlist → Instance → List Item → Instance → Type 0
IsIn n p its q = (name : List ℕ) × (list_any (bytes_eq name) (map name_of_item its) ≡ true) × IsBehind (names_to p) name q

or_right : (a b : Bool) → b ≡ true → (a || b) ≡ true
or_right true b e = refl
or_right false b e = e

bytes_same : (a : List ℕ) → bytes_eq a a ≡ true
bytes_same a = (bytes_decides a a).1 refl

in_more : (n : Netlist) (p : Instance) (it : Item) (its : List Item) (q : Instance) → IsIn n p its q → IsIn n p (it ∷ its) q
in_more n p it its q w = (w.0, or_right (bytes_eq w.0 (name_of_item it)) (list_any (bytes_eq w.0) (map name_of_item its)) w.1, w.2)

in_first : (n : Netlist) (p : Instance) (it : Item) (its : List Item) (q : Instance) → IsBehind (names_to p) (name_of_item it) q → IsIn n p (it ∷ its) q
in_first n p it its q b = (name_of_item it, ap (λ a. a || list_any (bytes_eq (name_of_item it)) (map name_of_item its)) (bytes_same (name_of_item it)), b)

pub instances_append : (xs ys : List Visit) → instances_behind (xs ++ ys) ≡ instances_behind xs ++ instances_behind ys
unfolding instances_behind
instances_append xs ys = filter_map-append instance_at xs ys

-- the instances of one item
abbrev of_item : Netlist → ℕ → Instance → Item → List Instance
of_item n k p (items.Device d) = []
of_item n k p (items.Inst x) = (x ∷ p) ∷ instances_behind (walk n k (x ∷ p))

item_instances : (n : Netlist) (k : ℕ) (p : Instance) (it : Item) → instances_behind (visits_at (walk n k) p it) ≡ of_item n k p it
unfolding instances_behind
item_instances n k p (items.Device d) = refl
item_instances n k p (items.Inst x) = refl

abbrev of_items : Netlist → ℕ → Instance → List Item → List Instance
of_items n k p [] = []
of_items n k p (it ∷ its) = of_item n k p it ++ of_items n k p its

items_instances : (n : Netlist) (k : ℕ) (p : Instance) (its : List Item) → instances_behind (flat_map (visits_at (walk n k) p) its) ≡ of_items n k p its
unfolding instances_behind
items_instances n k p [] = refl
items_instances n k p (it ∷ its) =
    instances_append (visits_at (walk n k) p it) (flat_map (visits_at (walk n k) p) its)
    ∙ ap (λ l. l ++ instances_behind (flat_map (visits_at (walk n k) p) its)) (item_instances n k p it)
    ∙ ap (λ l. of_item n k p it ++ l) (items_instances n k p its)

-- ## The walk

abbrev Levels : Netlist → Type 0
Levels n = (p : Instance) → has_twice (map name_of_item (cell_at n p).items) ≡ false

or_left_false : (a b : Bool) → (a || b) ≡ false → a ≡ false
or_left_false true b e = e
or_left_false false b e = refl

or_right_false : (a b : Bool) → (a || b) ≡ false → b ≡ false
or_right_false true b e = absurd (false≢true (sym e))
or_right_false false b e = e

all_in : (n : Netlist) (k : ℕ) (p : Instance) (its : List Item) → ((q : Instance) → Each (IsIn n q (cell_at n q).items) (instances_behind (walk n k q))) → Each (IsIn n p its) (of_items n k p its)
all_in n k p [] deep = tt
all_in n k p (items.Device d ∷ its) deep = each_map (IsIn n p its) (IsIn n p (items.Device d ∷ its)) (of_items n k p its) (in_more n p (items.Device d) its) (all_in n k p its deep)
all_in n k p (items.Inst x ∷ its) deep = (
  in_first n p (items.Inst x) its (x ∷ p) record { front = []; split = refl },
  each_append (IsIn n p (items.Inst x ∷ its)) (instances_behind (walk n k (x ∷ p))) (of_items n k p its)
      (each_map (IsIn n (x ∷ p) (cell_at n (x ∷ p)).items) (IsIn n p (items.Inst x ∷ its)) (instances_behind (walk n k (x ∷ p)))
      (λ q w. in_first n p (items.Inst x) its q (behind_deeper (names_to p) x.name w.0 q w.2)) (deep (x ∷ p)))
      (each_map (IsIn n p its) (IsIn n p (items.Inst x ∷ its)) (of_items n k p its) (in_more n p (items.Inst x) its) (all_in n k p its deep)),
)

all_in_walk : (n : Netlist) (k : ℕ) (p : Instance) → Each (IsIn n p (cell_at n p).items) (instances_behind (walk n k p))
unfolding walk instances_behind
all_in_walk n zero p = tt
all_in_walk n (suc k) p = subst (Each (IsIn n p (cell_at n p).items)) (sym (items_instances n k p (cell_at n p).items)) (all_in n k p (cell_at n p).items (all_in_walk n k))

-- the instance of an item differs from those of other items
item_apart : (n : Netlist) (p : Instance) (x : InstCard) (its : List Item) (q r : Instance) → list_any (bytes_eq x.name) (map name_of_item its) ≡ false
    → IsBehind (names_to p) x.name q → IsIn n p its r → Different q r
item_apart n p x its q r free b w e =
    let name : x.name ≡ w.0 = same_item (names_to p) x.name w.0 q r b w.2 e in
    false≢true (sym free ∙ ap (λ a. list_any (bytes_eq a) (map name_of_item its)) name ∙ w.1)

apart_items : (n : Netlist) (k : ℕ) (p : Instance) (its : List Item) → has_twice (map name_of_item its) ≡ false → ((q : Instance) → AllApart (instances_behind (walk n k q))) → AllApart (of_items n k p its)
apart_items n k p [] free deep = tt
apart_items n k p (items.Device d ∷ its) free deep = apart_items n k p its (or_right_false (list_any (bytes_eq d.name) (map name_of_item its)) (has_twice (map name_of_item its)) free) deep
apart_items n k p (items.Inst x ∷ its) free deep =
    let here : list_any (bytes_eq x.name) (map name_of_item its) ≡ false = or_left_false (list_any (bytes_eq x.name) (map name_of_item its)) (has_twice (map name_of_item its)) free in
    let rest : has_twice (map name_of_item its) ≡ false = or_right_false (list_any (bytes_eq x.name) (map name_of_item its)) (has_twice (map name_of_item its)) free in
    let own : IsBehind (names_to p) x.name (x ∷ p) = record { front = []; split = refl } in
    let others : (q : Instance) → IsBehind (names_to p) x.name q → Each (Different q) (of_items n k p its) =
    λ q b. each_map (IsIn n p its) (Different q) (of_items n k p its) (λ r w. item_apart n p x its q r here b w) (all_in n k p its (all_in_walk n k)) in (
      each_append (Different (x ∷ p)) (instances_behind (walk n k (x ∷ p))) (of_items n k p its)
          (each_map (IsIn n (x ∷ p) (cell_at n (x ∷ p)).items) (Different (x ∷ p)) (instances_behind (walk n k (x ∷ p))) (λ q w e. longer (x ∷ p) q w.0 w.2 e) (all_in_walk n k (x ∷ p)))
          (others (x ∷ p) own),
      apart_append (instances_behind (walk n k (x ∷ p))) (of_items n k p its) (deep (x ∷ p)) (apart_items n k p its rest deep)
          (each_map (IsIn n (x ∷ p) (cell_at n (x ∷ p)).items) (λ q. Each (Different q) (of_items n k p its)) (instances_behind (walk n k (x ∷ p)))
          (λ q w. others q (behind_deeper (names_to p) x.name w.0 q w.2)) (all_in_walk n k (x ∷ p))),
    )
  where
    longer : (q r : Instance) (name : List ℕ) → IsBehind (names_to q) name r → Different q r
    longer q r name b e =
        let long : length (names_to q) ≡ length (b.front ++ name ∷ names_to q) = ap length (e ∙ b.split) in
        omega (arith, length-append b.front (name ∷ names_to q))

pub walk_apart : (n : Netlist) (k : ℕ) (p : Instance) → Levels n → AllApart (instances_behind (walk n k p))
unfolding walk instances_behind
walk_apart n zero p levels = tt
walk_apart n (suc k) p levels =
    subst AllApart (sym (items_instances n k p (cell_at n p).items)) (apart_items n k p (cell_at n p).items (levels p) (λ q. walk_apart n k q levels))
