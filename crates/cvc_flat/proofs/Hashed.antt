-- The hashes of printed names, and what is found by them.
use Rattle.std.proofs.Common.{◌≡◌, ℕ, ◌+◌, ◌%◌, ◌*◌, ◌^◌, ◌<◌, ◌≤◌, ◌==◌, Bool, true, false, cond, List, [], ◌∷◌, ◌++◌, length, map, get_or, take, refl, sym, ap, ◌∙◌, arith}
use Rattle.std.specs.Prelude.{Option, Some, None, bit_xor, codes, nat_lt, position}
use Rattle.std.specs.List.{position_or_len}
use Rattle.std.specs.Str.{bytes_eq}
use Rattle.std.specs.Cmp.Lexicographic.{bytes_decides}
use Rattle.std.proofs.lemmas.Bool.{and_parts, eqb-true, false≢true, false_from_ne_true, le-ltb, lt-ltb}
use Rattle.std.proofs.lemmas.List.{get_or-map, length-map, length-take-le, map-append, take_more}
use Rattle.std.proofs.lemmas.List.Sums.{position_or_len_is}
use Rattle.cvc_cdl.specs.Instances.{printed}
use Rattle.cvc_plan.specs.declared.rows.InstancePart.{InstancePart}
use Rattle.cvc_plan.specs.declared.rows.NetRow.{NetRow}
use Rattle.cvc_plan.specs.Nets.{name_of_link}
use Rattle.cvc_plan.specs.Parts.{link_at, text}
use Rattle.cvc_plan.proofs.Parts.{link_is}
use Rattle.cvc_flat.specs.declared.rows.InstanceRow.{InstanceRow}
use Rattle.cvc_flat.specs.Finder.{net_hash, way_hash}
use Rattle.cvc_flat.specs.FindNet.{printed_net}
use Rattle.cvc_flat.specs.Hashes.{IsFound, empty_hash, hash_at, hash_of, hash_on}
use Rattle.cvc_flat.specs.Resolving.{ChildOf, IsChild, is_row}
use Rattle.cvc_flat.specs.Tables.{IsTree, Way, names_on, net_at, no_row, way_at, way_in, ways_from, ways_of}
use Rattle.cvc_flat.proofs.Naming.{child_names}
use Rattle.cvc_flat.proofs.Stripping.{front_more, printed_split}
use Rattle.cvc_flat.proofs.Ways.{length_ways, ways_append}

-- ## Hashes

hash_append : (front : ℕ) (xs ys : List ℕ) → hash_on front (xs ++ ys) ≡ hash_on (hash_on front xs) ys
unfolding hash_on
hash_append front [] ys = refl
hash_append front (x ∷ xs) ys = hash_append ((bit_xor front x * 16777619) % 2 ^ 32) xs ys

pub way_first : (names : List (List ℕ)) (parts : List InstancePart) → empty_hash ∷ [] ≡ map (way_hash names parts) (ways_of [])
unfolding hash_on way_hash ways_of ways_from
way_first names parts = refl

pub way_deeper : (names : List (List ℕ)) (parts : List InstancePart) (own : List ℕ) (card : ℕ) (up : Way) → name_of_link (link_at names parts card) ≡ own
    → hash_on (hash_on (way_hash names parts up) own) (codes "/") ≡ way_hash names parts (card ∷ up)
unfolding way_hash
way_deeper names parts own card up named =
    let on : List (List ℕ) = names_on names parts up in
    sym (ap (λ (name : List ℕ). hash_of (printed (name ∷ on) [])) named ∙ ap hash_of (front_more own on) ∙ hash_append empty_hash (printed on [] ++ own) (codes "/")
    ∙ ap (λ (h : ℕ). hash_on h (codes "/")) (hash_append empty_hash (printed on []) own))

pub net_below : (names : List (List ℕ)) (parts : List InstancePart) (rows : List InstanceRow) (r : NetRow)
    → hash_on (way_hash names parts (way_at (ways_of rows) r.instance)) (text names r.name) ≡ net_hash names parts rows r
unfolding way_hash net_hash
net_below names parts rows r =
    let on : List (List ℕ) = names_on names parts (way_at (ways_of rows) r.instance) in
    sym (ap hash_of (printed_split on (text names r.name)) ∙ hash_append empty_hash (printed on []) (text names r.name))

-- a net that is printed so has the hash of the text
pub printed_hash : (names : List (List ℕ)) (parts : List InstancePart) (rows : List InstanceRow) (t : List ℕ) (r : NetRow) → bytes_eq t (printed_net (net_at names parts (ways_of rows) r)) ≡ true
    → net_hash names parts rows r ≡ hash_of t
unfolding net_hash
printed_hash names parts rows t r same = ap hash_of (sym ((bytes_decides t (printed_net (net_at names parts (ways_of rows) r))).0 same))

pub row_same : (a b : NetRow) → is_row a b ≡ true → a ≡ b
row_same a b same =
    let both = and_parts (a.instance == b.instance) (a.name == b.name) same in
    let one : a.instance ≡ b.instance = eqb-true a.instance b.instance both.0 in
    let two : a.name ≡ b.name = eqb-true a.name b.name both.1 in
    λ i. record { instance = one i; name = two i }

pub row_hash : (names : List (List ℕ)) (parts : List InstancePart) (rows : List InstanceRow) (a b : NetRow) → is_row a b ≡ true → net_hash names parts rows b ≡ net_hash names parts rows a
row_hash names parts rows a b same = ap (net_hash names parts rows) (sym (row_same a b same))

-- ## Row by row

abbrev pub no_net : NetRow
no_net = record { instance = 0; name = 0 }

pub count_ways : (rows : List InstanceRow) → length (ways_of rows) ≡ 1 + length rows
unfolding ways_of
count_ways rows = length_ways ([] ∷ []) rows

ways_more : (rows : List InstanceRow) (k : ℕ) → k < length rows → ways_of (take (k + 1) rows) ≡ ways_of (take k rows) ++ way_in (ways_of (take k rows)) (get_or rows k no_row) ∷ []
unfolding ways_of ways_from
ways_more rows k inside = ap ways_of (take_more rows k no_row inside) ∙ ways_append ([] ∷ []) (take k rows) (get_or rows k no_row ∷ [])

pub way_read : (names : List (List ℕ)) (parts : List InstancePart) (rows : List InstanceRow) (hashes : List ℕ) (i : ℕ) → hashes ≡ map (way_hash names parts) (ways_of rows) → i ≤ length rows
    → get_or hashes i 0 ≡ way_hash names parts (way_at (ways_of rows) i)
way_read names parts rows hashes i is inside =
    ap (λ (l : List ℕ). get_or l i 0) is ∙ get_or-map (way_hash names parts) (ways_of rows) i [] 0 (omega (arith, count_ways rows))

pub hashes_more : (names : List (List ℕ)) (parts : List InstancePart) (rows : List InstanceRow) (k : ℕ) (row : InstanceRow) (part : InstancePart) (hashes : List ℕ) (own last : ℕ)
    → k < length rows → row ≡ get_or rows k no_row → row.parent ≤ k → row.card < length parts → part ≡ get_or parts row.card part
    → own ≡ hash_on (get_or hashes row.parent 0) (text names part.name) → last ≡ hash_on own (codes "/")
    → hashes ≡ map (way_hash names parts) (ways_of (take k rows)) → hashes ++ last ∷ [] ≡ map (way_hash names parts) (ways_of (take (k + 1) rows))
hashes_more names parts rows k row part hashes own last inside at above card is own_is last_is before =
    let so_far : List InstanceRow = take k rows in
    let up : Way = way_at (ways_of so_far) row.parent in
    let parent : get_or hashes row.parent 0 ≡ way_hash names parts up = way_read names parts so_far hashes row.parent before (omega (arith, above, length-take-le k rows (omega arith))) in
    let here : last ≡ way_hash names parts (row.card ∷ up) =
    last_is ∙ ap (λ (h : ℕ). hash_on h (codes "/")) (own_is ∙ ap (λ (h : ℕ). hash_on h (text names part.name)) parent)
    ∙ way_deeper names parts (text names part.name) row.card up (ap name_of_link (link_is names parts row.card part card is)) in
    ap (λ (l : List ℕ). l ++ last ∷ []) before
    ∙ ap (λ (h : ℕ). map (way_hash names parts) (ways_of so_far) ++ h ∷ []) here
    ∙ ap (λ (r : InstanceRow). map (way_hash names parts) (ways_of so_far) ++ way_hash names parts (way_in (ways_of so_far) r) ∷ []) at
    ∙ sym (ap (map (way_hash names parts)) (ways_more rows k inside) ∙ map-append (way_hash names parts) (ways_of so_far) (way_in (ways_of so_far) (get_or rows k no_row) ∷ []))

pub net_hash_is : (names : List (List ℕ)) (parts : List InstancePart) (rows : List InstanceRow) (r : NetRow) (hashes : List ℕ) (hash : ℕ) → r.instance ≤ length rows
    → hashes ≡ map (way_hash names parts) (ways_of rows) → hash ≡ hash_on (get_or hashes r.instance 0) (text names r.name) → hash ≡ net_hash names parts rows r
net_hash_is names parts rows r hashes hash inside is at =
    at ∙ ap (λ (h : ℕ). hash_on h (text names r.name)) (way_read names parts rows hashes r.instance is inside) ∙ net_below names parts rows r

-- ## The first that passes

first_passing : {A : Type 0} (p : A → Bool) (xs : List A) (k : ℕ) (d : A) → k < length xs → ((j : ℕ) → j < k → p (get_or xs j d) ≡ false) → p (get_or xs k d) ≡ true → position p xs ≡ Some k
first_passing p xs k d inside before here =
    let at : position_or_len p xs ≡ k = position_or_len_is p xs k d (omega arith) before (λ _. here) in
    ap (λ n. cond (nat_lt n (length xs)) (Some n) None) at ∙ ap (λ (b : Bool). cond b (Some k) None) (lt-ltb k (length xs) inside)

none_passing : {A : Type 0} (p : A → Bool) (xs : List A) (d : A) → ((j : ℕ) → j < length xs → p (get_or xs j d) ≡ false) → position p xs ≡ None
none_passing p xs d before =
    let at : position_or_len p xs ≡ length xs = position_or_len_is p xs (length xs) d (omega arith) before (λ h. absurd (omega arith)) in
    ap (λ n. cond (nat_lt n (length xs)) (Some n) None) at ∙ ap (λ (b : Bool). cond b (Some (length xs)) None) (le-ltb (length xs) (length xs) (omega arith))

-- where what passes has the hash, and an item's test says whether it passes
pub found_first : {A : Type 0} (p : A → Bool) (hashed : A → ℕ) (xs : List A) (d : A) (hashes : List ℕ) (hash : ℕ) (Passes : ℕ → Bool → Type 0) (found : Option ℕ) → hashes ≡ map hashed xs
    → ((x : A) → p x ≡ true → hashed x ≡ hash) → ((j : ℕ) (b : Bool) → j < length xs → Passes j b → b ≡ p (get_or xs j d)) → IsFound hashes hash Passes found → found ≡ position p xs
found_first {A} p hashed xs d hashes hash Passes found is has says h = by found h
  where
    count : length hashes ≡ length xs
    count = ap length is ∙ length-map xs hashed

    fails : (j : ℕ) → j < length xs → (hash_at hashes j ≡ hash → Passes j false) → p (get_or xs j d) ≡ false
    fails j inside none = false_from_ne_true (p (get_or xs j d)) (λ passed.
        false≢true (says j false inside (none (ap (λ (l : List ℕ). get_or l j 0) is ∙ get_or-map hashed xs j d 0 inside ∙ has (get_or xs j d) passed)) ∙ passed))

    by : (o : Option ℕ) → IsFound hashes hash Passes o → o ≡ position p xs
    by None none = sym (none_passing p xs d (λ j inside. fails j inside (none.before j (omega (arith, count)))))
    by (Some k) first =
        let inside : k < length xs = omega (arith, first.inside, count) in
        sym (first_passing p xs k d inside (λ j below. fails j (omega (arith, below, inside)) (first.before j below)) (sym (says k true inside first.passes)))

-- ## Instances

pub found_child : (names : List (List ℕ)) (parts : List InstancePart) (rows : List InstanceRow) (up : ℕ) (name : List ℕ) (hashes : List ℕ) (own hash : ℕ) (Passes : ℕ → Bool → Type 0) (found : Option ℕ)
    → IsTree rows → hashes ≡ map (way_hash names parts) (ways_of rows) → up ≤ length rows → own ≡ hash_on (get_or hashes up 0) name → hash ≡ hash_on own (codes "/")
    → ((i : ℕ) (b : Bool) → i ≤ length rows → Passes i b → (b ≡ true → IsChild names parts rows up name i) × (IsChild names parts rows up name i → b ≡ true))
    → IsFound hashes hash Passes found → ChildOf names parts rows up name found
unfolding way_hash
found_child names parts rows up name hashes own hash Passes found tree is above own_is hash_is says h = by found h
  where
    count : length hashes ≡ 1 + length rows
    count = ap length is ∙ length-map (ways_of rows) (way_hash names parts) ∙ count_ways rows

    on : ℕ → List (List ℕ)
    on i = names_on names parts (way_at (ways_of rows) i)

    child_hash : (i : ℕ) → IsChild names parts rows up name i → hash_at hashes i ≡ hash
    child_hash i child =
        way_read names parts rows hashes i is child.inside
        ∙ ap (λ (ns : List (List ℕ)). hash_of (printed ns [])) (child_names names parts rows tree up i name child)
        ∙ ap hash_of (front_more name (on up)) ∙ hash_append empty_hash (printed (on up) [] ++ name) (codes "/") ∙ ap (λ (n : ℕ). hash_on n (codes "/")) (hash_append empty_hash (printed (on up) []) name)
        ∙ sym (hash_is ∙ ap (λ (n : ℕ). hash_on n (codes "/")) (own_is ∙ ap (λ (n : ℕ). hash_on n name) (way_read names parts rows hashes up is above)))

    by : (o : Option ℕ) → IsFound hashes hash Passes o → ChildOf names parts rows up name o
    by None none = λ i child. false≢true ((says i false child.inside (none.before i (omega (arith, count, child.inside)) (child_hash i child))).1 child)
    by (Some k) first = (says k true (omega (arith, first.inside, count)) first.passes).0 refl
