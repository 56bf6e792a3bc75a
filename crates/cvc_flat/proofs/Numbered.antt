-- Pins numbered one by one.
use Rattle.std.proofs.Common.{◌≡◌, ℕ, suc, ◌+◌, ◌<◌, ◌≤◌, ◌==◌, ◌&&◌, ◌||◌, Bool, true, false, cond, not, List, [], ◌∷◌, ◌++◌, length, map, get_or, refl, sym, ap, subst, ◌∙◌, append_assoc, length-append, arith}
use Rattle.std.specs.Prelude.{All, if◌then◌else◌}
use Rattle.std.specs.List.{list_any, position_or_len}
use Rattle.std.proofs.lemmas.Bool.{eq-eqb, false≢true}
use Rattle.std.proofs.lemmas.List.{append-nil, length-map, map-append}
use Rattle.std.proofs.lemmas.List.Elements.{All-append}
use Rattle.cvc_base.specs.declared.ids.NetId.{NetId}
use Rattle.cvc_plan.specs.declared.cards.Plan.{Plan}
use Rattle.cvc_plan.specs.declared.rows.NetRow.{NetRow}
use Rattle.cvc_plan.specs.Nets.{Net, same_net}
use Rattle.cvc_plan.proofs.Lists.{all_head, all_one, all_tail}
use Rattle.cvc_flat.specs.declared.rows.InstanceRow.{InstanceRow}
use Rattle.cvc_flat.specs.Flat.{is_net_among, net_id, nets_once, number_of_net}
use Rattle.cvc_flat.specs.Making.{NumbersPins, known_nets}
use Rattle.cvc_names.specs.Names.{AreApart}
use Rattle.cvc_flat.specs.Resolving.{is_row}
use Rattle.cvc_flat.specs.Tables.{AreWaysApart, net_at, ways_of}
use Rattle.cvc_flat.proofs.Finding.{row_is}
use Rattle.cvc_flat.proofs.Numbering.{once_row}
use Rattle.cvc_flat.proofs.Once.{once_append}
use Rattle.cvc_flat.proofs.Pieces.{first_alike as first_same}

-- ## Places

any_true : {A : Type 0} (p : A → Bool) (xs : List A) → list_any p xs ≡ true → position_or_len p xs < length xs
any_true p [] e = absurd (false≢true e)
any_true p (x ∷ xs) e = by (p x) e (any_true p xs)
  where
    by : (b : Bool) → (b || list_any p xs) ≡ true → (list_any p xs ≡ true → position_or_len p xs < length xs) → cond (not b) (1 + position_or_len p xs) 0 < suc (length xs)
    by true g later = omega arith
    by false g later = let h = later g in omega (arith, h)

pub place_behind : {A : Type 0} (p : A → Bool) (a : A) (xs : List A) → p a ≡ true → position_or_len p (xs ++ a ∷ []) ≡ position_or_len p xs
place_behind p a [] is = ap (λ b. cond (not b) 1 0) is
place_behind p a (x ∷ xs) is = ap (λ n. cond (not (p x)) (1 + n) 0) (place_behind p a xs is)

pub at_most : {A : Type 0} (p : A → Bool) (xs : List A) → position_or_len p xs ≤ length xs
at_most p [] = omega arith
at_most p (x ∷ xs) = by (p x) (at_most p xs)
  where
    by : (b : Bool) → position_or_len p xs ≤ length xs → cond (not b) (1 + position_or_len p xs) 0 ≤ suc (length xs)
    by true g = omega arith
    by false g = omega arith

-- where a value stands once it is there
pub placed : {A : Type 0} (p : A → Bool) (a : A) (xs : List A) → p a ≡ true
    → (position_or_len p (if list_any p xs then xs else xs ++ a ∷ []) ≡ position_or_len p xs) × (position_or_len p xs < length (if list_any p xs then xs else xs ++ a ∷ []))
placed {A} p a xs is = by (list_any p xs) refl
  where
    by : (b : Bool) → list_any p xs ≡ b → (position_or_len p (if b then xs else xs ++ a ∷ []) ≡ position_or_len p xs) × (position_or_len p xs < length (if b then xs else xs ++ a ∷ []))
    by true e = (refl, any_true p xs e)
    by false e = (place_behind p a xs is, omega (arith, at_most p xs, length-append xs (a ∷ [])))

-- a place in the front is the place in the whole
pub front_place : {A : Type 0} (p : A → Bool) (xs ys : List A) → position_or_len p xs < length xs → position_or_len p (xs ++ ys) ≡ position_or_len p xs
front_place p [] ys h = absurd (omega arith)
front_place p (x ∷ xs) ys h = by (p x) h (front_place p xs ys)
  where
    by : (b : Bool) → cond (not b) (1 + position_or_len p xs) 0 < suc (length xs) → (position_or_len p xs < length xs → position_or_len p (xs ++ ys) ≡ position_or_len p xs)
        → cond (not b) (1 + position_or_len p (xs ++ ys)) 0 ≡ cond (not b) (1 + position_or_len p xs) 0
    by true g later = refl
    by false g later = ap (λ n. 1 + n) (later (omega arith))

-- the known nets stay in front
pub once_more : (known nets : List Net) → (more : List Net) × (nets_once known nets ≡ known ++ more)
unfolding nets_once
once_more known [] = ([], sym (append-nil known))
once_more known (net ∷ nets) = by (is_net_among known net) (once_more known nets) (once_more (known ++ net ∷ []) nets)
  where
    by : (b : Bool) → (more : List Net) × (nets_once known nets ≡ known ++ more) → (more : List Net) × (nets_once (known ++ net ∷ []) nets ≡ (known ++ net ∷ []) ++ more)
        → (more : List Net) × (nets_once (if b then known else known ++ net ∷ []) nets ≡ known ++ more)
    by true v w = v
    by false v w = (net ∷ w.0, w.1 ∙ append_assoc known (net ∷ []) w.0)

abbrev pub AllBelow : ℕ → List NetId → Type 0
AllBelow n ids = All (λ (i : NetId). i.0 < n) ids

pub below_more : (ids : List NetId) (m n : ℕ) → m ≤ n → AllBelow m ids → AllBelow n ids
below_more ids m n le h = λ k d b. let w = h k d b in omega (arith, w)

pub ids_stay : (known more nets : List Net) → AllBelow (length known) (map (net_id known) nets) → map (net_id (known ++ more)) nets ≡ map (net_id known) nets
ids_stay known more [] h = refl
ids_stay known more (net ∷ nets) h =
    let first = front_place (same_net net) known more (all_head (λ (i : NetId). i.0 < length known) (net_id known net) (map (net_id known) nets) h) in
    let rest = ids_stay known more nets (all_tail (λ (i : NetId). i.0 < length known) (net_id known net) (map (net_id known) nets) h) in
    λ i. record { 0 = first i } ∷ rest i

-- ## Rows

pub row_itself : (a : NetRow) → is_row a a ≡ true
row_itself a = by (a.instance == a.instance) (a.name == a.name) (eq-eqb a.instance a.instance refl) (eq-eqb a.name a.name refl)
  where
    by : (b c : Bool) → b ≡ true → c ≡ true → (b && c) ≡ true
    by true c e f = f
    by false c e f = e

module _ (p : Plan) (rows : List InstanceRow) (apart : AreApart p.cards.names) (ways : AreWaysApart p.cards.names p.cards.parts.items rows) where
  abbrev known : List NetRow → List Net
  known nets = known_nets p.cards rows nets

  abbrev net : NetRow → Net
  net r = net_at p.cards.names p.cards.parts.items (ways_of rows) r

  abbrev Inside : NetRow → Type 0
  Inside r = (r.instance ≤ length rows) × (r.name < length p.cards.names)

  -- the number of a row is the number of its net
  number_is : (nets : List NetRow) (a : NetRow) → Inside a → All Inside nets → number_of_net (known nets) (net a) ≡ position_or_len (is_row a) nets
  number_is nets a h all =
      first_same (same_net (net a)) net (is_row a) nets (λ k d b. row_is p.cards.names p.cards.parts.items rows apart ways a (get_or nets k d) h (all k d b))

  abbrev added : List NetRow → NetRow → List NetRow
  added nets a = if list_any (is_row a) nets then nets else nets ++ a ∷ []

  added_inside : (nets : List NetRow) (a : NetRow) → Inside a → All Inside nets → All Inside (added nets a)
  added_inside nets a h all = by (list_any (is_row a) nets)
    where
      by : (b : Bool) → All Inside (if b then nets else nets ++ a ∷ [])
      by true = all
      by false = All-append Inside nets (a ∷ []) all (all_one Inside a h)

  added_length : (nets : List NetRow) (a : NetRow) → length nets ≤ length (added nets a)
  added_length nets a = by (list_any (is_row a) nets)
    where
      by : (b : Bool) → length nets ≤ length (if b then nets else nets ++ a ∷ [])
      by true = omega arith
      by false = omega (arith, length-append nets (a ∷ []))

  pub pins_none : (nets : List NetRow) → All Inside nets → NumbersPins p rows nets nets [] []
  unfolding nets_once
  pins_none nets all = record { known = refl; within = all; numbers = refl; inside = λ k d b. absurd (omega arith) }

  -- one more pin
  pub pins_more : (old nets new : List NetRow) (done : List Net) (next : Net) (pins more : List NetId) (a : NetRow) (place : ℕ) (pin : NetId)
      → NumbersPins p rows old nets done pins → Inside a → net a ≡ next → new ≡ added nets a → place ≡ position_or_len (is_row a) nets → pin ≡ record { 0 = place } → more ≡ pins ++ pin ∷ []
      → NumbersPins p rows old new (done ++ next ∷ []) more
  pins_more old nets new done next pins more a place pin w h e is at number behind =
      let all : All Inside (added nets a) = added_inside nets a h w.within in
      let one : nets_once (known nets) (next ∷ []) ≡ known (added nets a) = ap (λ x. nets_once (known nets) (x ∷ [])) (sym e) ∙ once_row p.cards.names p.cards.parts.items rows apart ways nets a h w.within in
      let grown = once_more (known nets) (next ∷ []) in
      let front : known (added nets a) ≡ known nets ++ grown.0 = sym one ∙ grown.1 in
      let there = placed (is_row a) a nets (row_itself a) in
      let first : map (net_id (known (added nets a))) done ≡ pins =
      ap (λ k. map (net_id k) done) front
      ∙ ids_stay (known nets) grown.0 done (subst (AllBelow (length (known nets))) w.numbers (subst (λ n. AllBelow n pins) (sym (length-map nets net)) w.inside))
      ∙ sym w.numbers in
      let last : net_id (known (added nets a)) next ≡ pin =
      ap (net_id (known (added nets a))) (sym e) ∙ (λ i. record { 0 = number_is (added nets a) a h all i }) ∙ (λ i. record { 0 = (there.0 ∙ sym at) i }) ∙ sym number in
      let longer : length nets ≤ length new = omega (arith, ap length is, added_length nets a) in
      let last_inside : pin.0 < length new = omega (arith, ap length is, there.1, at, ap (λ (i : NetId). i.0) number) in
      record {
        known = ap known is ∙ sym one ∙ ap (λ l. nets_once l (next ∷ [])) w.known ∙ sym (once_append (known old) done (next ∷ []));
        within = subst (All Inside) (sym is) all;
        numbers = behind ∙ sym (map-append (net_id (known (added nets a))) done (next ∷ []) ∙ (λ i. first i ++ last i ∷ [])) ∙ ap (λ l. map (net_id (known l)) (done ++ next ∷ [])) (sym is);
        inside = subst (AllBelow (length new)) (sym behind) (All-append (λ (i : NetId). i.0 < length new) pins (pin ∷ []) (below_more pins (length nets) (length new) longer w.inside) (all_one (λ (i : NetId). i.0 < length new) pin last_inside));
      }
