-- A text as it is followed from place to place. A chain that comes to a place twice never ends; and one that goes on for more steps than there are
-- pairs above comes to a place twice. So a text has no last one exactly where a place comes twice.
use Rattle.std.proofs.Common.{◌≡◌, ℕ, zero, suc, ◌+◌, ◌-◌, ◌<◌, ◌==◌, Bool, true, false, cond, List, [], ◌∷◌, ◌++◌, length, drop, refl, sym, ap, subst, ◌∙◌, inl, inr, length-append, append_assoc, arith}
use Rattle.std.specs.Prelude.{Option, Some, None, is_none, is_some}
use Rattle.std.specs.List.{list_any}
use Rattle.std.specs.Option.{option_map_or, option_or}
use Rattle.std.specs.Str.{str_to_ascii_lowercase}
use Rattle.std.proofs.lemmas.Bool.{false≢true, or_cases}
use Rattle.std.proofs.lemmas.List.{drop_at, length-map}
use Rattle.std.proofs.lemmas.Option.{none-some, same_Some}
use Rattle.cvc_base.specs.declared.param.Pair.{Pair}
use Rattle.cvc_card.specs.declared.card.InstCard.{InstCard}
use Rattle.cvc_card.specs.Words.{is_number}
use Rattle.cvc_cdl.specs.declared.netlist.Netlist.{Netlist}
use Rattle.cvc_cdl.specs.Instances.{Instance, cell_at, names_to}
use Rattle.cvc_params.specs.Params.{Scope, Inside, Main, Use, given_in, last_text, next, on_card, pairs_above, seen_from}
use Rattle.cvc_params.specs.Places.{Place, has_place_twice, place_at, place_from, places, same_place}
use Rattle.cvc_params.proofs.Each.{Each}
use Rattle.cvc_params.proofs.Following.{last_more}
use Rattle.cvc_params.proofs.Givens.{Among, among_left, among_right, card_lower, given_lower, given_place, given_scope, places_of}
use Rattle.cvc_params.proofs.Pigeons.{many_places, place_true}

-- ## One step

pub last_after : (n : Netlist) (k : ℕ) (u v : Use) → next n u ≡ Some v → last_text n (suc k) u ≡ last_text n k v
unfolding last_text
last_after n k u v e = ap (λ o. option_map_or (last_text n k) o (Some u.text)) e

pub last_here : (n : Netlist) (k : ℕ) (u : Use) → next n u ≡ None → last_text n (suc k) u ≡ Some u.text
unfolding last_text
last_here n k u e = ap (λ o. option_map_or (last_text n k) o (Some u.text)) e

pub last_never : (n : Netlist) (u : Use) → last_text n zero u ≡ None
unfolding last_text
last_never n u = refl

places_after : (n : Netlist) (k : ℕ) (u v : Use) → next n u ≡ Some v → places n (suc k) u ≡ place_from n u.scope u.text ∷ places n k v
unfolding places
places_after n k u v e = ap (λ o. option_map_or (λ (w : Use). place_from n u.scope u.text ∷ places n k w) o []) e

places_here : (n : Netlist) (k : ℕ) (u : Use) → next n u ≡ None → places n (suc k) u ≡ []
unfolding places
places_here n k u e = ap (λ o. option_map_or (λ (w : Use). place_from n u.scope u.text ∷ places n k w) o []) e

places_none : (n : Netlist) (u : Use) → places n zero u ≡ []
unfolding places
places_none n u = refl

pub next_seen : (n : Netlist) (u v : Use) → next n u ≡ Some v → seen_from n u.scope u.text ≡ Some v
next_seen n u v e = by (is_number u.text) e
  where
    by : (b : Bool) → cond b None (seen_from n u.scope u.text) ≡ Some v → seen_from n u.scope u.text ≡ Some v
    by true e = absurd (none-some v e)
    by false e = e

-- a chain that has not ended has a place for each step
full_length : (n : Netlist) (k : ℕ) (u : Use) → last_text n k u ≡ None → length (places n k u) ≡ k
full_length n zero u e = ap length (places_none n u)
full_length n (suc k) u e = by (next n u) refl (full_length n k)
  where
    by : (o : Option Use) → next n u ≡ o → ((v : Use) → last_text n k v ≡ None → length (places n k v) ≡ k) → length (places n (suc k) u) ≡ suc k
    by None q rest = absurd (none-some u.text (sym e ∙ last_here n k u q))
    by (Some v) q rest = ap length (places_after n k u v q) ∙ ap suc (rest v (sym (last_after n k u v q) ∙ e))

-- ## Where a text is resolved

-- it lies on the way to the instance
pub record IsUp (p q : Instance) : Type 0 where
  pub front : Instance
  pub split : p ≡ front ++ q

-- the main level, or on the way to the instance
abbrev pub Sees : Instance → Scope → Type 0
Sees p Main = Unit {0}
Sees p (Inside q) = IsUp p q

pub sees_itself : (p : Instance) → Sees p (Inside p)
sees_itself p = record { front = []; split = refl }

pub sees_above : (p : Instance) (x : InstCard) (up : Instance) → Sees p (Inside (x ∷ up)) → Sees p (Inside up)
sees_above p x up h = record { front = h.front ++ x ∷ []; split = h.split ∙ sym (append_assoc h.front (x ∷ []) up) }

sees_same : (p : Instance) (s t : Scope) → s ≡ t → Sees p t → Sees p s
sees_same p s t e h = subst (Sees p) (sym e) h

sees_card : (n : Netlist) (p q : Instance) (name : List ℕ) (v : Use) → on_card q name ≡ Some v → Sees p (Inside q) → Sees p v.scope
sees_card n p [] name v e h = absurd (none-some v e)
sees_card n p (x ∷ up) name v e h = sees_same p v.scope (Inside up) (given_scope (Inside up) x.pairs name v e) (sees_above p x up h)

seen_within : (n : Netlist) (p : Instance) (s : Scope) (name : List ℕ) (v : Use) → seen_from n s name ≡ Some v → Sees p s → Sees p v.scope
seen_within n p Main name v e h = sees_same p v.scope Main (given_scope Main n.params name v e) tt
seen_within n p (Inside q) name v e h = by (on_card q name) refl (given_in (Inside q) (cell_at n q).pairs name) refl e
  where
    by : (a : Option Use) → on_card q name ≡ a → (b : Option Use) → given_in (Inside q) (cell_at n q).pairs name ≡ b
        → option_or a (option_or b (given_in Main n.params name)) ≡ Some v → Sees p v.scope
    by (Some w) c b d e = sees_card n p q name v (c ∙ e) h
    by None c (Some w) d e = sees_same p v.scope (Inside q) (given_scope (Inside q) (cell_at n q).pairs name v (d ∙ e)) h
    by None c None d e = sees_same p v.scope Main (given_scope Main n.params name v e) tt

pub next_within : (n : Netlist) (p : Instance) (u v : Use) → next n u ≡ Some v → Sees p u.scope → Sees p v.scope
next_within n p u v e h = seen_within n p u.scope u.text v (next_seen n u v e) h

-- ## The places that can be passed

all_places : Netlist → Instance → List Place
all_places n [] = places_of [] 2 (cell_at n []).pairs ++ places_of [] 3 n.params
all_places n (x ∷ up) = places_of (names_to (x ∷ up)) 1 x.pairs ++ places_of (names_to (x ∷ up)) 2 (cell_at n (x ∷ up)).pairs ++ all_places n up

of_length : (within : List (List ℕ)) (list : ℕ) (pairs : List Pair) → length (places_of within list pairs) ≡ length pairs
of_length within list pairs = length-map pairs (λ (p : Pair). place_at within list p.name)

all_length : (n : Netlist) (p : Instance) → length (all_places n p) ≡ pairs_above n p
unfolding all_places
all_length n [] =
    length-append (places_of [] 2 (cell_at n []).pairs) (places_of [] 3 n.params)
    ∙ (λ i. of_length [] 2 (cell_at n []).pairs i + of_length [] 3 n.params i)
all_length n (x ∷ up) =
    let own = places_of (names_to (x ∷ up)) 1 x.pairs in
    let cell = places_of (names_to (x ∷ up)) 2 (cell_at n (x ∷ up)).pairs in
    let rest = all_length n up in
    length-append (own ++ cell) (all_places n up)
    ∙ ap (λ k. k + length (all_places n up)) (length-append own cell ∙ (λ i. of_length (names_to (x ∷ up)) 1 x.pairs i + of_length (names_to (x ∷ up)) 2 (cell_at n (x ∷ up)).pairs i))
    ∙ ap (λ k. length x.pairs + length (cell_at n (x ∷ up)).pairs + k) rest

among_main : (n : Netlist) (p : Instance) (place : Place) → Among place (places_of [] 3 n.params) → Among place (all_places n p)
unfolding all_places
among_main n [] place h = among_right place (places_of [] 2 (cell_at n []).pairs) (places_of [] 3 n.params) h
among_main n (x ∷ up) place h =
    among_right place (places_of (names_to (x ∷ up)) 1 x.pairs ++ places_of (names_to (x ∷ up)) 2 (cell_at n (x ∷ up)).pairs) (all_places n up) (among_main n up place h)

among_cell : (n : Netlist) (p : Instance) (place : Place) → Among place (places_of (names_to p) 2 (cell_at n p).pairs) → Among place (all_places n p)
unfolding all_places
among_cell n [] place h = among_left place (places_of [] 2 (cell_at n []).pairs) (places_of [] 3 n.params) h
among_cell n (x ∷ up) place h =
    let own = places_of (names_to (x ∷ up)) 1 x.pairs in
    let cell = places_of (names_to (x ∷ up)) 2 (cell_at n (x ∷ up)).pairs in
    among_left place (own ++ cell) (all_places n up) (among_right place own cell h)

among_card : (n : Netlist) (x : InstCard) (up : Instance) (place : Place) → Among place (places_of (names_to (x ∷ up)) 1 x.pairs) → Among place (all_places n (x ∷ up))
unfolding all_places
among_card n x up place h =
    let own = places_of (names_to (x ∷ up)) 1 x.pairs in
    let cell = places_of (names_to (x ∷ up)) 2 (cell_at n (x ∷ up)).pairs in
    among_left place (own ++ cell) (all_places n up) (among_left place own cell h)

among_up : (n : Netlist) (front q : Instance) (place : Place) → Among place (all_places n q) → Among place (all_places n (front ++ q))
unfolding all_places
among_up n [] q place h = h
among_up n (x ∷ front) q place h =
    let up = front ++ q in
    among_right place (places_of (names_to (x ∷ up)) 1 x.pairs ++ places_of (names_to (x ∷ up)) 2 (cell_at n (x ∷ up)).pairs) (all_places n up) (among_up n front q place h)

among_seen : (n : Netlist) (p q : Instance) (place : Place) → Sees p (Inside q) → Among place (all_places n q) → Among place (all_places n p)
among_seen n p q place h a = subst (λ r. Among place (all_places n r)) (sym h.split) (among_up n h.front q place a)

card_among : (n : Netlist) (q : Instance) (name : List ℕ) (v : Use) → on_card q name ≡ Some v → Among (place_at (names_to q) 1 name) (all_places n q)
card_among n [] name v e = absurd (none-some v e)
card_among n (x ∷ up) name v e =
    among_card n x up (place_at (names_to (x ∷ up)) 1 name) (given_place (Inside up) (names_to (x ∷ up)) 1 x.pairs name v e)

seen_among : (n : Netlist) (p : Instance) (s : Scope) (name : List ℕ) (v : Use) → seen_from n s name ≡ Some v → Sees p s → Among (place_from n s name) (all_places n p)
seen_among n p Main name v e h = among_main n p (place_at [] 3 name) (given_place Main [] 3 n.params name v e)
seen_among n p (Inside q) name v e h = by (on_card q name) refl (given_in (Inside q) (cell_at n q).pairs name) refl e
  where
    by : (a : Option Use) → on_card q name ≡ a → (b : Option Use) → given_in (Inside q) (cell_at n q).pairs name ≡ b
        → option_or a (option_or b (given_in Main n.params name)) ≡ Some v
        → Among (cond (is_some a) (place_at (names_to q) 1 name) (cond (is_some b) (place_at (names_to q) 2 name) (place_at [] 3 name))) (all_places n p)
    by (Some w) c b d e = among_seen n p q (place_at (names_to q) 1 name) h (card_among n q name w c)
    by None c (Some w) d e =
        among_seen n p q (place_at (names_to q) 2 name) h
        (among_cell n q (place_at (names_to q) 2 name) (given_place (Inside q) (names_to q) 2 (cell_at n q).pairs name w d))
    by None c None d e = among_main n p (place_at [] 3 name) (given_place Main [] 3 n.params name v e)

all_among : (n : Netlist) (p : Instance) (k : ℕ) (u : Use) → Sees p u.scope → Each (λ place. Among place (all_places n p)) (places n k u)
all_among n p zero u h = subst (Each (λ place. Among place (all_places n p))) (sym (places_none n u)) tt
all_among n p (suc k) u h = by (next n u) refl (all_among n p k)
  where
    by : (o : Option Use) → next n u ≡ o → ((v : Use) → Sees p v.scope → Each (λ place. Among place (all_places n p)) (places n k v))
        → Each (λ place. Among place (all_places n p)) (places n (suc k) u)
    by None q rest = subst (Each (λ place. Among place (all_places n p))) (sym (places_here n k u q)) tt
    by (Some v) q rest =
        subst (Each (λ place. Among place (all_places n p))) (sym (places_after n k u v q))
        (seen_among n p u.scope u.text v (next_seen n u v q) h, rest v (next_within n p u v q h))

-- a chain without an end comes to a place twice
pub endless_twice : (n : Netlist) (p : Instance) (u : Use) → Sees p u.scope → last_text n (suc (pairs_above n p)) u ≡ None
    → has_place_twice (places n (suc (pairs_above n p)) u) ≡ true
endless_twice n p u h e =
    many_places (places n (suc (pairs_above n p)) u) (all_places n p) (all_among n p (suc (pairs_above n p)) u h)
    (omega (arith, all_length n p, full_length n (suc (pairs_above n p)) u e))

-- ## A place that comes twice

up_at : Instance → ℕ → Instance
up_at p k = drop (length p - k) p

up_is : (p q : Instance) → Sees p (Inside q) → up_at p (length (names_to q)) ≡ q
unfolding up_at
up_is p q h =
    let front = h.front in
    let long : length p - length (names_to q) ≡ length front =
    omega (arith, ap length h.split, length-append front q, length-map q (λ (x : InstCard). x.name)) in
    (λ i. drop (long i) (h.split i)) ∙ drop_at front q (length front) refl

-- what a place leads to
abbrev led_to : Netlist → Bool → Bool → Instance → List ℕ → Option Use
led_to n main card q name = cond main (given_in Main n.params name) (cond card (on_card q name) (given_in (Inside q) (cell_at n q).pairs name))

use_at : Netlist → Instance → Place → Option Use
use_at n p place = led_to n (place.list == 3) (place.list == 1) (up_at p (length place.within)) place.name

use_main : (n : Netlist) (p : Instance) (name : List ℕ) → use_at n p (place_at [] 3 name) ≡ given_in Main n.params name
unfolding use_at
use_main n p name = given_lower Main n.params name

use_card : (n : Netlist) (p q : Instance) (name : List ℕ) → Sees p (Inside q) → use_at n p (place_at (names_to q) 1 name) ≡ on_card q name
unfolding use_at
use_card n p q name h = ap (λ r. on_card r (str_to_ascii_lowercase name)) (up_is p q h) ∙ card_lower q name

use_cell : (n : Netlist) (p q : Instance) (name : List ℕ) → Sees p (Inside q) → use_at n p (place_at (names_to q) 2 name) ≡ given_in (Inside q) (cell_at n q).pairs name
unfolding use_at
use_cell n p q name h =
    ap (λ r. given_in (Inside r) (cell_at n r).pairs (str_to_ascii_lowercase name)) (up_is p q h) ∙ given_lower (Inside q) (cell_at n q).pairs name

seen_at : (n : Netlist) (p : Instance) (s : Scope) (name : List ℕ) (v : Use) → seen_from n s name ≡ Some v → Sees p s → use_at n p (place_from n s name) ≡ Some v
seen_at n p Main name v e h = use_main n p name ∙ e
seen_at n p (Inside q) name v e h = by (on_card q name) refl (given_in (Inside q) (cell_at n q).pairs name) refl e
  where
    by : (a : Option Use) → on_card q name ≡ a → (b : Option Use) → given_in (Inside q) (cell_at n q).pairs name ≡ b
        → option_or a (option_or b (given_in Main n.params name)) ≡ Some v
        → use_at n p (cond (is_some a) (place_at (names_to q) 1 name) (cond (is_some b) (place_at (names_to q) 2 name) (place_at [] 3 name))) ≡ Some v
    by (Some w) c b d e = use_card n p q name h ∙ c ∙ e
    by None c (Some w) d e = use_cell n p q name h ∙ d ∙ e
    by None c None d e = use_main n p name ∙ e

next_at : (n : Netlist) (p : Instance) (u v : Use) → next n u ≡ Some v → Sees p u.scope → use_at n p (place_from n u.scope u.text) ≡ Some v
next_at n p u v e h = seen_at n p u.scope u.text v (next_seen n u v e) h

-- it ends in fewer steps
record EndsBefore (n : Netlist) (k : ℕ) (u : Use) (t : List ℕ) : Type 0 where
  pub steps : ℕ
  pub fewer : steps < k
  pub ends : last_text n steps u ≡ Some t

-- where a place is met again behind it, the chain behind it ends in fewer steps
met_again : (n : Netlist) (p : Instance) (place : Place) (z : Use) (t : List ℕ) → use_at n p place ≡ Some z
    → (k : ℕ) (v : Use) (steps : ℕ) → Sees p v.scope → list_any (same_place place) (places n k v) ≡ true → last_text n steps v ≡ Some t → EndsBefore n steps z t
met_again n p place z t is zero v steps h again ends = absurd (false≢true (sym (ap (list_any (same_place place)) (places_none n v)) ∙ again))
met_again n p place z t is (suc k) v zero h again ends = absurd (none-some t (sym (last_never n v) ∙ ends))
met_again n p place z t is (suc k) v (suc steps) h again ends = by (next n v) refl (met_again n p place z t is k)
  where
    by : (o : Option Use) → next n v ≡ o
        → ((w : Use) (m : ℕ) → Sees p w.scope → list_any (same_place place) (places n k w) ≡ true → last_text n m w ≡ Some t → EndsBefore n m z t)
        → EndsBefore n (suc steps) z t
    by None q rest = absurd (false≢true (sym (ap (list_any (same_place place)) (places_here n k v q)) ∙ again))
    by (Some w) q rest =
        let after : last_text n steps w ≡ Some t = sym (last_after n steps v w q) ∙ ends in
        elim (or_cases (same_place place (place_from n v.scope v.text)) (list_any (same_place place) (places n k w))
        (sym (ap (list_any (same_place place)) (places_after n k v w q)) ∙ again)) [
          | inl same ↦
              let one : w ≡ z = same_Some w z (sym (next_at n p v w q h) ∙ ap (use_at n p) (sym (place_true place (place_from n v.scope v.text) same)) ∙ is) in
              record { steps = steps; fewer = omega arith; ends = ap (last_text n steps) (sym one) ∙ after }
          | inr later ↦
              let r = rest w steps (next_within n p v w q h) later after in
              record { steps = r.steps; fewer = omega (arith, r.fewer); ends = r.ends }
        ]

-- a chain that leads back to itself has no end
no_end : (n : Netlist) (p : Instance) (place : Place) (z : Use) (t : List ℕ) (k : ℕ) → use_at n p place ≡ Some z → Sees p z.scope → list_any (same_place place) (places n k z) ≡ true
    → (most steps : ℕ) → steps < most → last_text n steps z ≡ Some t → ⊥
no_end n p place z t k is h again zero steps few ends = omega arith
no_end n p place z t k is h again (suc most) steps few ends =
    let r = met_again n p place z t is k z steps h again ends in
    no_end n p place z t k is h again most r.steps (omega (arith, r.fewer, few)) r.ends

pub twice_endless : (n : Netlist) (p : Instance) (k : ℕ) (u : Use) (steps : ℕ) (t : List ℕ) → Sees p u.scope → has_place_twice (places n k u) ≡ true
    → last_text n steps u ≡ Some t → ⊥
twice_endless n p zero u steps t h twice ends = false≢true (sym (ap has_place_twice (places_none n u)) ∙ twice)
twice_endless n p (suc k) u zero t h twice ends = none-some t (sym (last_never n u) ∙ ends)
twice_endless n p (suc k) u (suc steps) t h twice ends = by (next n u) refl (twice_endless n p k)
  where
    by : (o : Option Use) → next n u ≡ o
        → ((v : Use) (m : ℕ) (r : List ℕ) → Sees p v.scope → has_place_twice (places n k v) ≡ true → last_text n m v ≡ Some r → ⊥) → ⊥
    by None q rest = false≢true (sym (ap has_place_twice (places_here n k u q)) ∙ twice)
    by (Some v) q rest =
        let after : last_text n steps v ≡ Some t = sym (last_after n steps u v q) ∙ ends in
        let inside : Sees p v.scope = next_within n p u v q h in
        elim (or_cases (list_any (same_place (place_from n u.scope u.text)) (places n k v)) (has_place_twice (places n k v))
        (sym (ap has_place_twice (places_after n k u v q)) ∙ twice)) [
          | inl again ↦ no_end n p (place_from n u.scope u.text) v t k (next_at n p u v q h) inside again (suc steps) steps (omega arith) after
          | inr later ↦ rest v steps t inside later after
        ]

-- ## Loops

pub none_twice : (n : Netlist) (p : Instance) (u : Use) → Sees p u.scope
    → is_none (last_text n (suc (pairs_above n p)) u) ≡ has_place_twice (places n (suc (pairs_above n p)) u)
none_twice n p u h = by (last_text n (suc (pairs_above n p)) u) refl (has_place_twice (places n (suc (pairs_above n p)) u)) refl
  where
    by : (o : Option (List ℕ)) → last_text n (suc (pairs_above n p)) u ≡ o → (b : Bool) → has_place_twice (places n (suc (pairs_above n p)) u) ≡ b → is_none o ≡ b
    by None e b d = sym (endless_twice n p u h e) ∙ d
    by (Some t) e true d = absurd (twice_endless n p (suc (pairs_above n p)) u (suc (pairs_above n p)) t h d e)
    by (Some t) e false d = refl

-- with more steps the answer stays
pub some_more : (n : Netlist) (k more : ℕ) (u : Use) (t : List ℕ) → last_text n k u ≡ Some t → last_text n (more + k) u ≡ Some t
some_more n k zero u t e = subst (λ m. last_text n m u ≡ Some t) (omega arith) e
some_more n k (suc more) u t e = subst (λ m. last_text n m u ≡ Some t) (omega arith) (last_more n (more + k) u t (some_more n k more u t e))

pub enough : (n : Netlist) (p : Instance) (u : Use) (steps : ℕ) → Sees p u.scope → pairs_above n p < steps → last_text n steps u ≡ last_text n (suc (pairs_above n p)) u
enough n p u steps h more = by (last_text n (suc (pairs_above n p)) u) refl (last_text n steps u) refl
  where
    by : (a : Option (List ℕ)) → last_text n (suc (pairs_above n p)) u ≡ a → (b : Option (List ℕ)) → last_text n steps u ≡ b → b ≡ a
    by (Some t) e b d =
        sym d ∙ subst (λ m. last_text n m u ≡ Some t) (omega arith) (some_more n (suc (pairs_above n p)) (steps - suc (pairs_above n p)) u t e)
    by None e None d = refl
    by None e (Some t) d = absurd (twice_endless n p (suc (pairs_above n p)) u steps t h (endless_twice n p u h e) d)
