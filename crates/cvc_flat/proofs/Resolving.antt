-- The net of a name by numbers.
use Rattle.std.proofs.Common.{◌≡◌, ℕ, ◌+◌, ◌-◌, ◌<◌, ◌≤◌, ◌==◌, Bool, true, false, List, [], ◌∷◌, length, map, take, get_or, refl, sym, ap, subst, ◌∙◌, arith, ltb}
use Rattle.std.specs.Prelude.{All, Option, Some, None, find, if◌then◌else◌}
use Rattle.std.specs.Option.{option_map, option_map_or}
use Rattle.std.specs.Str.{bytes_eq}
use Rattle.std.proofs.lemmas.Bool.{lt-ltb, ltb-true, false≢true}
use Rattle.std.proofs.lemmas.List.Elements.{All-get_or}
use Rattle.cvc_base.specs.declared.param.Pair.{Pair}
use Rattle.cvc_cdl.specs.Building.{is_among}
use Rattle.cvc_plan.specs.declared.rows.Connection.{Connection}
use Rattle.cvc_plan.specs.declared.rows.InstancePart.{InstancePart}
use Rattle.cvc_plan.specs.Nets.{Link, Net, connected, name_of_link, names_of, net_of, net_within, top_net}
use Rattle.cvc_plan.specs.Parts.{IsPart, link_at, pair_of, text}
use Rattle.cvc_flat.specs.declared.rows.InstanceRow.{InstanceRow}
use Rattle.cvc_names.specs.Names.{AreApart}
use Rattle.cvc_flat.specs.Resolving.{AreNames, net_beside, own_name}
use Rattle.cvc_flat.specs.Tables.{no_row, path_of}
use borrow.Author.Count.{below_more}
use Rattle.cvc_plan.proofs.Among.{global_is, same_text}
use Rattle.cvc_plan.proofs.Lists.{all_head, all_tail}
use Rattle.cvc_plan.proofs.Parts.{link_is}

-- ## Connections

abbrev connected_in : List (List ℕ) → List Connection → List ℕ → Option (List ℕ)
connected_in names cs name = option_map (λ (c : Pair). c.value) (find (λ (c : Pair). bytes_eq name c.name) (map (pair_of names) cs))

connected_is : (names : List (List ℕ)) → AreApart names → (cs : List Connection) (k : ℕ) → k < length names → All (λ (c : Connection). (c.port < length names) × (c.net < length names)) cs
    → connected_in names cs (text names k) ≡ option_map (text names) (net_beside cs k)
connected_is names apart [] k h all = refl
connected_is names apart (c ∷ cs) k h all = by (bytes_eq (text names k) (text names c.port)) (k == c.port) (same_text names apart k c.port h (all_head (λ (d : Connection). (d.port < length names) × (d.net < length names)) c cs all).0) (connected_is names apart cs k h (all_tail (λ (d : Connection). (d.port < length names) × (d.net < length names)) c cs all))
  where
    by : (a b : Bool) → a ≡ b → connected_in names cs (text names k) ≡ option_map (text names) (net_beside cs k)
        → option_map (λ (p : Pair). p.value) (if a then Some (pair_of names c) else find (λ (p : Pair). bytes_eq (text names k) p.name) (map (pair_of names) cs))
        ≡ option_map (text names) (option_map (λ (d : Connection). d.net) (if b then Some c else find (λ (d : Connection). k == d.port) cs))
    by true true e r = refl
    by true false e r = absurd (false≢true (sym e))
    by false true e r = absurd (false≢true e)
    by false false e r = r

pub beside_inside : (P : ℕ → Type 0) (cs : List Connection) (k net : ℕ) → All (λ (c : Connection). P c.port × P c.net) cs → net_beside cs k ≡ Some net → P net
beside_inside P [] k net all e = absurd (none e)
  where
    none : (None ≡ Some net) → ⊥
    none e = cc
beside_inside P (c ∷ cs) k net all e = by (k == c.port) e (beside_inside P cs k net (all_tail (λ (d : Connection). P d.port × P d.net) c cs all))
  where
    by : (b : Bool) → option_map (λ (d : Connection). d.net) (if b then Some c else find (λ (d : Connection). k == d.port) cs) ≡ Some net → (net_beside cs k ≡ Some net → P net) → P net
    by true same later = subst P (let q : c.net ≡ net = cc in q) (all_head (λ (d : Connection). P d.port × P d.net) c cs all).1
    by false other later = later other

-- ## One step up

module _ (names : List (List ℕ)) (g : ℕ) (parts : List InstancePart) (are : AreNames names g parts) where
  abbrev globals : List (List ℕ)
  globals = take g names

  abbrev net_there : List ℕ → ℕ → Net
  net_there way k = net_of globals (path_of names parts way) (text names k)

  pub top_step : (k : ℕ) → net_there [] k ≡ top_net (text names k)
  unfolding net_of
  top_step k = refl

  choose : (a b : Bool) (x y z : Net) → a ≡ b → b ≡ true → y ≡ x → (if a then y else z) ≡ x
  choose a b x y z e f q = by a (e ∙ f)
    where
      by : (c : Bool) → c ≡ true → (if c then y else z) ≡ x
      by true h = q
      by false h = absurd (false≢true h)

  choose_not : (a b : Bool) (y z : Net) → a ≡ b → b ≡ false → (if a then y else z) ≡ z
  choose_not a b y z e f = by a (e ∙ f)
    where
      by : (c : Bool) → c ≡ false → (if c then y else z) ≡ z
      by true h = absurd (false≢true (sym h))
      by false h = refl

  pub global_step : (card : ℕ) (up : List ℕ) (k : ℕ) → k < length names → k < g → net_there (card ∷ up) k ≡ top_net (text names k)
  unfolding net_of
  global_step card up k h below =
      choose (is_among globals (text names k)) (ltb k g) (top_net (text names k)) (top_net (text names k)) _ (global_is names g k are.apart are.below h) (lt-ltb k g below) refl

  not_below : (k : ℕ) → g ≤ k → ltb k g ≡ false
  not_below k h = by (ltb k g) refl
    where
      by : (b : Bool) → ltb k g ≡ b → b ≡ false
      by true e = absurd (omega (arith, ltb-true k g e))
      by false e = refl

  up_step : (card : ℕ) (up : List ℕ) (k : ℕ) (part : InstancePart) → k < length names → g ≤ k → card < length parts → part ≡ get_or parts card part
      → net_there (card ∷ up) k ≡ option_map_or (net_of globals (path_of names parts up)) (option_map (text names) (net_beside part.connections.items k)) (net_within (names_of (path_of names parts (card ∷ up))) (text names k))
  unfolding net_of
  up_step card up k part h above inside e =
      choose_not (is_among globals (text names k)) (ltb k g) (top_net (text names k)) _ (global_is names g k are.apart are.below h) (not_below k above)
      ∙ ap (λ (o : Option (List ℕ)). option_map_or (net_of globals (path_of names parts up)) o (net_within (names_of (path_of names parts (card ∷ up))) (text names k)))
      (ap (λ (l : Link). connected l (text names k)) (link_is names parts card part inside e)
      ∙ connected_is names are.apart part.connections.items k h (subst (IsPart names) (sym e) (All-get_or (IsPart names) parts card part inside are.sound)).1)

  pub connected_step : (card : ℕ) (up : List ℕ) (k net : ℕ) (part : InstancePart) → k < length names → g ≤ k → card < length parts → part ≡ get_or parts card part
      → net_beside part.connections.items k ≡ Some net → net_there (card ∷ up) k ≡ net_there up net
  connected_step card up k net part h above inside e is =
      up_step card up k part h above inside e
      ∙ ap (λ (o : Option ℕ). option_map_or (net_of globals (path_of names parts up)) (option_map (text names) o) (net_within (names_of (path_of names parts (card ∷ up))) (text names k))) is

  pub own_step : (card : ℕ) (up : List ℕ) (k : ℕ) (part : InstancePart) → k < length names → g ≤ k → card < length parts → part ≡ get_or parts card part
      → net_beside part.connections.items k ≡ None → net_there (card ∷ up) k ≡ net_within (names_of (path_of names parts (card ∷ up))) (text names k)
  own_step card up k part h above inside e is =
      up_step card up k part h above inside e
      ∙ ap (λ (o : Option ℕ). option_map_or (net_of globals (path_of names parts up)) (option_map (text names) o) (net_within (names_of (path_of names parts (card ∷ up))) (text names k))) is

pub own_at : (names : List (List ℕ)) (parts : List InstancePart) (rows : List InstanceRow) (place : ℕ) (part : InstancePart) → (get_or rows place no_row).card < length parts → part ≡ get_or parts (get_or rows place no_row).card part
    → own_name names parts rows (place + 1) ≡ text names part.name
own_at names parts rows place part inside e =
    let back : place + 1 - 1 ≡ place = omega arith in
    ap (λ n. (link_at names parts (get_or rows n no_row).card).name) back ∙ ap name_of_link (link_is names parts (get_or rows place no_row).card part inside e)

-- one more number
pub up_to_more : (P : ℕ → Type 0) (n : ℕ) → ((i : ℕ) → i ≤ n → P i) → P (n + 1) → (i : ℕ) → i ≤ n + 1 → P i
up_to_more P n below here i h = below_more P (n + 1) (λ k b. below k (omega arith)) here i (omega arith)
