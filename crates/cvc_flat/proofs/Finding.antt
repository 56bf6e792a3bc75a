-- A net by the pieces of a text.
use Rattle.std.proofs.Common.{◌≡◌, ℕ, ◌+◌, ◌<◌, ◌≤◌, ◌==◌, ◌&&◌, Bool, true, false, cond, List, [], ◌∷◌, length, map, take, drop, get_or, refl, sym, ap, subst, ◌∙◌, arith}
use Rattle.std.specs.Prelude.{All, Option, Some, None, find, position, if◌then◌else◌}
use Rattle.std.specs.Option.{option_map, option_map_or}
use Rattle.std.specs.Str.{bytes_eq}
use Rattle.std.specs.Cmp.Lexicographic.{bytes_decides}
use Rattle.std.proofs.lemmas.Bool.{eq-eqb, eqb-true, false≢true}
use Rattle.std.proofs.lemmas.List.{get_or-take, length-map, length-take-le}
use Rattle.std.proofs.lemmas.List.Elements.{All-map}
use Rattle.std.proofs.lemmas.List.Sums.{fails_before_first}
use Rattle.cvc_base.specs.declared.param.Pair.{Pair}
use Rattle.cvc_cdl.specs.Building.{is_among}
use Rattle.cvc_cdl.specs.Instances.{same_names}
use Rattle.cvc_cdl.proofs.SameNames.{names_same, names_true}
use Rattle.cvc_plan.specs.declared.rows.Connection.{Connection}
use Rattle.cvc_plan.specs.declared.rows.InstancePart.{InstancePart}
use Rattle.cvc_plan.specs.declared.rows.NetRow.{NetRow}
use Rattle.cvc_plan.specs.Nets.{Link, Net, connected, net_of, net_within, same_net, top_net}
use Rattle.cvc_plan.specs.Parts.{IsPart, link_at, link_of, no_link, pair_of, text}
use Rattle.cvc_plan.proofs.Lists.{all_head, all_tail, none_first}
use Rattle.cvc_plan.proofs.Among.{among_place, bool_same}
use Rattle.cvc_flat.specs.declared.rows.InstanceRow.{InstanceRow}
use Rattle.cvc_flat.specs.FindNet.{is_slash, net_named, number_among, path_named, pieces}
use Rattle.cvc_flat.specs.Flat.{FlatList}
use Rattle.cvc_names.specs.Names.{AreApart, place_of}
use Rattle.cvc_flat.specs.Resolving.{AreNames, is_row}
use Rattle.cvc_flat.specs.Tables.{AreWaysApart, Way, names_on, net_at, path_of, way_at, ways_of}
use Rattle.cvc_flat.proofs.Pieces.{no_place, pieces_at, pieces_none, pieces_some, place_alike}

-- ## Pieces

named_more : (f : FlatList) (names : List (List ℕ)) (a b : List ℕ) (rest : List (List ℕ)) → net_named f names (a ∷ b ∷ rest) ≡ net_named f (a ∷ names) (b ∷ rest)
unfolding net_named
named_more f names a b rest = refl

named_last : (f : FlatList) (names : List (List ℕ)) (name : List ℕ) → net_named f names (name ∷ []) ≡ option_map (λ p. net_of f.globals p name) (path_named f names)
unfolding net_named
named_last f names name = refl

pub slash_step : (f : FlatList) (names : List (List ℕ)) (rest : List ℕ) (k : ℕ) → position is_slash rest ≡ Some k
    → net_named f names (pieces rest) ≡ net_named f (take k rest ∷ names) (pieces (drop (k + 1) rest))
slash_step f names rest k e =
    let w = pieces_some is_slash (drop (k + 1) rest) in
    ap (net_named f names) (pieces_at is_slash rest k e ∙ ap (λ l. take k rest ∷ l) w.2) ∙ named_more f names (take k rest) w.0 w.1 ∙ ap (net_named f (take k rest ∷ names)) (sym w.2)

pub last_step : (f : FlatList) (names : List (List ℕ)) (rest : List ℕ) → position is_slash rest ≡ None
    → net_named f names (pieces rest) ≡ option_map (λ p. net_of f.globals p rest) (path_named f names)
last_step f names rest e = ap (net_named f names) (pieces_none is_slash rest e) ∙ named_last f names rest

-- ## Nets by rows

and_left : (a b : Bool) → (a && b) ≡ true → a ≡ true
and_left true b e = refl
and_left false b e = e

and_right : (a b : Bool) → (a && b) ≡ true → b ≡ true
and_right true b e = e
and_right false b e = absurd (false≢true e)

and_both : (a b : Bool) → a ≡ true → b ≡ true → (a && b) ≡ true
and_both true b e f = f
and_both false b e f = e

module _ (names : List (List ℕ)) (parts : List InstancePart) (rows : List InstanceRow) (apart : AreApart names) (ways : AreWaysApart names parts rows) where
  abbrev net : NetRow → Net
  net r = net_at names parts (ways_of rows) r

  abbrev Inside : NetRow → Type 0
  Inside r = (r.instance ≤ length rows) × (r.name < length names)

  pub row_is : (a b : NetRow) → Inside a → Inside b → same_net (net a) (net b) ≡ is_row a b
  row_is a b h k =
      bool_same (same_net (net a) (net b)) (is_row a b)
      (λ e.
      let texts : text names a.name ≡ text names b.name = (bytes_decides (text names a.name) (text names b.name)).0 (and_left (bytes_eq (text names a.name) (text names b.name)) (same_names (net a).within (net b).within) e) in
      let within : (net a).within ≡ (net b).within = names_true (net a).within (net b).within (and_right (bytes_eq (text names a.name) (text names b.name)) (same_names (net a).within (net b).within) e) in
      and_both (a.instance == b.instance) (a.name == b.name) (eq-eqb a.instance b.instance (ways a.instance b.instance h.0 k.0 within)) (eq-eqb a.name b.name (apart a.name b.name h.1 k.1 texts)))
      (λ e.
      let one : a.instance ≡ b.instance = eqb-true a.instance b.instance (and_left (a.instance == b.instance) (a.name == b.name) e) in
      let two : a.name ≡ b.name = eqb-true a.name b.name (and_right (a.instance == b.instance) (a.name == b.name) e) in
      and_both (bytes_eq (text names a.name) (text names b.name)) (same_names (net a).within (net b).within)
      ((bytes_decides (text names a.name) (text names b.name)).1 (ap (text names) two))
      (ap (same_names (net a).within) (ap (λ i. names_on names parts (way_at (ways_of rows) i)) (sym one)) ∙ names_same (net a).within))

  pub number_row : (nets : List NetRow) (a : NetRow) → Inside a → All Inside nets → number_among (map net nets) (net a) ≡ position (is_row a) nets
  number_row nets a h all = place_alike (same_net (net a)) net (is_row a) nets (λ k d b. row_is a (get_or nets k d) h (all k d b))

  -- ## A name that is not known

  module _ (name : List ℕ) (unknown : place_of names name ≡ None) where
    not_there : (i : ℕ) → i < length names → bytes_eq name (text names i) ≡ false
    not_there i h = fails_before_first (bytes_eq name) names i [] (omega (arith, none_first (bytes_eq name) names unknown))

    not_among : (g : ℕ) → g ≤ length names → is_among (take g names) name ≡ false
    not_among g inside = by (is_among (take g names) name) refl
      where
        by : (b : Bool) → is_among (take g names) name ≡ b → b ≡ false
        by false e = refl
        by true e =
            let w = among_place (take g names) name e in
            let below : w.0 < g = subst (λ n. w.0 < n) (length-take-le g names inside) w.1 in
            absurd (false≢true (sym (not_there w.0 (omega (arith, below))) ∙ (bytes_decides name (text names w.0)).1 (w.2 ∙ get_or-take g names w.0 [] below)))

    unconnected : (cs : List Connection) → All (λ (c : Connection). (c.port < length names) × (c.net < length names)) cs → find (λ (p : Pair). bytes_eq name p.name) (map (pair_of names) cs) ≡ None
    unconnected [] h = refl
    unconnected (c ∷ cs) h =
        ap (λ b. cond b (Some (pair_of names c)) (find (λ (p : Pair). bytes_eq name p.name) (map (pair_of names) cs))) (not_there c.port (all_head (λ (d : Connection). (d.port < length names) × (d.net < length names)) c cs h).0)
        ∙ unconnected cs (all_tail (λ (d : Connection). (d.port < length names) × (d.net < length names)) c cs h)

    all_unconnected : All (IsPart names) parts → All (λ (l : Link). connected l name ≡ None) (map (link_of names) parts)
    all_unconnected sound =
        All-map (λ (l : Link). connected l name ≡ None) (link_of names) parts
        (λ k d b. ap (option_map (λ (c : Pair). c.value)) (unconnected (get_or parts k d).connections.items (sound k d b).1))

    pub own_net : (g : ℕ) → AreNames names g parts → (way : Way) → All (λ k. k < length parts) way
        → net_of (take g names) (path_of names parts way) name ≡ net_within (names_on names parts way) name
    unfolding net_of
    own_net g are [] all = refl
    own_net g are (card ∷ up) all =
        let inside : card < length parts = all_head (λ k. k < length parts) card up all in
        ap (λ b. if b then top_net name else option_map_or (net_of (take g names) (path_of names parts up)) (connected (link_at names parts card) name) (net_within (names_on names parts (card ∷ up)) name)) (not_among g are.below)
        ∙ ap (λ (o : Option (List ℕ)). option_map_or (net_of (take g names) (path_of names parts up)) o (net_within (names_on names parts (card ∷ up)) name))
        (all_unconnected are.sound card no_link (omega (arith, length-map parts (link_of names), inside)))

    pub not_listed : (nets : List NetRow) (within : List (List ℕ)) → All Inside nets → number_among (map net nets) (net_within within name) ≡ None
    not_listed nets within all = no_place (same_net (net_within within name)) net nets (λ k d b. ap (λ c. c && same_names within (net (get_or nets k d)).within) (not_there (get_or nets k d).name (all k d b).1))
