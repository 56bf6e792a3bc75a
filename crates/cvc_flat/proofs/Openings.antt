-- The nets of the globals and of the ports of the top, one by one.
use Rattle.std.proofs.Common.{◌≡◌, ℕ, ◌+◌, ◌<◌, ◌≤◌, Bool, true, false, List, [], ◌∷◌, ◌++◌, length, map, take, drop, get_or, refl, sym, ap, subst, ◌∙◌, arith}
use Rattle.std.specs.Prelude.{All, Option, Some, None, Err, nat_lt, if◌then◌else◌}
use Rattle.std.specs.List.{list_any}
use Rattle.std.proofs.lemmas.Bool.Decides.{nat_tests}
use Rattle.std.proofs.lemmas.List.{drop_all, drop_more, length-map}
use Rattle.std.proofs.lemmas.List.Elements.{All-append}
use Rattle.cvc_base.specs.Answers.{Refuses}
use Rattle.cvc_base.specs.declared.cause.Cause.TheVariants.{TooManyNets}
use Rattle.cvc_base.specs.declared.fault.Fault.{Fault}
use Rattle.cvc_base.specs.declared.fault.Refusal.{Refusal}
use Rattle.cvc_base.specs.declared.fault.Refusal.TheVariants.{At}
use Rattle.cvc_cdl.specs.Building.{fault_at}
use Rattle.cvc_plan.specs.declared.cards.Plan.{Plan}
use Rattle.cvc_plan.specs.declared.rows.NetRow.{NetRow}
use Rattle.cvc_plan.specs.Nets.{Net, Opening, net_within, top_net}
use Rattle.cvc_plan.specs.Parts.{text}
use Rattle.cvc_plan.proofs.Lists.{all_one}
use Rattle.cvc_plan.proofs.Planned.{map_more}
use Rattle.cvc_flat.specs.Flat.{limits, nets_once, opening_fault}
use Rattle.cvc_flat.specs.Making.{known_nets, net_of_opening}
use Rattle.cvc_names.specs.Names.{AreApart}
use Rattle.cvc_flat.specs.Resolving.{is_row}
use Rattle.cvc_flat.specs.Tables.{AreWaysApart, Way, names_on, net_at, ways_of}
use Rattle.cvc_flat.proofs.Numbering.{once_row}
use Rattle.cvc_flat.proofs.Once.{once_append}
use Rattle.cvc_flat.proofs.Ways.{way_top}

module _ (p : Plan) (apart : AreApart p.cards.names) where
  abbrev Inside : NetRow → Type 0
  Inside r = (r.instance ≤ 0) × (r.name < length p.cards.names)

  ways_none : AreWaysApart p.cards.names p.cards.parts.items []
  ways_none i j a b e = omega (arith, a, b)

  abbrev pub top_row : ℕ → NetRow
  top_row k = record { instance = 0; name = k }

  abbrev pub added : List NetRow → NetRow → List NetRow
  added nets a = if list_any (is_row a) nets then nets else nets ++ a ∷ []

  top_is : (k : ℕ) → net_at p.cards.names p.cards.parts.items (ways_of []) (top_row k) ≡ top_net (text p.cards.names k)
  top_is k = ap (λ (w : Way). net_within (names_on p.cards.names p.cards.parts.items w) (text p.cards.names k)) (way_top [])

  pub opened_row : (nets : List NetRow) (k : ℕ) → k < length p.cards.names → All Inside nets → known_nets p.cards [] (added nets (top_row k)) ≡ nets_once (known_nets p.cards [] nets) (top_net (text p.cards.names k) ∷ [])
  opened_row nets k h all =
      let zero : 0 ≤ 0 = omega arith in
      sym (once_row p.cards.names p.cards.parts.items [] apart ways_none nets (top_row k) (zero, h) all) ∙ ap (λ n. nets_once (known_nets p.cards [] nets) (n ∷ [])) (top_is k)

  pub opened_inside : (nets : List NetRow) (k : ℕ) → k < length p.cards.names → All Inside nets → All Inside (added nets (top_row k))
  opened_inside nets k h all = by (list_any (is_row (top_row k)) nets)
    where
      by : (b : Bool) → All Inside (if b then nets else nets ++ top_row k ∷ [])
      by true = all
      by false = let zero : 0 ≤ 0 = omega arith in All-append Inside nets (top_row k ∷ []) all (all_one Inside (top_row k) (zero, h))

  pub known_length : (nets : List NetRow) → length (known_nets p.cards [] nets) ≡ length nets
  known_length nets = length-map nets (net_at p.cards.names p.cards.parts.items (ways_of []))

-- the nets of the first openings
abbrev pub nets_to : List Opening → ℕ → List Net
nets_to os i = nets_once [] (map net_of_opening (take i os))

module _ (os : List Opening) (i : ℕ) (o : Opening) (inside : i < length os) (is : o ≡ get_or os i o) where
  pub next_known : nets_once (nets_to os i) (o.net ∷ []) ≡ nets_to os (i + 1)
  next_known = sym (once_append [] (map net_of_opening (take i os)) (o.net ∷ [])) ∙ ap (nets_once []) (map_more net_of_opening os i o inside is)

  opens : (known : List Net) → opening_fault limits known (drop i os)
      ≡ (if nat_lt 1000000 (length (nets_once known (o.net ∷ []))) then Some (fault_at o.line TooManyNets) else opening_fault limits (nets_once known (o.net ∷ [])) (drop (i + 1) os))
  unfolding opening_fault
  opens known = ap (opening_fault limits known) (drop_more os i o inside ∙ ap (λ x. x ∷ drop (i + 1) os) (sym is))

  pub fault_past : (known : List Net) → length (nets_once known (o.net ∷ [])) ≤ 1000000 → opening_fault limits known (drop i os) ≡ opening_fault limits (nets_once known (o.net ∷ [])) (drop (i + 1) os)
  fault_past known h =
      let x : nat_lt 1000000 (length (nets_once known (o.net ∷ []))) ≡ false = grind (arith, nat_tests) in
      opens known ∙ ap (λ (b : Bool). if b then Some (fault_at o.line TooManyNets) else opening_fault limits (nets_once known (o.net ∷ [])) (drop (i + 1) os)) x

  pub fault_opened : (known : List Net) → 1000000 < length (nets_once known (o.net ∷ [])) → opening_fault limits known (drop i os) ≡ Some (fault_at o.line TooManyNets)
  fault_opened known h =
      let x : nat_lt 1000000 (length (nets_once known (o.net ∷ []))) ≡ true = grind (arith, nat_tests) in
      opens known ∙ ap (λ (b : Bool). if b then Some (fault_at o.line TooManyNets) else opening_fault limits (nets_once known (o.net ∷ [])) (drop (i + 1) os)) x

pub no_opening_fault : (known : List Net) (os : List Opening) (i : ℕ) → length os ≤ i → opening_fault limits known (drop i os) ≡ None
unfolding opening_fault
no_opening_fault known os i h = ap (opening_fault limits known) (drop_all i os h)

pub refuses_opening : (A : Type 0) (fault : Option Fault) (refusal : Refusal) (first : Fault) → refusal ≡ At first → fault ≡ Some first → Refuses {A = A} fault (Err refusal)
refuses_opening A fault refusal first e is = subst (λ (r : Refusal). Refuses {A = A} fault (Err r)) (sym e) is

pub opens_none : (os : List Opening) → [] ≡ nets_to os 0
unfolding nets_once
opens_none os = refl
