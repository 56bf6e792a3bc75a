-- Nets numbered by rows: a row that is new is a net that is new.
use Rattle.std.proofs.Common.{◌≡◌, ℕ, ◌<◌, ◌≤◌, ◌||◌, Bool, true, false, List, [], ◌∷◌, ◌++◌, length, map, get_or, refl, sym, ap, ◌∙◌}
use Rattle.std.specs.Prelude.{All, if◌then◌else◌}
use Rattle.std.specs.List.{list_any}
use Rattle.std.proofs.lemmas.List.{map-append}
use Rattle.cvc_plan.specs.declared.rows.InstancePart.{InstancePart}
use Rattle.cvc_plan.specs.declared.rows.NetRow.{NetRow}
use Rattle.cvc_plan.specs.Nets.{Net, same_net}
use Rattle.cvc_plan.proofs.Lists.{all_head, all_tail, any_map}
use Rattle.cvc_flat.specs.declared.rows.InstanceRow.{InstanceRow}
use Rattle.cvc_flat.specs.Flat.{is_net_among, nets_once}
use Rattle.cvc_names.specs.Names.{AreApart}
use Rattle.cvc_flat.specs.Resolving.{is_row}
use Rattle.cvc_flat.specs.Tables.{AreWaysApart, net_at, ways_of}
use Rattle.cvc_flat.proofs.Finding.{row_is}

any_alike : {A : Type 0} (p q : A → Bool) (xs : List A) → All (λ x. p x ≡ q x) xs → list_any p xs ≡ list_any q xs
any_alike p q [] h = refl
any_alike p q (x ∷ xs) h = λ i. all_head (λ y. p y ≡ q y) x xs h i || any_alike p q xs (all_tail (λ y. p y ≡ q y) x xs h) i

module _ (names : List (List ℕ)) (parts : List InstancePart) (rows : List InstanceRow) (apart : AreApart names) (ways : AreWaysApart names parts rows) where
  abbrev net : NetRow → Net
  net r = net_at names parts (ways_of rows) r

  abbrev Inside : NetRow → Type 0
  Inside r = (r.instance ≤ length rows) × (r.name < length names)

  among_is : (nets : List NetRow) (a : NetRow) → Inside a → All Inside nets → is_net_among (map net nets) (net a) ≡ list_any (is_row a) nets
  among_is nets a h all =
      any_map (same_net (net a)) net nets ∙ any_alike (λ r. same_net (net a) (net r)) (is_row a) nets (λ k d b. row_is names parts rows apart ways a (get_or nets k d) h (all k d b))

  added : (nets : List NetRow) (a : NetRow) (b : Bool) → (if b then map net nets else map net nets ++ net a ∷ []) ≡ map net (if b then nets else nets ++ a ∷ [])
  added nets a true = refl
  added nets a false = sym (map-append net nets (a ∷ []))

  pub once_row : (nets : List NetRow) (a : NetRow) → Inside a → All Inside nets → nets_once (map net nets) (net a ∷ []) ≡ map net (if list_any (is_row a) nets then nets else nets ++ a ∷ [])
  unfolding nets_once
  once_row nets a h all =
      ap (λ (b : Bool). if b then map net nets else map net nets ++ net a ∷ []) (among_is nets a h all) ∙ added nets a (list_any (is_row a) nets)
