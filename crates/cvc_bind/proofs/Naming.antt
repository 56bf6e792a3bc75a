-- Names one by one: the net of the next one, behind those that are found.
use Rattle.std.proofs.Common.{◌≡◌, ℕ, ◌+◌, ◌<◌, ◌≤◌, List, [], ◌∷◌, ◌++◌, length, map, drop, Result, Ok, Err, sym, ap, ◌∙◌}
use Rattle.std.specs.Prelude.{slice_index_or}
use Rattle.std.proofs.lemmas.List.{drop_more, drop_all}
use Rattle.cvc_base.specs.declared.ids.NetId.{NetId}
use Rattle.cvc_base.specs.Order.{◌>>=◌}
use Rattle.cvc_flat.specs.Flat.{FlatList}
use Rattle.cvc_flat.specs.FindNet.{find_net}
use Rattle.cvc_bind.specs.declared.nets.Misnamed.{Misnamed}
use Rattle.cvc_bind.specs.Nets.{next_net, nets_behind}

module _ {A : Type 0} (name : A → List ℕ) (f : FlatList) (xs : List A) (i : ℕ) (x : A) (earlier : List NetId) (inside : i < length xs) (here : x ≡ slice_index_or xs i x) where
  then_later : Result NetId Misnamed → Result (List NetId) Misnamed
  then_later r = ◌>>=◌ r (λ net. nets_behind f (earlier ++ net ∷ []) (map name (drop (i + 1) xs)))

  step : nets_behind f earlier (map name (drop i xs)) ≡ then_later (next_net earlier (find_net f (name x)))
  unfolding nets_behind then_later
  step = ap (λ l. nets_behind f earlier (map name l)) (drop_more xs i x inside ∙ ap (λ y. y ∷ drop (i + 1) xs) (sym here))

  pub refused : (bad : Misnamed) → Err bad ≡ next_net earlier (find_net f (name x)) → nets_behind f earlier (map name (drop i xs)) ≡ Err bad
  unfolding then_later
  refused bad e = step ∙ ap then_later (sym e)

  pub taken : (net : NetId) → Ok net ≡ next_net earlier (find_net f (name x)) → nets_behind f (earlier ++ net ∷ []) (map name (drop (i + 1) xs)) ≡ nets_behind f earlier (map name (drop i xs))
  unfolding then_later
  taken net e = ap then_later e ∙ sym step

pub ended : {A : Type 0} (name : A → List ℕ) (f : FlatList) (xs : List A) (i : ℕ) (nets : List NetId) → length xs ≤ i → nets_behind f nets (map name (drop i xs)) ≡ Ok nets
unfolding nets_behind
ended name f xs i nets done = ap (λ l. nets_behind f nets (map name l)) (drop_all i xs done)
