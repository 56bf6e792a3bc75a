use Rattle.std.proofs.Common.{◌≡◌, ℕ, ◌+◌, ◌-◌, ◌<◌, List, [], length, map, take, drop, rules, sym, ap, subst, ◌∙◌, arith}
use Rattle.std.specs.Prelude.{IfSome, Option, None, Some}
use Rattle.std.specs.Option.{option_and_then, option_map}
use Rattle.std.proofs.lemmas.List.{length-drop, length-map, take_all}
use Rattle.cvc_plan.specs.Nets.{Net, Path, net_of}
use Rattle.cvc_plan.proofs.Lists.{place_below, text_at_place}
use Rattle.cvc_flat.specs.FindNet.{net_named, number_among, pieces}
use Rattle.cvc_flat.specs.Finder.{net_hash, way_hash}
use Rattle.cvc_names.specs.Names.{place_of}
use Rattle.cvc_flat.specs.Resolving.{is_row}
use Rattle.cvc_flat.specs.Tables.{Way, names_on, net_at, path_of, way_at, ways_of}
use Rattle.cvc_flat.proofs.Finding.{last_step, not_listed, number_row, own_net, slash_step}
use Rattle.cvc_flat.proofs.Hashed.{count_ways, found_first, net_hash_is, no_net, row_hash}
use Rattle.cvc_flat.proofs.Naming.{child_names, named_here, no_child, nothing_behind}
use Rattle.cvc_flat.proofs.Ways.{all_on_way, way_top}
use Rattle.cvc_flat.proofs.find.first_named.Goals as goal

pub loop-place-init : goal.loop-place-init
loop-place-init c = record {
  inside = omega arith;
  named = λ f g is. ap (λ (w : Way). net_named f (names_on c.args.names.now c.args.parts.now w) (pieces c.args.text.now)) (way_top c.args.instances.now);
}

pub returns-in_err-up-clause-place : goal.returns-in_err-up-clause-place
returns-in_err-up-clause-place c = λ f g is.
    let names = c.args.names.now in
    let parts = c.args.parts.now in
    let rows = c.args.instances.now in
    let rest = c.loop-place.rest.now in
    let place = c.in-Some.place in
    let on : List (List ℕ) = names_on names parts (way_at (ways_of rows) c.loop-place.up) in
    let whole : net_named f [] (pieces c.args.text.now) ≡ None =
    sym (c.loop-place.invariant.named f g is) ∙ slash_step f on rest place (sym c.first_slash.ensures.place ∙ c.in-Some.is)
    ∙ nothing_behind names parts rows c.requires.tree c.requires.ways f is (take place rest) on (pieces (drop (place + 1) rest))
    (no_child names parts rows c.requires.tree c.requires.ways f is c.loop-place.up (take place rest) c.loop-place.invariant.inside c.in_err-up.ensures) in
    c.from_residual.ensures ∙ sym (ap (option_and_then (number_among (map (net_at names parts (ways_of rows)) c.args.nets.now))) whole)

pub loop-place-preserved : goal.loop-place-preserved
loop-place-preserved c =
    let names = c.args.names.now in
    let parts = c.args.parts.now in
    let rows = c.args.instances.now in
    let rest = c.loop-place.rest.now in
    let place = c.in-Some.place in
    let on : List (List ℕ) = names_on names parts (way_at (ways_of rows) c.loop-place.up) in
    let whole : take (length rest - (place + 1)) (drop (place + 1) rest) ≡ drop (place + 1) rest = take_all (length rest - (place + 1)) (drop (place + 1) rest) (omega (arith, length-drop (place + 1) rest)) in
    record {
      inside = c.in_ok-up.ensures.inside;
      named = λ f g is.
          ap (λ (r : List ℕ). net_named f (names_on names parts (way_at (ways_of rows) c.in_ok-up.up)) (pieces r)) whole
          ∙ ap (λ (ns : List (List ℕ)). net_named f ns (pieces (drop (place + 1) rest)))
          (child_names names parts rows c.requires.tree c.loop-place.up c.in_ok-up.up (take place rest) c.in_ok-up.ensures)
          ∙ sym (slash_step f on rest place (sym c.first_slash.ensures.place ∙ c.in-Some.is))
          ∙ c.loop-place.invariant.named f g is;
    }

pub returns-in_err-name-clause-place : goal.returns-in_err-name-clause-place
returns-in_err-name-clause-place c = λ f g is.
    let names = c.args.names.now in
    let parts = c.args.parts.now in
    let rows = c.args.instances.now in
    let rest = c.loop-place.rest.now in
    let up = c.loop-place.up in
    let way : Way = way_at (ways_of rows) up in
    let unknown : place_of names rest ≡ None = sym c.find.ensures.place ∙ c.in_err-name.was in
    let number : Net → Option ℕ = number_among (map (net_at names parts (ways_of rows)) c.args.nets.now) in
    let whole : net_named f [] (pieces c.args.text.now) ≡ Some (net_of f.globals (path_of names parts way) rest) =
    sym (c.loop-place.invariant.named f g is) ∙ last_step f (names_on names parts way) rest (sym c.first_slash.ensures.place ∙ c.in_default.is)
    ∙ ap (option_map (λ (p : Path). net_of f.globals p rest)) (named_here names parts rows c.requires.tree c.requires.ways f is up c.loop-place.invariant.inside) in
    c.from_residual-in_err-name.ensures
    ∙ sym (ap (option_and_then number) whole ∙ ap (λ gs. number (net_of gs (path_of names parts way) rest)) g
    ∙ ap number (own_net names parts rows c.requires.names.apart c.requires.ways rest unknown c.args.globals c.requires.names way (all_on_way (λ k. k < length parts) rows up c.requires.cards))
    ∙ not_listed names parts rows c.requires.names.apart c.requires.ways rest unknown c.args.nets.now (names_on names parts way) c.requires.nets)

pub returns-clause-place : goal.returns-clause-place
returns-clause-place c = λ f g is.
    let names = c.args.names.now in
    let parts = c.args.parts.now in
    let rows = c.args.instances.now in
    let rest = c.loop-place.rest.now in
    let up = c.loop-place.up in
    let way : Way = way_at (ways_of rows) up in
    let found : place_of names rest ≡ Some c.in_ok-name.name = sym c.find.ensures.place ∙ c.in_ok-name.was in
    let below : c.in_ok-name.name < length names = place_below names rest c.in_ok-name.name found in
    let number : Net → Option ℕ = number_among (map (net_at names parts (ways_of rows)) c.args.nets.now) in
    let whole : net_named f [] (pieces c.args.text.now) ≡ Some (net_of f.globals (path_of names parts way) rest) =
    sym (c.loop-place.invariant.named f g is) ∙ last_step f (names_on names parts way) rest (sym c.first_slash.ensures.place ∙ c.in_default.is)
    ∙ ap (option_map (λ (p : Path). net_of f.globals p rest)) (named_here names parts rows c.requires.tree c.requires.ways f is up c.loop-place.invariant.inside) in
    let row = c.net_row-row.result in
    let net = c.net_row-row.ensures.net names c.requires.names below in
    found_first (is_row row) (net_hash names parts rows) c.args.nets.now no_net c.args.finder.now.nets c.net_hash-hash.result _ c.find-2.result c.requires.finder.nets
    (λ r same. row_hash names parts rows row r same
    ∙ sym (net_hash_is names parts rows row c.args.finder.now.instances c.net_hash-hash.result c.net_row-row.ensures.inside c.requires.finder.instances c.net_hash-hash.ensures))
    (λ j b inside p. search rules) c.find-2.ensures
    ∙ sym (number_row names parts rows c.requires.names.apart c.requires.ways c.args.nets.now c.net_row-row.result (c.net_row-row.ensures.inside, net.named) c.requires.nets)
    ∙ ap number (net.resolved ∙ ap (net_of (take c.args.globals names) (path_of names parts way)) (text_at_place names rest c.in_ok-name.name found) ∙ ap (λ gs. net_of gs (path_of names parts way) rest) (sym g))
    ∙ sym (ap (option_and_then number) whole)

pub net_hash-hash-requires-clause-inside : goal.net_hash-hash-requires-clause-inside
net_hash-hash-requires-clause-inside c =
    omega (arith, c.net_row-row.ensures.inside, ap length c.requires.finder.instances, length-map (ways_of c.args.instances.now) (way_hash c.args.names.now c.args.parts.now), count_ways c.args.instances.now)

pub returns-clause-inside : goal.returns-clause-inside
returns-clause-inside c =
    subst (λ n. IfSome c.find-2.result (λ k. k < n)) (ap length c.requires.finder.nets ∙ length-map c.args.nets.now (net_hash c.args.names.now c.args.parts.now c.args.instances.now)) c.find-2.ensures.inside
