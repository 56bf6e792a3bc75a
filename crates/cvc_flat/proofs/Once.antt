-- Nets as they are met: those behind one visit more are found from those before it.
use Rattle.std.proofs.Common.{◌≡◌, List, [], ◌∷◌, ◌++◌, refl, sym, ap, ◌∙◌}
use Rattle.std.specs.Prelude.{if◌then◌else◌}
use Rattle.std.specs.List.{flat_map}
use Rattle.std.proofs.lemmas.Grind.{flat_map-append}
use Rattle.std.proofs.lemmas.List.{append_assoc, append-nil}
use Rattle.cvc_cdl.specs.declared.netlist.Netlist.{Netlist}
use Rattle.cvc_plan.specs.Nets.{Net}
use Rattle.cvc_flat.specs.Walk.{Visit}
use Rattle.cvc_flat.specs.Flat.{is_net_among, nets_once, nets_behind, opening_nets, pins_at}

pub once_append : (known xs ys : List Net) → nets_once known (xs ++ ys) ≡ nets_once (nets_once known xs) ys
unfolding nets_once
once_append known [] ys = refl
once_append known (x ∷ xs) ys = once_append (if is_net_among known x then known else known ++ x ∷ []) xs ys

pub nets_next : (n : Netlist) (earlier : List Visit) (v : Visit) → nets_behind n (earlier ++ v ∷ []) ≡ nets_once (nets_behind n earlier) (pins_at n v)
unfolding nets_behind
nets_next n earlier v =
    ap (λ ps. nets_once [] (opening_nets n ++ ps)) (flat_map-append (pins_at n) earlier (v ∷ []) ∙ ap (λ ps. flat_map (pins_at n) earlier ++ ps) (append-nil (pins_at n v)))
    ∙ ap (nets_once []) (sym (append_assoc (opening_nets n) (flat_map (pins_at n) earlier) (pins_at n v)))
    ∙ once_append [] (opening_nets n ++ flat_map (pins_at n) earlier) (pins_at n v)
