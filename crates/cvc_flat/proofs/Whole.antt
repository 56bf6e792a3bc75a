-- The flat list as a whole, from the openings and the walk.
use Rattle.std.proofs.Common.{◌≡◌, List, [], map, take, sym, ap}
use Rattle.std.specs.Prelude.{Some, None, Ok, Err}
use Rattle.std.proofs.lemmas.List.{append-nil}
use Rattle.cvc_base.specs.Answers.{IfAt, Refuses}
use Rattle.cvc_base.specs.declared.fault.Fault.{Fault}
use Rattle.cvc_base.specs.declared.fault.Refusal.{Refusal}
use Rattle.cvc_base.specs.declared.fault.Refusal.TheVariants.{At, NoMemory}
use Rattle.cvc_cdl.specs.declared.netlist.Netlist.{Netlist}
use Rattle.cvc_cdl.specs.Building.{or_else}
use Rattle.cvc_cdl.specs.Ending.{unless_fault}
use Rattle.cvc_plan.specs.declared.cards.Plan.{Plan}
use Rattle.cvc_plan.specs.Nets.{global_names}
use Rattle.cvc_flat.specs.declared.rows.InstanceRow.{InstanceRow}
use Rattle.cvc_flat.specs.declared.steps.Made.{Made}
use Rattle.cvc_flat.specs.Flat.{flat_of, flat_fault, limits, list_behind, nets_behind, nets_once, opening_fault, opening_nets, openings, visits_of, walk_fault}
use Rattle.cvc_flat.specs.Making.{Shows, net_of_opening, tables_of}
use Rattle.cvc_flat.specs.Tables.{held_of}
use Rattle.cvc_flat.specs.Walk.{Visit}

pub nets_first : (n : Netlist) → nets_once [] (map net_of_opening (openings n)) ≡ nets_behind n []
unfolding nets_behind
nets_first n = ap (nets_once []) (sym (append-nil (opening_nets n)))

pub opening_first : (n : Netlist) (f : Fault) → opening_fault limits [] (openings n) ≡ Some f → flat_of limits n ≡ Err f
unfolding flat_of flat_fault
opening_first n f e = ap (λ o. unless_fault (or_else o (walk_fault limits n [] (visits_of limits n))) (list_behind n (visits_of limits n))) e

pub walk_second : (n : Netlist) (f : Fault) → opening_fault limits [] (openings n) ≡ None → walk_fault limits n [] (visits_of limits n) ≡ Some f → flat_of limits n ≡ Err f
unfolding flat_of flat_fault
walk_second n f a b = (λ i. unless_fault (or_else (a i) (b i)) (list_behind n (visits_of limits n)))

pub no_fault : (n : Netlist) → opening_fault limits [] (openings n) ≡ None → walk_fault limits n [] (visits_of limits n) ≡ None → flat_of limits n ≡ Ok (list_behind n (visits_of limits n))
unfolding flat_of flat_fault
no_fault n a b = (λ i. unless_fault (or_else (a i) (b i)) (list_behind n (visits_of limits n)))

-- the tables show the list
pub shown_list : (n : Netlist) (p : Plan) (rows : List InstanceRow) (made : Made) (visits : List Visit) → take p.globals p.cards.names ≡ global_names n → Shows n (tables_of n p rows made) visits
    → (held_of (tables_of n p rows made)).list ≡ list_behind n visits
unfolding list_behind
shown_list n p rows made visits g s = λ i. record { top = n.top; globals = g i; nets = s.nets i; devices = s.devices i; instances = s.instances i }

pub at_opening : (A B : Type 0) (n : Netlist) (refusal : Refusal) → Refuses {A = A} (opening_fault limits [] (openings n)) (Err refusal) → IfAt {A = B} (Err refusal) (λ fault. flat_of limits n ≡ Err fault)
at_opening A B n (At fault) h = opening_first n fault h
at_opening A B n NoMemory h = tt

pub at_walk : (A B : Type 0) (n : Netlist) (refusal : Refusal) → opening_fault limits [] (openings n) ≡ None → Refuses {A = A} (walk_fault limits n [] (visits_of limits n)) (Err refusal) → IfAt {A = B} (Err refusal) (λ fault. flat_of limits n ≡ Err fault)
at_walk A B n (At fault) none h = walk_second n fault none h
at_walk A B n NoMemory none h = tt
