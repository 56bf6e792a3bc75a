-- The parameters of a device, pair by pair.
use Rattle.std.proofs.Common.{◌≡◌, ℕ, zero, suc, ◌+◌, ◌<◌, List, [], ◌∷◌, ◌++◌, length, take, get_or, refl, sym, ap, ◌∙◌, arith}
use Rattle.std.specs.Prelude.{Option, Some, None}
use Rattle.std.specs.Option.{option_map}
use Rattle.std.proofs.lemmas.List.{take_more}
use Rattle.cvc_base.specs.declared.param.Pair.{Pair}
use Rattle.cvc_base.specs.declared.param.Param.{Param}
use Rattle.cvc_base.specs.declared.param.Value.{Value}
use Rattle.cvc_cdl.specs.declared.netlist.Netlist.{Netlist}
use Rattle.cvc_cdl.specs.Instances.{Instance}
use Rattle.cvc_params.specs.Params.{Inside, Use, and_all, last_text, pairs_above, param_in, params_in, value_in, value_of_text}

abbrev and_last : Option (List Param) → Option Param → Option (List Param)
and_last None q = None
and_last (Some ps) None = None
and_last (Some ps) (Some q) = Some (ps ++ q ∷ [])

and_move : (p : Option Param) (ps : Option (List Param)) (q : Option Param) → and_all p (and_last ps q) ≡ and_last (and_all p ps) q
and_move None ps q = refl
and_move (Some p) None q = refl
and_move (Some p) (Some ps) None = refl
and_move (Some p) (Some ps) (Some q) = refl

and_only : (q : Option Param) → and_all q (Some []) ≡ and_last (Some []) q
and_only None = refl
and_only (Some q) = refl

params_push : (n : Netlist) (p : Instance) (pairs : List Pair) (pair : Pair) → params_in n p (pairs ++ pair ∷ []) ≡ and_last (params_in n p pairs) (param_in n p pair)
unfolding params_in
params_push n p [] pair = and_only (param_in n p pair)
params_push n p (x ∷ pairs) pair =
    ap (and_all (param_in n p x)) (params_push n p pairs pair) ∙ and_move (param_in n p x) (params_in n p pairs) (param_in n p pair)

pub params_first : (n : Netlist) (p : Instance) → params_in n p [] ≡ Some []
unfolding params_in
params_first n p = refl

pub params_more : (n : Netlist) (p : Instance) (pairs : List Pair) (k : ℕ) (pair : Pair) (ps : List Param) (q : Param) → k < length pairs → pair ≡ get_or pairs k pair
    → params_in n p (take k pairs) ≡ Some ps → Some q ≡ param_in n p pair → params_in n p (take (k + 1) pairs) ≡ Some (ps ++ q ∷ [])
params_more n p pairs k pair ps q inside here before one =
    ap (params_in n p) (take_more pairs k pair inside ∙ ap (λ (x : Pair). take k pairs ++ x ∷ []) (sym here))
    ∙ params_push n p (take k pairs) pair
    ∙ (λ i. and_last (before i) (sym one i))

-- where a value is a loop there are none
none_rest : (o : Option Param) (ps : Option (List Param)) → ps ≡ None → and_all o ps ≡ None
none_rest None ps e = refl
none_rest (Some q) ps e = ap (and_all (Some q)) e

pub params_lost : (n : Netlist) (p : Instance) (pairs : List Pair) (k : ℕ) (pair : Pair) → k < length pairs → pair ≡ get_or pairs k pair → None ≡ param_in n p pair → params_in n p pairs ≡ None
unfolding params_in
params_lost n p [] k pair inside here none = absurd (omega arith)
params_lost n p (x ∷ pairs) zero pair inside here none = ap (λ (o : Option Param). and_all o (params_in n p pairs)) (sym (none ∙ ap (param_in n p) here))
params_lost n p (x ∷ pairs) (suc k) pair inside here none = none_rest (param_in n p x) (params_in n p pairs) (params_lost n p pairs k pair (omega arith) here none)

-- ## One value

pub param_lost : (n : Netlist) (p : Instance) (pair : Pair) (steps : ℕ) (u : Use) → steps ≡ pairs_above n p → u ≡ record { text = pair.value; scope = Inside p }
    → None ≡ last_text n (suc steps) u → None ≡ param_in n p pair
unfolding value_in
param_lost n p pair steps u all start e =
    ap (λ (o : Option (List ℕ)). option_map (λ (v : Value). let q : Param = record { name = pair.name; value = v } in q) (option_map value_of_text o))
    (e ∙ (λ i. last_text n (suc (all i)) (start i)))

pub param_found : (n : Netlist) (p : Instance) (pair : Pair) (steps : ℕ) (u : Use) (t : List ℕ) (q : Param) → steps ≡ pairs_above n p → u ≡ record { text = pair.value; scope = Inside p }
    → Some t ≡ last_text n (suc steps) u → q ≡ record { name = pair.name; value = value_of_text t } → Some q ≡ param_in n p pair
unfolding value_in
param_found n p pair steps u t q all start e is =
    ap Some is
    ∙ ap (λ (o : Option (List ℕ)). option_map (λ (v : Value). let r : Param = record { name = pair.name; value = v } in r) (option_map value_of_text o))
    (e ∙ (λ i. last_text n (suc (all i)) (start i)))
