-- The parameters of a device are there exactly where none of its values is a loop.
use Rattle.std.proofs.Common.{◌≡◌, ℕ, suc, ◌||◌, List, [], ◌∷◌, refl, ◌∙◌}
use Rattle.std.specs.Prelude.{Option, Some, None, is_none}
use Rattle.std.specs.Option.{option_map}
use Rattle.cvc_base.specs.declared.param.Pair.{Pair}
use Rattle.cvc_base.specs.declared.param.Param.{Param}
use Rattle.cvc_base.specs.declared.param.Value.{Value}
use Rattle.cvc_cdl.specs.declared.netlist.Netlist.{Netlist}
use Rattle.cvc_cdl.specs.Instances.{Instance}
use Rattle.cvc_params.specs.Params.{Inside, Use, and_all, last_text, pairs_above, param_in, params_in, value_in, value_of_text}
use Rattle.cvc_params.specs.Places.{comes_twice, has_loop}
use Rattle.cvc_params.proofs.Chains.{none_twice, sees_itself}

none_map : {A B : Type 0} (f : A → B) (o : Option A) → is_none (option_map f o) ≡ is_none o
none_map f None = refl
none_map f (Some x) = refl

none_all : (p : Option Param) (ps : Option (List Param)) → is_none (and_all p ps) ≡ (is_none p || is_none ps)
none_all None ps = refl
none_all (Some p) None = refl
none_all (Some p) (Some ps) = refl

value_none : (n : Netlist) (p : Instance) (text : List ℕ) → is_none (value_in n p text) ≡ comes_twice n p text
unfolding value_in comes_twice
value_none n p text =
    let u : Use = record { text = text; scope = Inside p } in
    none_map value_of_text (last_text n (suc (pairs_above n p)) u) ∙ none_twice n p u (sees_itself p)

pub params_none : (n : Netlist) (p : Instance) (pairs : List Pair) → is_none (params_in n p pairs) ≡ has_loop n p pairs
unfolding params_in
params_none n p [] = refl
params_none n p (pair ∷ pairs) =
    let first : is_none (param_in n p pair) ≡ comes_twice n p pair.value =
    none_map (λ (v : Value). let q : Param = record { name = pair.name; value = v } in q) (value_in n p pair.value) ∙ value_none n p pair.value in
    let rest : is_none (params_in n p pairs) ≡ has_loop n p pairs = params_none n p pairs in
    none_all (param_in n p pair) (params_in n p pairs) ∙ (λ i. first i || rest i)
