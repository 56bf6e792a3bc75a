-- Values that are numbers as they stand.
use Rattle.std.proofs.Common.{◌≡◌, ℕ, zero, suc, ◌+◌, ◌<◌, ◌&&◌, Bool, true, false, List, [], ◌∷◌, ◌++◌, length, take, get_or, refl, sym, ap, ◌∙◌, arith}
use Rattle.std.specs.Prelude.{Option, Some, None, is_none}
use Rattle.std.proofs.lemmas.Bool.{and_parts}
use Rattle.std.proofs.lemmas.Option.{none-some}
use Rattle.cvc_base.specs.declared.param.Pair.{Pair}
use Rattle.cvc_base.specs.declared.param.Param.{Param}
use Rattle.cvc_cdl.specs.declared.netlist.Netlist.{Netlist}
use Rattle.cvc_cdl.specs.Instances.{Instance}
use Rattle.cvc_params.specs.Params.{Inside, Use, and_all, pairs_above, param_in, params_in, value_of_text}
use Rattle.cvc_params.specs.Places.{has_loop}
use Rattle.cvc_params.specs.Plain.{are_plain, has_number}
use Rattle.cvc_params.proofs.Chains.{last_here}
use Rattle.cvc_params.proofs.Listing.{param_found, params_more}
use Rattle.cvc_params.proofs.Loops.{params_none}
use Rattle.cvc_params.proofs.Sighting.{next_number}

-- one number more in front of the rest
pub plain_front : (pairs : List Pair) (k : ℕ) (d : Pair) → k < length pairs → has_number (get_or pairs k d) ≡ true → are_plain (take k pairs) ≡ true → are_plain (take (k + 1) pairs) ≡ true
plain_front pairs k d inside number all =
    let next : k + 1 ≡ suc k = omega arith in
    ap (λ (j : ℕ). are_plain (take j pairs)) next ∙ front pairs k inside number all
  where
    front : (pairs : List Pair) (k : ℕ) → k < length pairs → has_number (get_or pairs k d) ≡ true → are_plain (take k pairs) ≡ true → are_plain (take (suc k) pairs) ≡ true
    front [] k inside number all = absurd (omega arith)
    front (p ∷ pairs) zero inside number all = ap (λ (b : Bool). b && true) number
    front (p ∷ pairs) (suc k) inside number all =
        let parts = and_parts (has_number p) (are_plain (take k pairs)) all in
        ap (λ (b : Bool). b && are_plain (take (suc k) pairs)) parts.0 ∙ front pairs k (omega arith) number parts.1

-- where one value is no number
pub plain_not : (pairs : List Pair) (k : ℕ) (d : Pair) → k < length pairs → has_number (get_or pairs k d) ≡ false → are_plain pairs ≡ false
plain_not [] k d inside word = absurd (omega arith)
plain_not (p ∷ pairs) zero d inside word = ap (λ (b : Bool). b && are_plain pairs) word
plain_not (p ∷ pairs) (suc k) d inside word = ap (λ (b : Bool). has_number p && b) (plain_not pairs k d (omega arith) word) ∙ and_false (has_number p)
  where
    and_false : (b : Bool) → (b && false) ≡ false
    and_false true = refl
    and_false false = refl

plain_param : (n : Netlist) (p : Instance) (pair : Pair) (q : Param) → has_number pair ≡ true → q ≡ record { name = pair.name; value = value_of_text pair.value } → Some q ≡ param_in n p pair
plain_param n p pair q number is =
    let u : Use = record { text = pair.value; scope = Inside p } in
    param_found n p pair (pairs_above n p) u pair.value q refl refl (sym (last_here n (pairs_above n p) u (next_number n u number))) is

-- the first of them have these parameters in every instance
abbrev pub HaveParams : List Pair → List Param → Type 0
HaveParams pairs params = (n : Netlist) (p : Instance) → params_in n p pairs ≡ Some params

pub plain_more : (pairs : List Pair) (k : ℕ) (pair : Pair) (ps : List Param) (q : Param) → has_number pair ≡ true → k < length pairs → pair ≡ get_or pairs k pair
    → q ≡ record { name = pair.name; value = value_of_text pair.value } → HaveParams (take k pairs) ps → HaveParams (take (k + 1) pairs) (ps ++ q ∷ [])
plain_more pairs k pair ps q number inside here is before = λ n p. params_more n p pairs k pair ps q inside here (before n p) (plain_param n p pair q number is)

-- and none of them is a loop
both_some : (q : Param) (o : Option Param) (ps : Option (List Param)) → Some q ≡ o → is_none ps ≡ false → is_none (and_all o ps) ≡ false
both_some q None ps e some = absurd (none-some q (sym e))
both_some q (Some r) None e some = some
both_some q (Some r) (Some ps) e some = refl

plain_some : (n : Netlist) (p : Instance) (pairs : List Pair) → are_plain pairs ≡ true → is_none (params_in n p pairs) ≡ false
unfolding params_in
plain_some n p [] all = refl
plain_some n p (pair ∷ pairs) all =
    let parts = and_parts (has_number pair) (are_plain pairs) all in
    let q : Param = record { name = pair.name; value = value_of_text pair.value } in
    both_some q (param_in n p pair) (params_in n p pairs) (plain_param n p pair q parts.0 refl) (plain_some n p pairs parts.1)

pub plain_loops : (n : Netlist) (p : Instance) (pairs : List Pair) → are_plain pairs ≡ true → has_loop n p pairs ≡ false
plain_loops n p pairs all = sym (params_none n p pairs) ∙ plain_some n p pairs all
