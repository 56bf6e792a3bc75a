-- Following with more steps than are needed.
use Rattle.std.proofs.Common.{◌≡◌, ℕ, zero, suc, List}
use Rattle.std.specs.Prelude.{Option, Some, None}
use Rattle.std.specs.Option.{option_map_or}
use Rattle.std.proofs.lemmas.Option.{none-some}
use Rattle.cvc_cdl.specs.declared.netlist.Netlist.{Netlist}
use Rattle.cvc_params.specs.Params.{Use, next, last_text}

step_more : (f g : Use → Option (List ℕ)) (o : Option Use) (here : Option (List ℕ)) (t : List ℕ)
    → ((u : Use) → f u ≡ Some t → g u ≡ Some t) → option_map_or f o here ≡ Some t → option_map_or g o here ≡ Some t
step_more f g None here t more e = e
step_more f g (Some u) here t more e = more u e

pub last_more : (n : Netlist) (k : ℕ) (u : Use) (t : List ℕ) → last_text n k u ≡ Some t → last_text n (suc k) u ≡ Some t
unfolding last_text
last_more n zero u t e = absurd (none-some t e)
last_more n (suc k) u t e = step_more (last_text n k) (last_text n (suc k)) (next n u) (Some u.text) t (λ v. last_more n k v t) e
