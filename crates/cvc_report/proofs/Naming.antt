-- The lines of nets, one behind another.
use Rattle.std.proofs.Common.{◌≡◌, ℕ, zero, suc, ◌+◌, ◌-◌, ◌<◌, List, refl, subst, arith, add-one}
use Rattle.std.specs.Prelude.{Ok, Err}
use Rattle.cvc_io.specs.declared.error.WriteFailed.{WriteFailed}
use Rattle.cvc_flat.specs.Flat.{FlatList}
use Rattle.cvc_law.specs.declared.interval.Interval.{Interval}
use Rattle.cvc_law.specs.Network.{Network}
use Rattle.cvc_text.specs.Putting.{Stand, Puts, HasPut}
use Rattle.cvc_text.proofs.Putting.{as_put, as_stopped, puts_then, puts_stopped}
use Rattle.cvc_report.specs.Report.{net_line, net_lines_below}

pub nets_more : (c : Network) (f : FlatList) (v : List Interval) (n : ℕ) (u : Unit {0}) (s a b : Stand) → HasPut s a (net_lines_below c f v n) → Puts {E = WriteFailed} (Ok u) a b (net_line c f v n) → HasPut s b (net_lines_below c f v (n + 1))
nets_more c f v n u s a b before more = rw add-one (as_put u s b _ (puts_then {E = WriteFailed} tt (Ok u) s a b (net_lines_below c f v n) (net_line c f v n) before more))

stops_from : (c : Network) (f : FlatList) (v : List Interval) (n k all : ℕ) (e : WriteFailed) (a b : Stand) → all ≡ n + 1 + k → Puts {T = Unit {0}} (Err e) a b (net_lines_below c f v (n + 1)) → Puts {T = Unit {0}} (Err e) a b (net_lines_below c f v all)
stops_from c f v n zero all e a b is stops =
    let P : ℕ → Type 0 = λ m. Puts {T = Unit {0}} (Err e) a b (net_lines_below c f v m) in
    let same : n + 1 ≡ all = omega (arith, is) in
    subst P same stops
stops_from c f v n (suc k) all e a b is stops =
    let P : ℕ → Type 0 = λ m. Puts {T = Unit {0}} (Err e) a b (net_lines_below c f v m) in
    let last = n + 1 + k in
    let same : suc last ≡ all = omega (arith, is) in
    subst P same (puts_stopped e e a b (net_lines_below c f v last) (net_line c f v last) (stops_from c f v n k last e a b refl stops))

pub nets_stopped : (c : Network) (f : FlatList) (v : List Interval) (n all : ℕ) (d e : WriteFailed) (s a b : Stand) → n < all → HasPut s a (net_lines_below c f v n) → Puts {T = Unit {0}} (Err d) a b (net_line c f v n) → Puts {T = Unit {0}} (Err e) s b (net_lines_below c f v all)
nets_stopped c f v n all d e s a b lt before stops =
    let both = puts_then {E = WriteFailed} tt (Err d) s a b (net_lines_below c f v n) (net_line c f v n) before stops in
    let one : Puts {T = Unit {0}} (Err e) s b (net_lines_below c f v (n + 1)) = rw add-one (as_stopped d e s b _ both) in
    stops_from c f v n (all - (n + 1)) all e s b (omega (arith, lt)) one
