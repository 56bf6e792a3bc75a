-- Names that find nets, none twice, are no more than the nets.
use Rattle.std.proofs.Common.{◌≡◌, ℕ, zero, suc, ◌+◌, ◌<◌, ◌≤◌, Bool, true, false, ◌||◌, List, [], ◌∷◌, ◌++◌, length, map, refl, sym, ap, ◌∙◌, arith, if◌then◌else◌}
use Rattle.std.specs.Prelude.{◌==◌, nat_eq, All, Option, Some, None, Result, Ok, Err}
use Rattle.std.proofs.lemmas.Grind.{common_steps}
use Rattle.std.proofs.lemmas.List.Elements.{All-head, All-tail}
use Rattle.cvc_base.specs.declared.cause.Cause.TheVariants.{SameNetTwice}
use Rattle.cvc_base.specs.declared.ids.NetId.{NetId}
use Rattle.cvc_base.specs.Order.{◌>>=◌}
use Rattle.cvc_bind.specs.declared.nets.Misnamed.{Misnamed}
use Rattle.cvc_bind.specs.Nets.{next_net, nets_behind, nets_of, stands_in}
use Rattle.cvc_flat.specs.Flat.{FlatList}
use Rattle.cvc_flat.specs.FindNet.{find_net}

-- ## How often a number stands among nets

abbrev unit : Bool → ℕ
unit true = 1
unit false = 0

abbrev times : ℕ → List NetId → ℕ
times n [] = 0
times n (net ∷ nets) = times n nets + unit (net.0 == n)

abbrev Once : List NetId → Type 0
Once nets = (n : ℕ) → times n nets ≤ 1

never : (nets : List NetId) (n : ℕ) → stands_in nets n ≡ false → times n nets ≡ 0
never [] n e = refl
never (net ∷ nets) n e = by (net.0 == n) refl (never nets n) e
  where
    by : (b : Bool) → (net.0 == n) ≡ b → (stands_in nets n ≡ false → times n nets ≡ 0) → (b || stands_in nets n) ≡ false → times n nets + unit (net.0 == n) ≡ 0
    by true is rest none = cc
    by false is rest none =
        let no_one : unit (net.0 == n) ≡ 0 = ap unit is in
        let no_more : times n nets ≡ 0 = rest none in
        omega (arith, no_one, no_more)

times_more : (nets : List NetId) (net : NetId) (n : ℕ) → times n (nets ++ net ∷ []) ≡ times n nets + unit (net.0 == n)
times_more [] net n = refl
times_more (m ∷ nets) net n = let rest = times_more nets net n in omega (arith, rest)

once_more : (nets : List NetId) (k : ℕ) → stands_in nets k ≡ false → Once nets → (n : ℕ) → times n (nets ++ record { 0 = k } ∷ []) ≤ 1
once_more nets k new once n = by (nat_eq k n) refl
  where
    more : times n (nets ++ record { 0 = k } ∷ []) ≡ times n nets + unit (k == n)
    more = times_more nets (record { 0 = k }) n

    by : (b : Bool) → nat_eq k n ≡ b → times n (nets ++ record { 0 = k } ∷ []) ≤ 1
    by true e =
        let same : k ≡ n = grind (arith, common_steps) in
        let none : times n nets ≡ 0 = ap (λ m. times m nets) (sym same) ∙ never nets k new in
        let one : unit (k == n) ≡ 1 = ap unit e in
        omega (arith, more, none, one)
    by false e = let no_one : unit (k == n) ≡ 0 = ap unit e in omega (arith, more, once n, no_one)

-- ## The nets that names find

found_once : (f : FlatList) (names : List (List ℕ)) (earlier nets : List NetId) → nets_behind f earlier names ≡ Ok nets → Once earlier → (n : ℕ) → times n nets ≤ 1
unfolding nets_behind
found_once f [] earlier nets e once n = let same : earlier ≡ nets = cc in omega (arith, once n, ap (times n) same)
found_once f (name ∷ names) earlier nets e once n = by (find_net f name) (λ k h more. found_once f names (earlier ++ record { 0 = k } ∷ []) nets h more n) e
  where
    at : (k : ℕ) → (nets_behind f (earlier ++ record { 0 = k } ∷ []) names ≡ Ok nets → Once (earlier ++ record { 0 = k } ∷ []) → times n nets ≤ 1) → (b : Bool) → stands_in earlier k ≡ b
        → ◌>>=◌ (if b then Err record { place = length earlier; cause = SameNetTwice } else Ok record { 0 = k }) (λ (net : NetId). nets_behind f (earlier ++ net ∷ []) names) ≡ Ok nets → times n nets ≤ 1
    at k rest true is h = cc
    at k rest false is h = rest h (once_more earlier k is once)

    by : (o : Option ℕ) → ((k : ℕ) → nets_behind f (earlier ++ record { 0 = k } ∷ []) names ≡ Ok nets → Once (earlier ++ record { 0 = k } ∷ []) → times n nets ≤ 1)
        → ◌>>=◌ (next_net earlier o) (λ (net : NetId). nets_behind f (earlier ++ net ∷ []) names) ≡ Ok nets → times n nets ≤ 1
    by None rest h = cc
    by (Some k) rest h = at k (rest k) (stands_in earlier k) refl h

-- ## How many there are

abbrev below : ℕ → List NetId → ℕ
below zero nets = 0
below (suc m) nets = below m nets + times m nets

below_few : (m : ℕ) (nets : List NetId) → Once nets → below m nets ≤ m
below_few zero nets once = omega arith
below_few (suc m) nets once = let rest = below_few m nets once in omega (arith, rest, once m)

below_cons : (m : ℕ) (net : NetId) (nets : List NetId) → below m (net ∷ nets) ≡ below m nets + below m (net ∷ [])
below_cons zero net nets = omega arith
below_cons (suc m) net nets = let rest = below_cons m net nets in omega (arith, rest)

below_one : (m : ℕ) (net : NetId) → net.0 < m → 1 ≤ below m (net ∷ [])
below_one zero net inside = absurd (omega (arith, inside))
below_one (suc m) net inside = by (nat_eq net.0 m) refl (below_one m net)
  where
    by : (b : Bool) → nat_eq net.0 m ≡ b → (net.0 < m → 1 ≤ below m (net ∷ [])) → 1 ≤ below m (net ∷ []) + (0 + unit (net.0 == m))
    by true e rest = let one : unit (net.0 == m) ≡ 1 = ap unit e in omega (arith, one)
    by false e rest =
        let low : net.0 < m = grind (arith, common_steps) in
        let more = rest low in
        omega (arith, more)

all_below : (m : ℕ) (nets : List NetId) → All (λ (net : NetId). net.0 < m) nets → length nets ≤ below m nets
all_below m [] inside = omega arith
all_below m (net ∷ nets) inside =
    let rest = all_below m nets (All-tail (λ (n : NetId). n.0 < m) net nets inside) in
    let one = below_one m net (All-head (λ (n : NetId). n.0 < m) net nets inside) in
    omega (arith, rest, one, below_cons m net nets)

pub few_found : (f : FlatList) (names : List (List ℕ)) (nets : List NetId) (m : ℕ) → nets_of f names ≡ Ok nets → All (λ (net : NetId). net.0 < m) nets → length nets ≤ m
few_found f names nets m e inside =
    let once : Once nets = found_once f names [] nets e (λ n. omega arith) in
    omega (arith, all_below m nets inside, below_few m nets once)
