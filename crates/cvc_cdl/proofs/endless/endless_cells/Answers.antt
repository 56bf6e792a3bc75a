use Rattle.std.proofs.Common.{◌≡◌, length, ap, sym, ◌∙◌, List, Vec, ℕ, ◌<◌, ◌+◌, ◌-◌, ◌≤◌, ◌==◌, Bool, not, map, subst, arith}
use Rattle.std.specs.Prelude.{All, slice_index}
use Rattle.std.specs.declared.alloc.Global.{Global}
use Rattle.std.specs.Vec.{with_items}
use Rattle.std.proofs.lemmas.List.{with_items_is, length-map}
use Rattle.std.proofs.lemmas.List.Elements.{All-get_or}
use Rattle.std.proofs.lemmas.Result.{IfOk-weaker}
use Rattle.cvc_cdl.specs.Chains.{numbers_of, all_numbers, used_at, TellsEndless}
use Rattle.cvc_cdl.specs.Peeling.{AreListed, IsPeeled, times}
use Rattle.cvc_cdl.proofs.Peels.{peeled_first, peeled_next, counts_at, finite_few, taken_enough, users_below, answered, users_of_next}
use Rattle.cvc_cdl.proofs.endless.endless_cells.Goals as goal

pub loop-taken-init : goal.loop-taken-init
loop-taken-init c =
    let uses = c.args.uses.now in
    let left : List ℕ = c.in_ok-left.left.items in
    let long : length (all_numbers uses) ≡ length uses = length-map uses numbers_of in
    peeled_first (all_numbers uses) left c.in_ok-finite.finite.items
    (ap length c.in_ok-left.ensures ∙ (length-map uses (λ (used : Vec ℕ Global). length used.items) ∙ sym long))
    (λ i inside. ap (λ (xs : List ℕ). slice_index xs i) c.in_ok-left.ensures ∙ counts_at uses i (omega arith))
    (subst (λ (xs : List ℕ). AreListed xs c.in_ok-finite.finite.items) c.deref.ensures.value c.in_ok-finite.ensures)

-- the users of the next cell
next_users : (c : goal.After-finite-in-loop-taken-3-1) → used_at (all_numbers c.in_ok-users.users.items) (slice_index c.loop-taken.finite.items c.loop-taken.taken) ≡ c.deref-in-loop-taken.result.now
next_users c = users_of_next c.in_ok-users.users.items c.args.uses.now c.loop-taken.left.items c.loop-taken.finite.items c.loop-taken.taken c.index-cell.result.now c.index.result.now c.in_ok-users.ensures c.loop-taken.invariant (omega (arith, c.loop-taken.finite.ok)) c.index-cell.ensures c.index.ensures ∙ sym c.deref-in-loop-taken.ensures.value

pub take_uses-requires-clause-below : goal.take_uses-requires-clause-below
take_uses-requires-clause-below c =
    let uses : List (List ℕ) = all_numbers c.args.uses.now in
    let cell : ℕ = slice_index c.loop-taken.finite.items c.loop-taken.taken in
    let cell_below : cell < length c.loop-taken.left.items = All-get_or (λ (j : ℕ). j < length c.loop-taken.left.items) c.loop-taken.finite.items c.loop-taken.taken 0 (omega (arith, c.loop-taken.finite.ok)) c.loop-taken.invariant.listed.below in
    let long : length uses ≡ length c.deref_mut.result.now = sym c.loop-taken.invariant.sized ∙ sym (ap length c.deref_mut.ensures.value) in
    let below : All (λ j. j < length uses) (used_at (all_numbers c.in_ok-users.users.items) cell) = users_below uses (all_numbers c.in_ok-users.users.items) cell c.in_ok-users.ensures (omega (arith, c.loop-taken.invariant.sized)) in
    subst (λ n. All (λ j. j < n) c.deref-in-loop-taken.result.now) long (subst (λ (xs : List ℕ). All (λ j. j < length uses) xs) (next_users c) below)

pub take_uses-requires-clause-enough : goal.take_uses-requires-clause-enough
take_uses-requires-clause-enough c = λ i.
    let enough : times i (used_at (all_numbers c.in_ok-users.users.items) (slice_index c.loop-taken.finite.items c.loop-taken.taken)) ≤ slice_index c.loop-taken.left.items i = taken_enough (all_numbers c.args.uses.now) (all_numbers c.in_ok-users.users.items) c.loop-taken.taken c.loop-taken.left.items c.loop-taken.finite.items c.in_ok-users.ensures c.loop-taken.invariant (omega (arith, c.loop-taken.finite.ok)) i in
    subst (λ (xs : List ℕ). times i c.deref-in-loop-taken.result.now ≤ slice_index xs i) (sym c.deref_mut.ensures.value) (subst (λ (xs : List ℕ). times i xs ≤ slice_index c.loop-taken.left.items i) (next_users c) enough)

pub loop-taken-smaller : goal.loop-taken-smaller
loop-taken-smaller c =
    let few : length c.loop-taken.finite.items ≤ length (all_numbers c.args.uses.now) = finite_few (all_numbers c.args.uses.now) c.loop-taken.taken c.loop-taken.left.items c.loop-taken.finite.items c.loop-taken.invariant in
    let less : length c.args.uses.now - (c.loop-taken.taken + 1) < length c.args.uses.now - c.loop-taken.taken = omega (arith, length-map c.args.uses.now numbers_of, c.loop-taken.finite.ok) in
    less

pub loop-taken-preserved : goal.loop-taken-preserved
loop-taken-preserved c =
    let next : used_at (all_numbers c.in_ok-users.users.items) (slice_index c.loop-taken.finite.items c.loop-taken.taken) ≡ c.deref-in-loop-taken.result.now = users_of_next c.in_ok-users.users.items c.args.uses.now c.loop-taken.left.items c.loop-taken.finite.items c.loop-taken.taken c.index-cell.result.now c.index.result.now c.in_ok-users.ensures c.loop-taken.invariant (omega (arith, c.loop-taken.finite.ok)) c.index-cell.ensures c.index.ensures ∙ sym c.deref-in-loop-taken.ensures.value in
    let sized : length c.take_uses.new.left ≡ c.loop-taken.left.len = c.take_uses.auto.left ∙ c.deref_mut.ensures.len in
    let put : (with_items c.loop-taken.left c.take_uses.new.left).items ≡ c.take_uses.new.left = with_items_is c.loop-taken.left c.take_uses.new.left sized in
    let same_list : c.deref_mut.result.now ≡ c.loop-taken.left.items = c.deref_mut.ensures.value in
    subst (λ (xs : List ℕ). IsPeeled (all_numbers c.args.uses.now) (c.loop-taken.taken + 1) xs c.take_uses.new.finite.items) (sym put)
    (peeled_next (all_numbers c.args.uses.now) (all_numbers c.in_ok-users.users.items) c.loop-taken.taken c.loop-taken.left.items c.loop-taken.finite.items c.take_uses.new.left c.take_uses.new.finite.items c.in_ok-take_uses.ensures.more.0 c.in_ok-users.ensures c.loop-taken.invariant (omega (arith, c.loop-taken.finite.ok))
    (c.take_uses.auto.left ∙ ap length same_list)
    (λ i. ap (λ (xs : List ℕ). slice_index c.take_uses.new.left i + times i xs) next ∙ (c.in_ok-take_uses.ensures.taken i ∙ ap (λ (xs : List ℕ). slice_index xs i) same_list))
    c.in_ok-take_uses.ensures.listed c.in_ok-take_uses.ensures.more.1)

pub returns : goal.returns
returns c =
    let left : List ℕ = c.loop-taken.left.items in
    let told : TellsEndless (all_numbers c.args.uses.now) (map (λ n. not (n == 0)) left) = answered (all_numbers c.args.uses.now) c.loop-taken.taken left c.loop-taken.finite.items c.requires c.loop-taken.invariant (omega (arith, c.loop-taken.finite.ok)) in
    IfOk-weaker c.have_uses.result (λ v. v.items ≡ map (λ n. not (n == 0)) c.deref-2.result.now) (λ v. TellsEndless (all_numbers c.args.uses.now) v.items) (λ v is. subst (λ (bs : List Bool). TellsEndless (all_numbers c.args.uses.now) bs) (sym (is ∙ ap (map (λ n. not (n == 0))) c.deref-2.ensures.value)) told) c.have_uses.ensures
