-- Modes that are bound one by one.
use Rattle.std.proofs.Common.{◌≡◌, ℕ, ◌+◌, ◌<◌, ◌≤◌, suc, List, [], ◌∷◌, ◌++◌, length, map, drop, drop-cons, get_or, All, Result, Ok, Err, refl, sym, ap, subst, ◌∙◌, add-one, arith, length-append}
use Rattle.std.proofs.lemmas.List.{drop_all, map-append}
use Rattle.std.proofs.lemmas.List.Elements.{All-push}
use Rattle.cvc_base.specs.declared.fault.Fault.{Fault}
use Rattle.cvc_base.specs.Order.{◌>>=◌}
use Rattle.cvc_bind.specs.Bound.{circuit_of}
use Rattle.cvc_flat.specs.Flat.{FlatList}
use Rattle.cvc_law.specs.Network.{Network}
use Rattle.cvc_model.specs.declared.row.ModelRow.{ModelRow}
use Rattle.cvc_power.specs.declared.row.PowerRow.{PowerRow}
use Rattle.cvc_modes.specs.declared.check.Task.{Task}
use Rattle.cvc_modes.specs.Checked.{IsBoundFrom, Unbound, in_mode, circuits_behind, circuits_of}
use Rattle.cvc_modes.specs.Tasks.{circuit_to_settle}

module _ (f : FlatList) (models : List ModelRow) (powers : List (List PowerRow)) where
  -- the circuits of these tasks are those of the first modes
  pub record IsSoFar (tasks : List Task) (i : ℕ) : Type 0 where
    pub rest : circuits_of f models powers ≡ circuits_behind f models (map circuit_to_settle tasks) (drop i powers)
    pub count : length (map circuit_to_settle tasks) ≡ i

  module _ (tasks : List Task) (i : ℕ) (power : List PowerRow) (inside : i < length powers) (there : power ≡ get_or powers i power) (so_far : IsSoFar tasks i) where
    next : (r : Result Network Fault) → circuit_of f models power ≡ r → circuits_of f models powers ≡ ◌>>=◌ (in_mode i r) (λ c. circuits_behind f models (map circuit_to_settle tasks ++ c ∷ []) (drop (suc i) powers))
    unfolding circuits_behind
    next r e =
        so_far.rest ∙ ap (circuits_behind f models (map circuit_to_settle tasks)) (drop-cons powers i power inside ∙ (λ k. sym there k ∷ drop (suc i) powers))
        ∙ (λ k. ◌>>=◌ (in_mode (so_far.count k) (e k)) (λ c. circuits_behind f models (map circuit_to_settle tasks ++ c ∷ []) (drop (suc i) powers)))

    pub one_refused : (fault : Fault) → circuit_of f models power ≡ Err fault → circuits_of f models powers ≡ Err (record { mode = i; fault = fault })
    one_refused fault e = next (Err fault) e

    pub so_far_more : (task : Task) (more : List Task) → more ≡ tasks ++ task ∷ [] → circuit_of f models power ≡ Ok task.circuit → IsSoFar more (i + 1)
    so_far_more task more pushed e =
        let all : map circuit_to_settle more ≡ map circuit_to_settle tasks ++ task.circuit ∷ [] = ap (map circuit_to_settle) pushed ∙ map-append circuit_to_settle tasks (task ∷ []) in
        record {
          rest = next (Ok task.circuit) e ∙ (λ k. circuits_behind f models (sym all k) (drop (sym (add-one i) k) powers));
          count = ap length all ∙ length-append (map circuit_to_settle tasks) (task.circuit ∷ []) ∙ ap (λ (n : ℕ). n + 1) so_far.count;
        }

  pub all_bound : (tasks : List Task) (i : ℕ) → length powers ≤ i → IsSoFar tasks i → circuits_of f models powers ≡ Ok (map circuit_to_settle tasks)
  unfolding circuits_behind
  all_bound tasks i ended so_far = so_far.rest ∙ ap (circuits_behind f models (map circuit_to_settle tasks)) (drop_all i powers ended)

pub none_bound : (f : FlatList) (models : List ModelRow) (powers : List (List PowerRow)) (tasks : List Task) → tasks ≡ [] → IsSoFar f models powers tasks 0
none_bound f models powers tasks e = subst (λ (l : List Task). IsSoFar f models powers l 0) (sym e) (record { rest = refl; count = refl })

pub bound_more : (f : FlatList) (tasks : List Task) (task : Task) (more : List Task) → more ≡ tasks ++ task ∷ [] → All (λ t. IsBoundFrom f t.circuit) tasks → IsBoundFrom f task.circuit → All (λ t. IsBoundFrom f t.circuit) more
bound_more f tasks task more pushed all one = subst (λ (l : List Task). All (λ t. IsBoundFrom f t.circuit) l) (sym pushed) (All-push (λ t. IsBoundFrom f t.circuit) tasks task all one)
