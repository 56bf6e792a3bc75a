-- The steps of a run one after another: what they say together, and which of their files are due.
use Rattle.std.proofs.Common.{◌≡◌, ℕ, true, List, ◌∷◌, length, map, Option, Some, None, Result, Ok, Err, refl, sym, ap, subst, ◌∙◌, inl, inr}
use Rattle.std.specs.Prelude.{IfOk, IfSome, is_ok}
use Rattle.cvc_base.specs.Answers.{Gives}
use Rattle.cvc_base.specs.declared.fault.Fault.{Fault}
use Rattle.cvc_base.specs.declared.fault.Refusal.{Refusal}
use Rattle.cvc_bind.specs.Bound.{circuit_of}
use Rattle.cvc_flat.specs.Flat.{FlatList}
use Rattle.cvc_io.specs.Causes.{Rose}
use Rattle.cvc_io.specs.Files.{Counts, Files, content}
use Rattle.cvc_law.specs.Network.{Network}
use Rattle.cvc_model.specs.declared.row.ModelRow.{ModelRow}
use Rattle.cvc_model.specs.Models.{models_of}
use Rattle.cvc_power.specs.declared.row.PowerRow.{PowerRow}
use Rattle.cvc_power.specs.Power.{power_of}
use Rattle.cvc_run.specs.Due.{is_accepted}
use Rattle.cvc_run.specs.Loads.{OfContent}
use Rattle.cvc_run.specs.Said.{Parts, Whole, bound_of, bound_with, design_of, flat_of_file, parts, whole}
use Rattle.cvc_run.specs.Stages.{at_stage}
use Rattle.cvc_run.specs.Stops.{Says, as_load, as_step}
use Rattle.cvc_run.specs.declared.stage.Refused.{Refused}
use Rattle.cvc_run.specs.declared.stage.Stage.{Stage}
use Rattle.cvc_run.specs.declared.stage.Stage.TheVariants.{Netlist, Models, Power, Binding}
use Rattle.cvc_run.specs.declared.stop.RunStop.{RunStop}
use Rattle.cvc_base.specs.Order.{◌>>=◌}
use Rattle.cvc_run.proofs.Loading.{loads_gives, says_first, says_loads, says_next}

-- ## What one step says

pub says_stopped : {A B : Type 0} (view : A → B) (stage : Stage) (r : Result A (RunStop Fault)) (w : Result B Fault) (x : RunStop Refused) → Err x ≡ as_step stage r → Says view r w → Says view (Err x) (at_stage stage w)
says_stopped view stage r w x e h = subst (λ v. Says view v (at_stage stage w)) (sym e) (says_loads view stage r w h)

pub says_accepted : {A B : Type 0} (view : A → B) (stage : Stage) (r : Result A (RunStop Fault)) (w : Result B Fault) (x : A) → Ok x ≡ as_step stage r → Says view r w → at_stage stage w ≡ Ok (view x)
says_accepted view stage r w x e h = subst (λ v. Says view v (at_stage stage w)) (sym e) (says_loads view stage r w h)

step_said : {B : Type 0} (stage : Stage) (w : Result B Fault) (x : B) → at_stage stage w ≡ Ok x → w ≡ Ok x
step_said stage (Ok y) x e = cc
step_said stage (Err fault) x e = cc

-- ## The netlist and the models

module _ (top : Option (List ℕ)) (netlist models : List ℕ) {A : Type 0} (view : A → Parts) where
  pub design_at_netlist : {F : Type 0} (flat : F → FlatList) (x : RunStop Refused) → Says flat (Err x) (at_stage Netlist (flat_of_file top netlist)) → Says view (Err x) (design_of top netlist models)
  unfolding design_of
  design_at_netlist flat x h = says_first flat view x (at_stage Netlist (flat_of_file top netlist)) (λ flat. ◌>>=◌ (at_stage Models (models_of models)) (λ rows. Ok (parts flat rows))) h

  module _ (flat : FlatList) (read : at_stage Netlist (flat_of_file top netlist) ≡ Ok flat) where
    pub design_at_models : {M : Type 0} (rows : M → List ModelRow) (x : RunStop Refused) → Says rows (Err x) (at_stage Models (models_of models)) → Says view (Err x) (design_of top netlist models)
    unfolding design_of
    design_at_models rows x h =
        says_next view (Err x) (at_stage Netlist (flat_of_file top netlist)) flat (λ flat. ◌>>=◌ (at_stage Models (models_of models)) (λ rows. Ok (parts flat rows))) read
        (says_first rows view x (at_stage Models (models_of models)) (λ rows. Ok (parts flat rows)) h)

    pub design_read : (rows : List ModelRow) → at_stage Models (models_of models) ≡ Ok rows → design_of top netlist models ≡ Ok (parts flat rows)
    unfolding design_of
    design_read rows e =
        ap (λ r. ◌>>=◌ r (λ flat. ◌>>=◌ (at_stage Models (models_of models)) (λ rows. Ok (parts flat rows)))) read
        ∙ ap (λ r. ◌>>=◌ r (λ rows. Ok (parts flat rows))) e

pub design_accepted : (top : Option (List ℕ)) (netlist models : List ℕ) (d : Parts) → design_of top netlist models ≡ Ok d → (flat_of_file top netlist ≡ Ok d.flat) × (models_of models ≡ Ok d.rows)
unfolding design_of
design_accepted top netlist models d e = by (flat_of_file top netlist) (models_of models) e
  where
    by : (f : Result FlatList Fault) (m : Result (List ModelRow) Fault) → ◌>>=◌ (at_stage Netlist f) (λ flat. ◌>>=◌ (at_stage Models m) (λ rows. Ok (parts flat rows))) ≡ Ok d → (f ≡ Ok d.flat) × (m ≡ Ok d.rows)
    by (Ok flat) (Ok rows) e = let same : parts flat rows ≡ d = cc in (ap (λ p. Ok p.flat) same, ap (λ p. Ok p.rows) same)
    by (Ok flat) (Err fault) e = cc
    by (Err fault) m e = cc

-- ## All together

module _ (top : Option (List ℕ)) (netlist models power : List ℕ) {A : Type 0} (view : A → Whole) where
  pub bound_at_design : {D : Type 0} (design : D → Parts) (x : RunStop Refused) → Says design (Err x) (design_of top netlist models) → Says view (Err x) (bound_of top netlist models power)
  unfolding bound_of
  bound_at_design design x h = says_first design view x (design_of top netlist models) (λ d. ◌>>=◌ (at_stage Power (power_of power)) (bound_with d)) h

  module _ (d : Parts) (read : design_of top netlist models ≡ Ok d) where
    pub bound_at_power : {P : Type 0} (rows : P → List PowerRow) (x : RunStop Refused) → Says rows (Err x) (at_stage Power (power_of power)) → Says view (Err x) (bound_of top netlist models power)
    unfolding bound_of
    bound_at_power rows x h =
        says_next view (Err x) (design_of top netlist models) d (λ d. ◌>>=◌ (at_stage Power (power_of power)) (bound_with d)) read
        (says_first rows view x (at_stage Power (power_of power)) (bound_with d) h)

    pub bound_read : (rows : List PowerRow) → at_stage Power (power_of power) ≡ Ok rows → (r : Result A (RunStop Refused)) → Says view r (bound_with d rows) → Says view r (bound_of top netlist models power)
    unfolding bound_of
    bound_read rows e r h =
        says_next view r (design_of top netlist models) d (λ d. ◌>>=◌ (at_stage Power (power_of power)) (bound_with d)) read
        (says_next view r (at_stage Power (power_of power)) rows (bound_with d) e h)

-- ## Files that are accepted

pub accepted_step : {A B : Type 0} (view : A → B) (stage : Stage) (r : Result A (RunStop Fault)) (said : List ℕ → Result B Fault) (files : Option Files) (name : List ℕ) (x : A) → Ok x ≡ as_step stage r
    → OfContent files name (λ bytes. Says view r (said bytes)) → is_accepted said files name ≡ true
accepted_step view stage r said None name x e h = refl
accepted_step view stage r said (Some fs) name x e h = ap is_ok (step_said stage (said (content fs name)) (view x) (says_accepted view stage r (said (content fs name)) x e h))

pub accepted_design : (top : Option (List ℕ)) (files : Option Files) (netlist models : List ℕ) (d : Parts) → IfSome files (λ fs. design_of top (content fs netlist) (content fs models) ≡ Ok d)
    → (is_accepted (flat_of_file top) files netlist ≡ true) × (is_accepted models_of files models ≡ true)
accepted_design top None netlist models d h = (refl, refl)
accepted_design top (Some fs) netlist models d h = let both = design_accepted top (content fs netlist) (content fs models) d h in (ap is_ok both.0, ap is_ok both.1)

pub bound_design : (top : Option (List ℕ)) (netlist models power : List ℕ) (w : Whole) → bound_of top netlist models power ≡ Ok w → (d : Parts) × (design_of top netlist models ≡ Ok d)
unfolding bound_of
bound_design top netlist models power w e = by (design_of top netlist models) refl e
  where
    by : (r : Result Parts Refused) → design_of top netlist models ≡ r → ◌>>=◌ r (λ d. ◌>>=◌ (at_stage Power (power_of power)) (bound_with d)) ≡ Ok w → (d : Parts) × (design_of top netlist models ≡ Ok d)
    by (Ok d) is e = (d, is)
    by (Err refusal) is e = cc

-- ## Binding

module _ (f : FlatList) (rows : List ModelRow) (power : List PowerRow) (r : Result Network Refusal) (gives : Gives (λ c. c) r (circuit_of f rows power)) (l : Result Network (RunStop Fault)) (loaded : l ≡ as_load r) where
  loads : Says (λ c. c) l (circuit_of f rows power)
  loads = subst (λ x. Says (λ (c : Network). c) x (circuit_of f rows power)) (sym loaded) (loads_gives (λ (c : Network). c) r (circuit_of f rows power) gives)

  module _ {A : Type 0} (view : A → Whole) where
    pub bind_stopped : (x : RunStop Refused) → Err x ≡ as_step Binding l → Says view (Err x) (bound_with (parts f rows) power)
    unfolding bound_with
    bind_stopped x e = says_first (λ (c : Network). c) view x (at_stage Binding (circuit_of f rows power)) (λ c. Ok (whole f c)) (says_stopped (λ (c : Network). c) Binding l (circuit_of f rows power) x e loads)

  pub bind_accepted : (c : Network) → Ok c ≡ as_step Binding l → bound_with (parts f rows) power ≡ Ok (whole f c)
  unfolding bound_with
  bind_accepted c e = ap (λ x. ◌>>=◌ x (λ c. Ok (whole f c))) (says_accepted (λ (c : Network). c) Binding l (circuit_of f rows power) c e loads)
