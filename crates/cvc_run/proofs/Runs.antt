-- What the steps of a run answer over the files of a shelf, where it tells them.
use Rattle.std.proofs.Common.{◌≡◌, ℕ, List, Option, Some, None, Result, Ok, Err, inl, inr, refl, ap}
use Rattle.std.specs.Prelude.{IfSome, is_ok}
use Rattle.cvc_flat.specs.Flat.{FlatList}
use Rattle.cvc_base.specs.declared.fault.Fault.{Fault}
use Rattle.cvc_flat.specs.Held.{Held}
use Rattle.cvc_io.specs.Causes.{Rose}
use Rattle.cvc_io.specs.Files.{Counts, Files, NoneFalls, content}
use Rattle.cvc_model.specs.declared.row.ModelRow.{ModelRow}
use Rattle.cvc_model.specs.Models.{models_of}
use Rattle.cvc_power.specs.declared.row.PowerRow.{PowerRow}
use Rattle.cvc_power.specs.Power.{power_of}
use Rattle.cvc_run.specs.Due.{DueFailed, OneFailed, Reading, bound_due, design_due, files_due}
use Rattle.cvc_run.specs.Loads.{OfContent}
use Rattle.cvc_run.specs.Said.{Parts, Whole, bound_of, bound_with, design_of, flat_of_file, parts, whole}
use Rattle.cvc_run.specs.Stages.{at_stage}
use Rattle.cvc_run.specs.Stops.{Says, SaysByFile, as_step, fault_of_stop}
use Rattle.cvc_run.specs.declared.stage.Refused.{Refused}
use Rattle.cvc_run.specs.declared.stage.Stage.TheVariants.{Netlist, Models, Power}
use Rattle.cvc_run.specs.declared.stages.Design.{Design}
use Rattle.cvc_run.specs.declared.stop.RunStop.{RunStop}
use Rattle.cvc_run.specs.declared.stop.RunStop.TheVariants.{At, Read, NoMemory}
use Rattle.cvc_run.specs.declared.whole.Whole.{Whole as WholeHeld}
use Rattle.cvc_run.proofs.FaultFiles.{design_refused}
use Rattle.cvc_run.proofs.Shelving.{rose_later}
use Rattle.cvc_run.proofs.Steps.{accepted_design, accepted_step, bound_at_design, bound_at_power, bound_design, bound_read, design_at_models, design_at_netlist, design_read, says_accepted, says_stopped}

abbrev pub list_of : Held → FlatList
list_of h = h.list

abbrev pub rows_of : List ModelRow → List ModelRow
rows_of rows = rows

abbrev pub spans_of : List PowerRow → List PowerRow
spans_of rows = rows

abbrev pub parts_of : Design → Parts
parts_of d = parts d.flat.list d.models

abbrev pub whole_of : WholeHeld → Whole
whole_of w = whole w.flat.list w.circuit

-- ## Of texts

module _ (top : Option (List ℕ)) (netlist models : List ℕ) (flat : Result Held (RunStop Fault)) (said : Says list_of flat (flat_of_file top netlist)) where
  pub text_stops_at_netlist : (x : RunStop Refused) → Err x ≡ as_step Netlist flat → Says parts_of (Err x) (design_of top netlist models)
  text_stops_at_netlist x e = design_at_netlist top netlist models parts_of list_of x (says_stopped list_of Netlist flat (flat_of_file top netlist) x e said)

  module _ (f : Held) (ok : Ok f ≡ as_step Netlist flat) (rows : Result (List ModelRow) (RunStop Fault)) (read : Says rows_of rows (models_of models)) where
    accepted : at_stage Netlist (flat_of_file top netlist) ≡ Ok f.list
    accepted = says_accepted list_of Netlist flat (flat_of_file top netlist) f ok said

    pub text_stops_at_models : (x : RunStop Refused) → Err x ≡ as_step Models rows → Says parts_of (Err x) (design_of top netlist models)
    text_stops_at_models x e = design_at_models top netlist models parts_of f.list accepted rows_of x (says_stopped rows_of Models rows (models_of models) x e read)

    pub text_read : (r : List ModelRow) → Ok r ≡ as_step Models rows → design_of top netlist models ≡ Ok (parts f.list r)
    text_read r e = design_read top netlist models parts_of f.list accepted r (says_accepted rows_of Models rows (models_of models) r e read)

-- ## Of files

module _ (files : Option Files) (top : Option (List ℕ)) (netlist models : List ℕ) (flat : Result Held (RunStop Fault)) (said : OfContent files netlist (λ bytes. Says list_of flat (flat_of_file top bytes))) where
  pub stops_at_netlist : (x : RunStop Refused) → Err x ≡ as_step Netlist flat → IfSome files (λ fs. Says parts_of (Err x) (design_of top (content fs netlist) (content fs models)))
  stops_at_netlist x e = by files said
    where
      by : (o : Option Files) → OfContent o netlist (λ bytes. Says list_of flat (flat_of_file top bytes)) → IfSome o (λ fs. Says parts_of (Err x) (design_of top (content fs netlist) (content fs models)))
      by None h = tt
      by (Some fs) h = text_stops_at_netlist top (content fs netlist) (content fs models) flat h x e

  module _ (f : Held) (ok : Ok f ≡ as_step Netlist flat) (rows : Result (List ModelRow) (RunStop Fault)) (read : OfContent files models (λ bytes. Says rows_of rows (models_of bytes))) where
    pub stops_at_models : (x : RunStop Refused) → Err x ≡ as_step Models rows → IfSome files (λ fs. Says parts_of (Err x) (design_of top (content fs netlist) (content fs models)))
    stops_at_models x e = by files said read
      where
        by : (o : Option Files) → OfContent o netlist (λ bytes. Says list_of flat (flat_of_file top bytes)) → OfContent o models (λ bytes. Says rows_of rows (models_of bytes))
            → IfSome o (λ fs. Says parts_of (Err x) (design_of top (content fs netlist) (content fs models)))
        by None h k = tt
        by (Some fs) h k = text_stops_at_models top (content fs netlist) (content fs models) flat h f ok rows k x e

    pub both_read : (r : List ModelRow) → Ok r ≡ as_step Models rows → IfSome files (λ fs. design_of top (content fs netlist) (content fs models) ≡ Ok (parts f.list r))
    both_read r e = by files said read
      where
        by : (o : Option Files) → OfContent o netlist (λ bytes. Says list_of flat (flat_of_file top bytes)) → OfContent o models (λ bytes. Says rows_of rows (models_of bytes))
            → IfSome o (λ fs. design_of top (content fs netlist) (content fs models) ≡ Ok (parts f.list r))
        by None h k = tt
        by (Some fs) h k = text_read top (content fs netlist) (content fs models) flat h f ok rows k r e

    -- the models are due
    pub models_failed : (a b c : Counts) → NoneFalls a b → Rose (b models) (c models) → DueFailed (design_due files top netlist models) a c
    models_failed a b c less rose = inr (accepted_step list_of Netlist flat (flat_of_file top) files netlist f ok said, inl (rose_later (a models) (b models) (c models) (less models) rose))

-- a fault alone, which names the file that is refused
pub stops_by_file : (files : Option Files) (top : Option (List ℕ)) (netlist models : List ℕ) (x : RunStop Refused) → IfSome files (λ fs. Says parts_of (Err x) (design_of top (content fs netlist) (content fs models)))
    → IfSome files (λ fs. SaysByFile parts_of (Err (fault_of_stop x)) (design_of top (content fs netlist) (content fs models)))
stops_by_file None top netlist models x h = tt
stops_by_file (Some fs) top netlist models (At r) h = design_refused top (content fs netlist) (content fs models) r h
stops_by_file (Some fs) top netlist models Read h = tt
stops_by_file (Some fs) top netlist models NoMemory h = tt

-- ## Of the three files

module _ (files : Option Files) (top : Option (List ℕ)) (netlist models power : List ℕ) where
  pub files_stop_at_design : (x : RunStop Refused) → IfSome files (λ fs. Says parts_of (Err x) (design_of top (content fs netlist) (content fs models))) → IfSome files (λ fs. Says whole_of (Err x) (bound_of top (content fs netlist) (content fs models) (content fs power)))
  files_stop_at_design x h = by files h
    where
      by : (o : Option Files) → IfSome o (λ fs. Says parts_of (Err x) (design_of top (content fs netlist) (content fs models))) → IfSome o (λ fs. Says whole_of (Err x) (bound_of top (content fs netlist) (content fs models) (content fs power)))
      by None h = tt
      by (Some fs) h = bound_at_design top (content fs netlist) (content fs models) (content fs power) whole_of parts_of x h

  module _ (d : Design) (read : IfSome files (λ fs. design_of top (content fs netlist) (content fs models) ≡ Ok (parts_of d))) where
    pub files_stop_at_power : (x : RunStop Refused) → OfContent files power (λ bytes. Says spans_of (Err x) (at_stage Power (power_of bytes))) → IfSome files (λ fs. Says whole_of (Err x) (bound_of top (content fs netlist) (content fs models) (content fs power)))
    files_stop_at_power x h = by files read h
      where
        by : (o : Option Files) → IfSome o (λ fs. design_of top (content fs netlist) (content fs models) ≡ Ok (parts_of d)) → OfContent o power (λ bytes. Says spans_of (Err x) (at_stage Power (power_of bytes)))
            → IfSome o (λ fs. Says whole_of (Err x) (bound_of top (content fs netlist) (content fs models) (content fs power)))
        by None k h = tt
        by (Some fs) k h = bound_at_power top (content fs netlist) (content fs models) (content fs power) whole_of (parts_of d) k spans_of x h

    pub files_read : (rows : List PowerRow) → OfContent files power (λ bytes. at_stage Power (power_of bytes) ≡ Ok rows) → (r : Result WholeHeld (RunStop Refused)) → Says whole_of r (bound_with (parts_of d) rows) → IfSome files (λ fs. Says whole_of r (bound_of top (content fs netlist) (content fs models) (content fs power)))
    files_read rows h r says = by files read h
      where
        by : (o : Option Files) → IfSome o (λ fs. design_of top (content fs netlist) (content fs models) ≡ Ok (parts_of d)) → OfContent o power (λ bytes. at_stage Power (power_of bytes) ≡ Ok rows)
            → IfSome o (λ fs. Says whole_of r (bound_of top (content fs netlist) (content fs models) (content fs power)))
        by None k h = tt
        by (Some fs) k h = bound_read top (content fs netlist) (content fs models) (content fs power) whole_of (parts_of d) k rows h r says

    -- the power file is due
    pub power_failed : (a b c : Counts) → NoneFalls a b → Rose (b power) (c power) → DueFailed (files_due files top netlist models power) a c
    power_failed a b c less rose =
        let both = accepted_design top files netlist models (parts_of d) read in
        inr (both.0, inr (both.1, inl (rose_later (a power) (b power) (c power) (less power) rose)))

-- what is due for the design is due for all three
pub design_failed : (files : Option Files) (top : Option (List ℕ)) (netlist models power : List ℕ) (a c : Counts) → DueFailed (design_due files top netlist models) a c → DueFailed (files_due files top netlist models power) a c
design_failed files top netlist models power a c (inl rose) = inl rose
design_failed files top netlist models power a c (inr (flat, inl rose)) = inr (flat, inl rose)
design_failed files top netlist models power a c (inr (flat, inr (rows, none))) = absurd none

-- ## Files behind the three

-- what is due for the three is due with those behind them
pub three_failed : (files : Option Files) (top : Option (List ℕ)) (netlist models power : List ℕ) (later : List Reading) (a c : Counts) → DueFailed (files_due files top netlist models power) a c
    → DueFailed (bound_due files top netlist models power later) a c
three_failed files top netlist models power later a c (inl rose) = inl rose
three_failed files top netlist models power later a c (inr (flat, inl rose)) = inr (flat, inl rose)
three_failed files top netlist models power later a c (inr (flat, inr (rows, inl rose))) = inr (flat, inr (rows, inl rose))
three_failed files top netlist models power later a c (inr (flat, inr (rows, inr (bound, none)))) = absurd none

-- where the three are bound, those behind them are due
pub later_failed : (files : Option Files) (top : Option (List ℕ)) (netlist models power : List ℕ) (w : Whole) (later : List Reading) (a c : Counts)
    → IfSome files (λ fs. bound_of top (content fs netlist) (content fs models) (content fs power) ≡ Ok w) → OneFailed later a c → DueFailed (bound_due files top netlist models power later) a c
later_failed None top netlist models power w later a c bound failed = inr (refl, inr (refl, inr (refl, failed)))
later_failed (Some fs) top netlist models power w later a c bound failed =
    let d = bound_design top (content fs netlist) (content fs models) (content fs power) w bound in
    let both = accepted_design top (Some fs) netlist models d.0 d.1 in
    inr (both.0, inr (both.1, inr (ap is_ok bound, failed)))
