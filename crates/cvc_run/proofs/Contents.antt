-- What the files of a run say, one by one.
use Rattle.std.proofs.Common.{◌≡◌, ℕ, ◌<◌, ◌≤◌, All, List, length, get_or, Option, Some, None, Result, Ok, Err, sym, ap, subst, ◌∙◌, inl, inr, ◌⊎◌}
use Rattle.std.specs.Prelude.{IfOk, slice_get}
use Rattle.std.proofs.lemmas.Option.{get_or_from_slice_get, slice_get_cases}
use Rattle.cvc_base.specs.Answers.{Gives, IfAt}
use Rattle.cvc_base.specs.declared.fault.Fault.{Fault}
use Rattle.cvc_base.specs.declared.fault.FileKind.TheVariants.{Models as ModelsFile, Power as PowerFile}
use Rattle.cvc_base.specs.declared.fault.Refusal.{Refusal}
use Rattle.cvc_base.specs.declared.fault.Refusal.TheVariants as refusals
use Rattle.cvc_cdl.specs.declared.netlist.Netlist.{Netlist}
use Rattle.cvc_cdl.specs.File.{file_of}
use Rattle.cvc_flat.specs.Flat.{FlatList, flat_of, limits}
use Rattle.cvc_io.specs.Files.{Files}
use Rattle.cvc_model.specs.declared.row.ModelRow.{ModelRow}
use Rattle.cvc_model.specs.Models.{models_of, verdict as model_verdict}
use Rattle.cvc_power.specs.declared.row.PowerRow.{PowerRow}
use Rattle.cvc_power.specs.Power.{power_of, verdict as power_verdict}
use Rattle.cvc_rows.specs.Rows.{as_written, on_file}
use Rattle.cvc_run.specs.Loads.{OfContent, up_to}
use Rattle.cvc_run.specs.Said.{flat_of_file}
use Rattle.cvc_run.specs.Stops.{Says, as_load}
use Rattle.cvc_run.specs.declared.stop.RunStop.{RunStop}
use Rattle.cvc_run.specs.declared.stop.RunStop.TheVariants.{At, Read, NoMemory}
use Rattle.cvc_run.proofs.Limits.{rows-up_to}
use Rattle.cvc_run.proofs.Loading.{gives_both, loads_gives, of_weaker}
use Rattle.cvc_base.specs.Order.{◌>>=◌}

-- ## The flat list

flat_by : (top : Option (List ℕ)) (bytes : List ℕ) (r : Result Netlist Fault) → file_of bytes top ≡ r → flat_of_file top bytes ≡ ◌>>=◌ r (flat_of limits)
unfolding flat_of_file
flat_by top bytes r e = ap (λ x. ◌>>=◌ x (flat_of limits)) e

module _ {A : Type 0} (view : A → FlatList) (top : Option (List ℕ)) where
  flat_stopped : (bytes : List ℕ) (x : RunStop Fault) → Says {A = Netlist} (λ n. n) (Err x) (file_of bytes top) → Says view (Err x) (flat_of_file top bytes)
  flat_stopped bytes (At fault) h = flat_by top bytes (Err fault) h
  flat_stopped bytes Read h = tt
  flat_stopped bytes NoMemory h = tt

  pub flat_at_netlist : (files : Option Files) (name : List ℕ) (x : RunStop Fault) → OfContent files name (λ bytes. Says {A = Netlist} (λ n. n) (Err x) (file_of bytes top)) → OfContent files name (λ bytes. Says view (Err x) (flat_of_file top bytes))
  flat_at_netlist files name x h = of_weaker files name (λ bytes. Says {A = Netlist} (λ n. n) (Err x) (file_of bytes top)) (λ bytes. Says view (Err x) (flat_of_file top bytes)) (λ bytes k. flat_stopped bytes x k) h

  pub flat_of_text_stopped : (bytes : List ℕ) (x : Refusal) → Gives {A = Netlist} (λ n. n) (Err x) (file_of bytes top) → Gives view (Err x) (flat_of_file top bytes)
  flat_of_text_stopped bytes (refusals.At fault) h = flat_by top bytes (Err fault) h
  flat_of_text_stopped bytes refusals.NoMemory h = tt

  module _ (n : Netlist) (r : Result A Refusal) (gives : Gives view r (flat_of limits n)) where
    pub flat_of_text_read : (bytes : List ℕ) → file_of bytes top ≡ Ok n → Gives view r (flat_of_file top bytes)
    flat_of_text_read bytes e = subst (Gives view r) (sym (flat_by top bytes (Ok n) e)) gives

    pub flat_loaded : (files : Option Files) (name : List ℕ) → OfContent files name (λ bytes. file_of bytes top ≡ Ok n) → OfContent files name (λ bytes. Says view (as_load r) (flat_of_file top bytes))
    flat_loaded files name h =
        of_weaker files name (λ bytes. file_of bytes top ≡ Ok n) (λ bytes. Says view (as_load r) (flat_of_file top bytes))
        (λ bytes e. loads_gives view r (flat_of_file top bytes) (flat_of_text_read bytes e)) h

-- ## Rows

module _ (files : Option Files) (name text : List ℕ) (read : OfContent files name (λ bytes. text ≡ up_to 16777216 bytes)) where
  pub models_loaded : (r : Result (List ModelRow) Refusal) → IfOk r (λ rows. models_of text ≡ Ok rows) → IfAt r (λ fault. models_of text ≡ Err fault) → OfContent files name (λ bytes. Says (λ rows. rows) (as_load r) (models_of bytes))
  models_loaded r ok at =
      of_weaker files name (λ bytes. text ≡ up_to 16777216 bytes) (λ bytes. Says (λ rows. rows) (as_load r) (models_of bytes))
      (λ bytes e. subst (Says (λ rows. rows) (as_load r)) (ap models_of e ∙ ap (on_file ModelsFile) (rows-up_to ModelsFile as_written model_verdict bytes)) (loads_gives (λ rows. rows) r (models_of text) (gives_both (λ rows. rows) r (models_of text) ok at))) read

  pub power_loaded : (r : Result (List PowerRow) Refusal) → IfOk r (λ rows. power_of text ≡ Ok rows) → IfAt r (λ fault. power_of text ≡ Err fault) → OfContent files name (λ bytes. Says (λ rows. rows) (as_load r) (power_of bytes))
  power_loaded r ok at =
      of_weaker files name (λ bytes. text ≡ up_to 16777216 bytes) (λ bytes. Says (λ rows. rows) (as_load r) (power_of bytes))
      (λ bytes e. subst (Says (λ rows. rows) (as_load r)) (ap power_of e ∙ ap (on_file PowerFile) (rows-up_to PowerFile as_written power_verdict bytes)) (loads_gives (λ rows. rows) r (power_of text) (gives_both (λ rows. rows) r (power_of text) ok at))) read
