-- Which files of a run are due, in the order in which it reads them: the first, and each further one where none before it is refused. Where the shelf
-- doesn't tell its files, each of their names is due. Only a failure on the name of a due file is a cause of a read fault.
use Rattle.std.specs.Prelude.{◌≡◌, ℕ, List, [], ◌∷◌, Option, Some, None, Bool, true, Result, is_ok, ◌⊎◌}
use Rattle.cvc_base.specs.declared.fault.Fault.{Fault}
use Rattle.cvc_io.specs.Causes.{Rose}
use Rattle.cvc_io.specs.Files.{Files, Counts, content}
use Rattle.cvc_model.specs.Models.{models_of}
use Rattle.cvc_power.specs.Power.{power_of}
use Rattle.cvc_run.specs.Said.{bound_of, flat_of_file}
use Rattle.cvc_words.specs.declared.command.Job.{Job}

-- a file of a run: its name, and whether it is accepted, as far as the files are told
pub record Reading : Type 0 where
  pub name : List ℕ
  pub accepted : Bool

abbrev pub is_accepted : {A : Type 0} → (List ℕ → Result A Fault) → Option Files → List ℕ → Bool
is_accepted said None name = true
is_accepted said (Some fs) name = is_ok (said (content fs name))

abbrev pub reading : {A : Type 0} → (List ℕ → Result A Fault) → Option Files → List ℕ → Reading
reading said files name = record { name = name; accepted = is_accepted said files name }

-- the files that a run may read: these, as far as those before are accepted, or any, where only a file that isn't told would name them
pub data Due : Type 0 where
  AnyName : Due
  Named : List Reading → Due

-- the count of a due file rose: that of the first, or where it is accepted that of a later one
abbrev pub OneFailed : List Reading → Counts → Counts → Type 0
OneFailed [] before after = ⊥
OneFailed (r ∷ later) before after = Rose (before r.name) (after r.name) ⊎ ((r.accepted ≡ true) × OneFailed later before after)

abbrev pub DueFailed : Due → Counts → Counts → Type 0
DueFailed AnyName before after = (name : List ℕ) × Rose (before name) (after name)
DueFailed (Named readings) before after = OneFailed readings before after

-- no file is due
abbrev pub no_file : Due
no_file = Named []

-- the netlist and the models
abbrev pub design_due : Option Files → Option (List ℕ) → List ℕ → List ℕ → Due
design_due files top netlist models = Named (reading (flat_of_file top) files netlist ∷ reading models_of files models ∷ [])

-- the netlist, the models and the power file
abbrev pub files_due : Option Files → Option (List ℕ) → List ℕ → List ℕ → List ℕ → Due
files_due files top netlist models power = Named (reading (flat_of_file top) files netlist ∷ reading models_of files models ∷ reading power_of files power ∷ [])

-- the three files of a job
abbrev pub job_due : Option Files → Job → Due
job_due files job = files_due files job.top job.netlist job.models job.power

-- ## Files that are read behind binding: the power file counts as accepted only where all three are bound

abbrev pub are_bound : Option Files → Option (List ℕ) → List ℕ → List ℕ → List ℕ → Bool
are_bound None top netlist models power = true
are_bound (Some fs) top netlist models power = is_ok (bound_of top (content fs netlist) (content fs models) (content fs power))

abbrev pub bound_reading : Option Files → Option (List ℕ) → List ℕ → List ℕ → List ℕ → Reading
bound_reading files top netlist models power = record { name = power; accepted = are_bound files top netlist models power }

-- the three files, and these behind them
abbrev pub bound_due : Option Files → Option (List ℕ) → List ℕ → List ℕ → List ℕ → List Reading → Due
bound_due files top netlist models power later =
    Named (reading (flat_of_file top) files netlist ∷ reading models_of files models ∷ bound_reading files top netlist models power ∷ later)
