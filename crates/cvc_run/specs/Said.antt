-- What the files of a run say, one after another: the netlist as its flat list, the models, the power file, and the circuit that all three are bound
-- to. The first stage that is refused decides. Each front of the files has a name of its own, since every run that reads files begins with one of
-- them.
use Rattle.std.specs.Prelude.{ℕ, List, Option, Result, Ok}
use Rattle.cvc_base.specs.declared.fault.Fault.{Fault}
use Rattle.cvc_bind.specs.Bound.{circuit_of}
use Rattle.cvc_cdl.specs.File.{file_of}
use Rattle.cvc_flat.specs.Flat.{FlatList, flat_of, limits}
use Rattle.cvc_io.specs.Files.{Files, content}
use Rattle.cvc_law.specs.Network.{Network}
use Rattle.cvc_model.specs.declared.row.ModelRow.{ModelRow}
use Rattle.cvc_model.specs.Models.{models_of}
use Rattle.cvc_power.specs.declared.row.PowerRow.{PowerRow}
use Rattle.cvc_power.specs.Power.{power_of}
use Rattle.cvc_run.specs.Stages.{at_stage}
use Rattle.cvc_run.specs.declared.stage.Refused.{Refused}
use Rattle.cvc_run.specs.declared.stage.Stage.TheVariants.{Netlist, Models, Power, Binding}
use Rattle.cvc_words.specs.declared.command.Job.{Job}
use Rattle.cvc_base.specs.Order.{◌>>=◌}

-- the flat list of a netlist file with this top
unfoldable pub flat_of_file : Option (List ℕ) → List ℕ → Result FlatList Fault
flat_of_file top bytes = file_of bytes top >>= flat_of limits

-- ## The netlist and the models

pub record Parts : Type 0 where
  pub flat : FlatList
  pub rows : List ModelRow

abbrev pub parts : FlatList → List ModelRow → Parts
parts flat rows = record { flat = flat; rows = rows }

unfoldable pub design_of : Option (List ℕ) → List ℕ → List ℕ → Result Parts Refused
design_of top netlist models = do
  flat ← at_stage Netlist (flat_of_file top netlist)
  rows ← at_stage Models (models_of models)
  Ok (parts flat rows)

-- ## The power file, and all together

-- a circuit and the flat list that it is bound from
pub record Whole : Type 0 where
  pub flat : FlatList
  pub circuit : Network

abbrev pub whole : FlatList → Network → Whole
whole flat circuit = record { flat = flat; circuit = circuit }

unfoldable pub bound_with : Parts → List PowerRow → Result Whole Refused
bound_with d power = do
  circuit ← at_stage Binding (circuit_of d.flat d.rows power)
  Ok (whole d.flat circuit)

unfoldable pub bound_of : Option (List ℕ) → List ℕ → List ℕ → List ℕ → Result Whole Refused
bound_of top netlist models power = do
  d ← design_of top netlist models
  rows ← at_stage Power (power_of power)
  bound_with d rows

-- what the files of a job say
abbrev pub bound_of_job : Files → Job → Result Whole Refused
bound_of_job fs job = bound_of job.top (content fs job.netlist) (content fs job.models) (content fs job.power)
