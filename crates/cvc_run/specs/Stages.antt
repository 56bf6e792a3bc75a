-- What of a run can be refused: the netlist, the models, the power file, and the binding of all three. Each stage has a status of its own, and the refusal
-- of a run is a stage with a fault.
use Rattle.std.specs.Prelude.{Result, Ok, Err}
use Rattle.cvc_base.specs.declared.fault.Fault.{Fault}
use Rattle.cvc_base.specs.declared.fault.FileKind.{FileKind}
use Rattle.cvc_base.specs.declared.fault.FileKind.TheVariants as files
use Rattle.cvc_run.specs.declared.stage.Refused.{Refused}
use Rattle.cvc_run.specs.declared.stage.Stage.{Stage}
use Rattle.cvc_run.specs.declared.stage.Stage.TheVariants.{Netlist, Models, Power, Binding}
use Rattle.cvc_run.specs.declared.status.Status.{Status}
use Rattle.cvc_run.specs.declared.status.Status.TheVariants as statuses

abbrev pub status_at : Stage → Status
status_at Netlist = statuses.Netlist
status_at Models = statuses.Models
status_at Power = statuses.Power
status_at Binding = statuses.Binding

-- the stage of a file
abbrev pub stage_of : FileKind → Stage
stage_of files.Netlist = Netlist
stage_of files.Models = Models
stage_of files.Power = Power

abbrev pub refused : Stage → Fault → Refused
refused stage fault = record { stage = stage; fault = fault }

-- the refusal of the file that the fault names
abbrev pub refused_file : Fault → Refused
refused_file fault = refused (stage_of fault.place.file) fault

-- what a stage says, or its refusal
abbrev pub at_stage : {A : Type 0} → Stage → Result A Fault → Result A Refused
at_stage stage (Ok x) = Ok x
at_stage stage (Err fault) = Err (refused stage fault)
