-- The exit status of each way to end.
use Rattle.std.specs.Prelude.{ℕ}
use Rattle.cvc_run.specs.declared.status.Status.{Status}
use Rattle.cvc_run.specs.declared.status.Status.TheVariants.{Clean, Errors, Words, Netlist, Models, Power, Binding, ReadFault, WriteFault, NoMemory, Certificate, Expected, Modes, Edits}

abbrev pub code_of : Status → ℕ
code_of Clean = 0
code_of Errors = 1
code_of Words = 2
code_of Netlist = 3
code_of Models = 4
code_of Power = 5
code_of Binding = 6
code_of ReadFault = 7
code_of WriteFault = 8
code_of NoMemory = 9
code_of Certificate = 10
code_of Expected = 11
code_of Modes = 12
code_of Edits = 13
