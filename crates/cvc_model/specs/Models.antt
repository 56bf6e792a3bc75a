-- The rows of a model file, or its first fault: the rows of its lines, each judged by itself.
use Rattle.std.specs.Prelude.{ℕ, List, Result}
use Rattle.cvc_base.specs.declared.cause.Cause.{Cause}
use Rattle.cvc_base.specs.declared.fault.Fault.{Fault}
use Rattle.cvc_base.specs.declared.fault.FileKind.TheVariants.{Models}
use Rattle.cvc_base.specs.declared.line.Line.{Line}
use Rattle.cvc_rows.specs.Rows.{rows_of_input}
use Rattle.cvc_model.specs.declared.row.ModelRow.{ModelRow}
use Rattle.cvc_model.specs.Rows.{row_of}

-- the verdict on a line, whatever rows stand before it
abbrev pub verdict : List ModelRow → Line → Result ModelRow Cause
verdict rows line = row_of line

-- the rows of a whole file, or its first fault
abbrev pub models_of : List ℕ → Result (List ModelRow) Fault
models_of bytes = rows_of_input verdict Models bytes
