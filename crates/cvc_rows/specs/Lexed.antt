-- A file that is read to its end: the lines that are judged, and its lexical fault.
use Rattle.std.specs.Prelude.{◌≡◌, ℕ, ◌≤◌, List, length, Option, Some, None, Result, Ok, Err}
use Rattle.cvc_base.specs.declared.fault.Fault.{Fault}
use Rattle.cvc_base.specs.declared.fault.FileKind.{FileKind}
use Rattle.cvc_base.specs.declared.fault.Refusal.{Refusal}
use Rattle.cvc_base.specs.declared.fault.Refusal.TheVariants.{At, NoMemory}
use Rattle.cvc_lex.specs.Bytes.{file_limit}
use Rattle.cvc_lex.specs.Lines.{lexical, closed_at_end}
use Rattle.cvc_rows.specs.declared.reading.Lexed.{Lexed}

-- the end of a file has this fault, or none
abbrev pub IsToldAs : Result (Unit {0}) Refusal → Option Fault → Type 0
IsToldAs (Ok done) fault = fault ≡ None
IsToldAs (Err (At first)) fault = fault ≡ Some first
IsToldAs (Err NoMemory) fault = ⊥

pub record IsLexed (file : FileKind) (bytes : List ℕ) (lexed : Lexed) : Type 0 where
  pub lines : lexed.lexer.waiting ≡ closed_at_end file bytes
  pub fault : lexed.fault ≡ lexical file bytes
  pub few : lexed.fault ≡ None → length lexed.lexer.waiting ≤ file_limit file
