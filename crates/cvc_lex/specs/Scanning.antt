-- The state behind a lexer, and what a physical line changes in it. Only the lexer's own parts speak of this.
use Rattle.std.specs.Prelude.{◌≡◌, ℕ, ◌+◌, ◌-◌, Bool, true, false, List, [], ◌∷◌, ◌++◌, length, drop, ◌<◌, ◌≤◌, Option, Some, None, option_map, option_to_list, Result, Ok, Err, if◌then◌else◌}
use Rattle.cvc_base.specs.declared.cause.Cause.TheVariants.{FileTooLong}
use Rattle.cvc_base.specs.declared.fault.FileKind.{FileKind}
use Rattle.cvc_base.specs.declared.fault.Refusal.{Refusal}
use Rattle.cvc_base.specs.declared.line.Line.{Line}
use Rattle.cvc_lex.specs.declared.scanner.Logical.{Logical}
use Rattle.cvc_lex.specs.declared.scanner.Scanner.{Scanner}
use Rattle.cvc_lex.specs.declared.shape.Shape.{Shape}
use Rattle.cvc_lex.specs.declared.shape.Shape.TheVariants.{Skipped, Directive, Card, Continuation}
use Rattle.cvc_base.specs.declared.stop.Stop.{Stop}
use Rattle.cvc_base.specs.declared.stop.Stop.TheVariants.{At, NoMemory}
use Rattle.cvc_lex.specs.Bytes.{is_netlist, file_limit}
use Rattle.cvc_lex.specs.Physical.{Read, size_of, tokens_of, past_plus, tokens_from}
use Rattle.cvc_base.specs.Faults.{refusal_on}
use Rattle.cvc_lex.specs.Lines.{is_directive, cause_of}
use Rattle.cvc_lex.specs.Lexing.{Lexing, StandsFor}

abbrev pub lexing_of : Scanner → Lexing
lexing_of s = record { file = s.file; finished = s.finished; refused = s.refused; waiting = s.closed.items; started = s.«open»; count = s.count; size = s.size; rest = s.rest.items }

-- the logical line that starts at r, and one that goes on at r
abbrev pub begun : Read → Logical
begun r = record { line = record { tokens = r.tokens; first = r.number; last = r.number; directive = is_directive r.shape }; size = r.size }

abbrev pub extended : Read → Logical → Logical
extended r l = record { line = record { tokens = l.line.tokens ++ r.tokens; first = l.line.first; last = r.number; directive = l.line.directive }; size = l.size + r.size }

-- a start closes the line that was open; a row closes at once
abbrev pub closed_by_start : FileKind → Option Logical → Read → List Line
closed_by_start kind started r = if is_netlist kind then option_to_list (option_map (λ l. l.line) started) else (begun r).line ∷ []

abbrev pub open_by_start : FileKind → Option Logical → Read → Option Logical
open_by_start kind started r = if is_netlist kind then Some (begun r) else started

abbrev pub with_start : Lexing → Read → Lexing
with_start x r = record x { waiting = x.waiting ++ closed_by_start x.file x.started r; started = open_by_start x.file x.started r }

abbrev pub with_shape : Lexing → Read → Shape → Lexing
with_shape x r Skipped = x
with_shape x r Directive = with_start x r
with_shape x r Card = with_start x r
with_shape x r Continuation = record x { started = option_map (extended r) x.started }

-- what a refusal leaves as it was
pub record Stays (old new : Lexing) : Type 0 where
  pub file : new.file ≡ old.file
  pub finished : new.finished ≡ old.finished
  pub refused : new.refused ≡ old.refused
  pub waiting : new.waiting ≡ old.waiting
  pub count : new.count ≡ old.count

-- the line r was added, or stopped at its first cause
abbrev pub Adds : Lexing → Lexing → Read → Result (Unit {0}) Stop → Type 0
Adds old new r (Ok done) = (cause_of old.file old.started r ≡ None) × (new ≡ with_shape old r r.shape)
Adds old new r (Err (At cause)) = (cause_of old.file old.started r ≡ Some cause) × Stays old new
Adds old new r (Err NoMemory) = Stays old new

abbrev pub counted : Lexing → Lexing
counted x = record x { count = x.count + 1 }

abbrev pub Ends : Lexing → Lexing → Read → Result (Unit {0}) Stop → Type 0
Ends old new r (Ok done) = (cause_of old.file old.started r ≡ None) × (new ≡ counted (with_shape old r r.shape))
Ends old new r (Err (At cause)) = (cause_of old.file old.started r ≡ Some cause) × Stays old new
Ends old new r (Err NoMemory) = Stays old new

-- a line of this shape as it is read, where no byte is bad
abbrev pub shaped : FileKind → ℕ → Shape → List ℕ → Read
shaped kind number shape text = record { number = number; bad = false; shape = shape; size = size_of shape text; tokens = tokens_of kind number shape text }

-- the same for a start and for a continuation
abbrev pub start_read : FileKind → ℕ → Shape → List ℕ → Read
start_read kind number shape text = record { number = number; bad = false; shape = shape; size = length text; tokens = tokens_from kind number false 1 text }

abbrev pub continuation_read : FileKind → ℕ → List ℕ → Read
continuation_read kind number text = record { number = number; bad = false; shape = Continuation; size = length text - 1; tokens = tokens_from kind number false (past_plus text + 1) (drop (past_plus text) text) }

abbrev pub start_shape : Bool → Shape
start_shape true = Directive
start_shape false = Card

-- the refusal that a stop in the open physical line makes
abbrev pub refusal_of : Lexing → Stop → Refusal
refusal_of x stop = refusal_on x.file (x.count + 1) stop

abbrev pub outcome : Lexing → Result (Unit {0}) Stop → Lexing
outcome x (Ok done) = x
outcome x (Err stop) = record x { refused = Some (refusal_of x stop) }

-- these bytes were read: what the lexer stood for, it stands for with these bytes more
pub record Reads (old new : Lexing) (bytes : List ℕ) (result : Result (Unit {0}) Stop) : Type 0 where
  pub file : new.file ≡ old.file
  pub finished : new.finished ≡ false
  pub refused : new.refused ≡ None
  pub stands : (stream : List ℕ) (n : ℕ) → StandsFor old stream n → StandsFor (outcome new result) (stream ++ bytes) n

-- a lexer that reads
pub record IsGoing (x : Lexing) : Type 0 where
  pub finished : x.finished ≡ false
  pub refused : x.refused ≡ None

-- the line that was open closes
abbrev pub Closes : Lexing → Lexing → Result (Unit {0}) Stop → Type 0
Closes old new (Ok done) = new ≡ record old { waiting = old.waiting ++ option_to_list (option_map (λ l. l.line) old.started); started = None }
Closes old new (Err (At cause)) = ⊥
Closes old new (Err NoMemory) = Stays old new

-- the stream ended: what the lexer stood for, it stands for at the end
abbrev pub at_end : Lexing → Lexing
at_end x = record x { finished = true }

pub record EndsStream (old new : Lexing) (result : Result (Unit {0}) Stop) : Type 0 where
  pub file : new.file ≡ old.file
  pub refused : new.refused ≡ None
  pub stands : (stream : List ℕ) (n : ℕ) → StandsFor old stream n → StandsFor (at_end (outcome new result)) stream n

-- so many bytes more are within the file's limit and were counted, or pass it and change nothing
abbrev pub CountsBytes : Lexing → Lexing → ℕ → Result (Unit {0}) Stop → Type 0
CountsBytes old new n (Ok done) = (old.size + n ≤ file_limit old.file) × (new ≡ record old { size = old.size + n })
CountsBytes old new n (Err (At cause)) = (file_limit old.file < old.size + n) × (cause ≡ FileTooLong) × (new ≡ old)
CountsBytes old new n (Err NoMemory) = ⊥
