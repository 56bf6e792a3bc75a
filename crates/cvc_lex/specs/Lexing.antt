-- What a lexer stands for: a stream of bytes and a number of lines that it handed out. Its state is the one that these two give; no stream is kept.
-- Of the open physical line it keeps bytes that read the same as the line's own, whatever comes after them.
use Rattle.std.specs.Prelude.{◌≡◌, ℕ, ◌+◌, ◌≤◌, ◌⊎◌, Bool, false, List, [], ◌∷◌, ◌++◌, length, drop, Option, Some, None, slice_get, if◌then◌else◌}
use Rattle.cvc_base.specs.declared.fault.Fault.{Fault}
use Rattle.cvc_base.specs.declared.fault.FileKind.{FileKind}
use Rattle.cvc_base.specs.declared.fault.Refusal.{Refusal}
use Rattle.cvc_base.specs.declared.fault.Refusal.TheVariants.{At, NoMemory}
use Rattle.cvc_base.specs.declared.line.Line.{Line}
use Rattle.cvc_lex.specs.declared.scanner.Logical.{Logical}
use Rattle.cvc_lex.specs.Physical.{read, ended, open_rest}
use Rattle.cvc_lex.specs.Lines.{opened, lexical, closed_at_end, sure_fault, closed_so_far}

pub record Lexing : Type 0 where
  pub file : FileKind
  -- whether the stream has ended
  pub finished : Bool
  pub refused : Option Refusal
  -- the closed lines that were not handed out
  pub waiting : List Line
  -- the logical line that is open
  pub started : Option Logical
  -- how many physical lines have ended, and how many bytes have come
  pub count : ℕ
  pub size : ℕ
  -- what is kept of the open physical line
  pub rest : List ℕ

-- the line reads the same from either beginning, however it goes on
abbrev pub ReadsAs : FileKind → List ℕ → List ℕ → Type 0
ReadsAs kind kept rest = (more : List ℕ) (number : ℕ) → read kind number (kept ++ more) ≡ read kind number (rest ++ more)

-- what is known between two pieces of a stream without a sure fault
pub record IsReading (x : Lexing) (stream : List ℕ) : Type 0 where
  pub count : x.count ≡ length (ended stream)
  pub size : x.size ≡ length stream
  pub started : x.started ≡ opened x.file (ended stream)
  pub rest : ReadsAs x.file x.rest (open_rest stream)
  -- something of it is kept exactly where it has begun
  pub none : x.rest ≡ [] → open_rest stream ≡ []
  pub begun : open_rest stream ≡ [] → x.rest ≡ []

-- the lines that are closed, and the fault that is known, in the stream so far or at its end
abbrev pub closed_in : FileKind → Bool → List ℕ → List Line
closed_in kind finished stream = if finished then closed_at_end kind stream else closed_so_far kind stream

abbrev pub fault_in : FileKind → Bool → List ℕ → Option Fault
fault_in kind finished stream = if finished then lexical kind stream else sure_fault kind stream

-- the lines that wait are all that are closed and were not handed out
abbrev pub HasLines : Lexing → List ℕ → ℕ → Type 0
HasLines x stream n = x.waiting ≡ drop n (closed_in x.file x.finished stream)

-- they are the first of those
abbrev pub HasSomeLines : Lexing → List ℕ → ℕ → Type 0
HasSomeLines x stream n = (lost : List Line) × (x.waiting ++ lost ≡ drop n (closed_in x.file x.finished stream))

abbrev pub HasRead : Lexing → List ℕ → ℕ → Option Refusal → Type 0
HasRead x stream n None = (fault_in x.file x.finished stream ≡ None) × HasLines x stream n × (x.finished ≡ false → IsReading x stream)
HasRead x stream n (Some (At fault)) = (fault_in x.file x.finished stream ≡ Some fault) × HasLines x stream n
HasRead x stream n (Some NoMemory) = HasSomeLines x stream n

-- the lexer has read this stream, and handed out the first n of its lines
pub record StandsFor (x : Lexing) (stream : List ℕ) (n : ℕ) : Type 0 where
  pub within : n ≤ length (closed_in x.file x.finished stream)
  pub state : HasRead x stream n x.refused

-- ## What the calls answer

-- whatever follows this stream, the file has this first fault, and no more lines than are closed so far
abbrev pub IsFirstFaultOf : FileKind → List ℕ → Fault → Type 0
IsFirstFaultOf kind stream fault = (more : List ℕ) → (lexical kind (stream ++ more) ≡ Some fault) × (closed_at_end kind (stream ++ more) ≡ closed_so_far kind stream)

-- the first of these lines, with those that are left, or none where there is none
abbrev pub TakesFirst : List Line → List Line → Option Line → Type 0
TakesFirst old new None = (old ≡ []) × (new ≡ [])
TakesFirst old new (Some line) = old ≡ line ∷ new

-- the n-th closed line, counted from 0, or none where all were handed out or memory was wanted
abbrev pub Hands : Lexing → Lexing → List ℕ → ℕ → Option Line → Type 0
Hands old new stream n None = StandsFor new stream n × ((n ≡ length (closed_in old.file old.finished stream)) ⊎ (old.refused ≡ Some NoMemory))
Hands old new stream n (Some line) = StandsFor new stream (n + 1) × (slice_get (closed_in old.file old.finished stream) n ≡ Some line)
