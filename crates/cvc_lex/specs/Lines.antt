-- Logical lines. A card or a directive of a netlist is the physical line that starts it and every continuation that comes before the next start;
-- it closes at the physical line that starts the next one, or at the file's end. A row of another file is one physical line and closes there.
-- The first fault of a file is at the first physical line at which one of the five causes stands, and there the first of them.
use Rattle.std.specs.Prelude.{ℕ, ◌+◌, Bool, true, false, ◌&&◌, nat_lt, List, [], ◌∷◌, ◌++◌, map, length, flat_map, filter, find, fold, sum_by, Option, Some, None, is_some, is_none, option_map, if◌then◌else◌}
use Rattle.std.specs.List.{list_any, before_first}
use Rattle.std.specs.Option.{option_map_or}
use Rattle.cvc_base.specs.declared.cause.Cause.{Cause}
use Rattle.cvc_base.specs.declared.cause.Cause.TheVariants.{BadByte, FileTooLong, LongLine, LongToken, StrayPlus}
use Rattle.cvc_base.specs.declared.fault.FileKind.{FileKind}
use Rattle.cvc_base.specs.declared.fault.Fault.{Fault}
use Rattle.cvc_base.specs.declared.line.Line.{Line}
use Rattle.cvc_base.specs.Faults.{fault_on}
use Rattle.cvc_lex.specs.declared.scanner.Logical.{Logical}
use Rattle.cvc_lex.specs.declared.shape.Shape.{Shape}
use Rattle.cvc_lex.specs.declared.shape.Shape.TheVariants.{Skipped, Directive, Card, Continuation}
use Rattle.cvc_lex.specs.Bytes.{is_netlist, file_limit, line_limit}
use Rattle.cvc_lex.specs.Physical.{Read, read, reads_from, physical, ended, is_long}

-- ## Grouping

abbrev pub starts : Shape → Bool
starts Skipped = false
starts Directive = true
starts Card = true
starts Continuation = false

abbrev pub continues : Shape → Bool
continues Skipped = false
continues Directive = false
continues Card = false
continues Continuation = true

abbrev pub is_directive : Shape → Bool
is_directive Skipped = false
is_directive Directive = true
is_directive Card = false
is_directive Continuation = false

abbrev pub is_start : Read → Bool
is_start r = starts r.shape

abbrev pub is_continuation : Read → Bool
is_continuation r = continues r.shape

-- a logical line, and the physical line at which it closes: none where that is the file's end
pub record Group : Type 0 where
  pub whole : Logical
  pub closes : Option ℕ

-- the continuations of a line that started before these physical lines: those before the next start
abbrev pub own : FileKind → List Read → List Read
own kind rs = if is_netlist kind then filter is_continuation (before_first is_start rs) else []

-- the number of the last of these lines, or n
abbrev pub last_number : ℕ → List Read → ℕ
last_number n rs = fold (λ m r. r.number) n rs

-- the line that starts at r, with its continuations
abbrev pub logical_line : Read → List Read → Logical
logical_line r more = record {
  line = record { tokens = r.tokens ++ flat_map (λ c. c.tokens) more; first = r.number; last = last_number r.number more; directive = is_directive r.shape };
  size = r.size + sum_by (λ c. c.size) more;
}

abbrev pub closing : FileKind → Read → List Read → Option ℕ
closing kind r rs = if is_netlist kind then option_map (λ s. s.number) (find is_start rs) else Some r.number

-- the line that starts at r, of which rs are the later physical lines
abbrev pub group : FileKind → Read → List Read → Group
group kind r rs = record { whole = logical_line r (own kind rs); closes = closing kind r rs }

-- the logical lines of these physical lines
unfoldable pub groups : FileKind → List Read → List Group
groups kind [] = []
groups kind (r ∷ rs) = if is_start r then group kind r rs ∷ groups kind rs else groups kind rs

unfoldable pub logical : FileKind → List (List ℕ) → List Group
logical kind lines = groups kind (reads_from kind 1 lines)

abbrev pub line_of : Group → Line
line_of g = g.whole.line

abbrev pub is_closed : Group → Bool
is_closed g = is_some g.closes

abbrev pub is_open : Group → Bool
is_open g = is_none g.closes

-- the logical lines of these physical lines that close at one of them
abbrev pub closed : FileKind → List (List ℕ) → List Line
closed kind lines = map line_of (filter is_closed (logical kind lines))

-- the logical line that was started last, where it has not closed
abbrev pub opened : FileKind → List (List ℕ) → Option Logical
opened kind lines = option_map (λ g. g.whole) (find is_open (logical kind lines))

-- ## Faults

-- how many bytes the texts of the open logical line have once r is read
abbrev pub size_with : Option Logical → Read → ℕ
size_with started r = if is_continuation r then option_map_or (λ l. l.size) started 0 + r.size else r.size

-- the first cause that stands at a line of a file within its limit, where `started` is the logical line that is open before it
abbrev pub cause_of : FileKind → Option Logical → Read → Option Cause
cause_of kind started r =
    if r.bad then Some BadByte
    else if is_continuation r && is_none started then Some StrayPlus
    else if is_netlist kind && nat_lt line_limit (size_with started r) then Some LongLine
    else if list_any is_long r.tokens then Some LongToken
    else None

-- the first cause that stands at a line that ends with the file's byte number `upto`
abbrev pub cause_at : FileKind → ℕ → Option Logical → Read → Option Cause
cause_at kind upto started r = if nat_lt (file_limit kind) upto then Some FileTooLong else cause_of kind started r

-- the first fault at a line, given the number and the size of the lines before it and the logical line that they leave open
unfoldable pub fault_with : FileKind → ℕ → ℕ → Option Logical → List ℕ → Option Fault
fault_with kind before size started line = option_map (fault_on kind (before + 1)) (cause_at kind (size + length line) started (read kind (before + 1) line))

-- the bytes of the lines, one after another
abbrev pub joined : List (List ℕ) → List ℕ
joined lines = flat_map (λ line. line) lines

-- the first fault at a line that comes after these
unfoldable pub fault_after : FileKind → List (List ℕ) → List ℕ → Option Fault
fault_after kind before line = fault_with kind (length before) (length (joined before)) (opened kind before) line

abbrev pub or_else : {A : Type 0} → Option A → Option A → Option A
or_else None other = other
or_else (Some x) other = Some x

-- the first fault of the lines that come after these
unfoldable pub first_fault : FileKind → List (List ℕ) → List (List ℕ) → Option Fault
first_fault kind before [] = None
first_fault kind before (line ∷ lines) = or_else (fault_after kind before line) (first_fault kind (before ++ line ∷ []) lines)

-- the lines before the first faulty one
unfoldable pub faultless : FileKind → List (List ℕ) → List (List ℕ) → List (List ℕ)
faultless kind before [] = before
faultless kind before (line ∷ lines) = if is_some (fault_after kind before line) then before else faultless kind (before ++ line ∷ []) lines

-- ## Whole files

-- the first lexical fault of a file
unfoldable pub lexical : FileKind → List ℕ → Option Fault
lexical kind bytes = first_fault kind [] (physical bytes)

-- all logical lines of a file
unfoldable pub lines : FileKind → List ℕ → List Line
lines kind bytes = map line_of (logical kind (physical bytes))

abbrev pub lines_unless : {A : Type 0} → Option Fault → List A → List A → List A
lines_unless None all some_of = all
lines_unless (Some fault) all some_of = some_of

-- the logical lines of a file that is read to its end: all, or those that close before the line of the first fault
unfoldable pub closed_at_end : FileKind → List ℕ → List Line
closed_at_end kind bytes = lines_unless (lexical kind bytes) (lines kind bytes) (closed kind (faultless kind [] (physical bytes)))

-- ## Streams of which more may come

-- the first fault that is sure whatever comes: at a line that has ended, else that the open line passes the file's limit
unfoldable pub sure_fault : FileKind → List ℕ → Option Fault
sure_fault kind stream = or_else (first_fault kind [] (ended stream)) (if nat_lt (file_limit kind) (length stream) then Some (fault_on kind (length (ended stream) + 1) FileTooLong) else None)

-- the logical lines that are closed in the stream so far
unfoldable pub closed_so_far : FileKind → List ℕ → List Line
closed_so_far kind stream = closed kind (faultless kind [] (ended stream))
