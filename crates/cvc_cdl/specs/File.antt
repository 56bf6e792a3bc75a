-- The netlist of a whole file. Each logical line that closes before the line of a lexical fault has first the fault of its card, then the fault of that card
-- by the cards before it; the first of these is the file's fault, else the lexical fault, else the first fault of the netlist as a whole.
use Rattle.std.specs.Prelude.{ℕ, List, [], ◌∷◌, ◌++◌, Option, Some, None, Result, Ok, Err}
use Rattle.cvc_base.specs.declared.cause.Cause.{Cause}
use Rattle.cvc_base.specs.declared.fault.Fault.{Fault}
use Rattle.cvc_base.specs.declared.fault.FileKind.TheVariants.{Netlist as NetlistFile}
use Rattle.cvc_base.specs.declared.line.Line.{Line}
use Rattle.cvc_card.specs.declared.card.Card.{Card}
use Rattle.cvc_card.specs.Card.{card_of}
use Rattle.cvc_lex.specs.Lines.{lexical, closed_at_end}
use Rattle.cvc_cdl.specs.declared.netlist.Netlist.{Netlist}
use Rattle.cvc_cdl.specs.Levels.{Entry}
use Rattle.cvc_cdl.specs.Netlist.{netlist_of}
use Rattle.cvc_cdl.specs.Building.{fault_at, fault_of}
use Rattle.cvc_cdl.specs.Ending.{ending_fault, unless_fault}
use Rattle.cvc_base.specs.Order.{◌>>=◌}

abbrev pub judged_entry : List Entry → Entry → Result Entry Fault
judged_entry earlier e = unless_fault (fault_of earlier e) e

abbrev pub entry_with : List Entry → ℕ → Result Card Cause → Result Entry Fault
entry_with earlier line (Err cause) = Err (fault_at line cause)
entry_with earlier line (Ok card) = judged_entry earlier record { card = card; line = line }

-- the card of a line behind the earlier cards, or the fault there
abbrev pub entry_at : List Entry → Line → Result Entry Fault
entry_at earlier line = entry_with earlier line.first (card_of line)

-- the earlier cards and those of the lines, or the first fault of the lines
unfoldable pub entries_from : List Entry → List Line → Result (List Entry) Fault
entries_from earlier [] = Ok earlier
entries_from earlier (line ∷ lines) = do
  e ← entry_at earlier line
  entries_from (earlier ++ e ∷ []) lines

-- a lexical fault comes after the faults of the lines that close before its own
abbrev pub then_lexical : Option Fault → List Entry → Result (List Entry) Fault
then_lexical None entries = Ok entries
then_lexical (Some fault) entries = Err fault

-- the cards of a file, or its first fault up to there
unfoldable pub entries_of : List ℕ → Result (List Entry) Fault
entries_of bytes = entries_from [] (closed_at_end NetlistFile bytes) >>= then_lexical (lexical NetlistFile bytes)

abbrev pub ended : Option (List ℕ) → List Entry → Result Netlist Fault
ended top entries = unless_fault (ending_fault entries top) (netlist_of entries top)

-- the netlist of a file with this top, or the file's first fault
unfoldable pub file_of : List ℕ → Option (List ℕ) → Result Netlist Fault
file_of bytes top = entries_of bytes >>= ended top
