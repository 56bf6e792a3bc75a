-- Netlists that are the same but for the numbers of lines, and what a printed netlist asks so that it reads back: its text meets the limits, and no
-- global net is named by a lone `/`, which a card of global nets passes over.
use Rattle.std.specs.Prelude.{◌≡◌, ◌⊎◌, ℕ, false, List, map, Some, All}
use Rattle.cvc_base.specs.declared.cause.Cause.{Cause}
use Rattle.cvc_base.specs.declared.cause.Cause.TheVariants.{FileTooLong, LongLine, LongToken}
use Rattle.cvc_base.specs.declared.fault.Fault.{Fault}
use Rattle.cvc_base.specs.declared.fault.FileKind.TheVariants.{Netlist as NetlistFile}
use Rattle.cvc_card.specs.Words.{is_slash}
use Rattle.cvc_lex.specs.Lines.{lexical}
use Rattle.cvc_cdl.specs.declared.netlist.Cell.{Cell}
use Rattle.cvc_cdl.specs.declared.netlist.Global.{Global}
use Rattle.cvc_cdl.specs.declared.netlist.Item.{Item}
use Rattle.cvc_cdl.specs.declared.netlist.Item.TheVariants.{Device, Inst}
use Rattle.cvc_cdl.specs.declared.netlist.Netlist.{Netlist}

abbrev pub item_without_line : Item → Item
item_without_line (Device d) = Device (record d { line = 0 })
item_without_line (Inst x) = Inst (record x { line = 0 })

abbrev pub cell_without_lines : Cell → Cell
cell_without_lines c = record c { items = map item_without_line c.items; line = 0 }

abbrev pub global_without_line : Global → Global
global_without_line g = record g { line = 0 }

abbrev pub without_lines : Netlist → Netlist
without_lines n = record n { globals = map global_without_line n.globals; cells = map cell_without_lines n.cells; main = cell_without_lines n.main }

-- the same but for lines
abbrev pub AreAlike : Netlist → Netlist → Type 0
AreAlike m n = without_lines m ≡ without_lines n

abbrev pub IsLimit : Cause → Type 0
IsLimit cause = (cause ≡ FileTooLong) ⊎ (cause ≡ LongLine) ⊎ (cause ≡ LongToken)

-- no limit of files, lines or tokens is passed
abbrev pub MeetsLimits : List ℕ → Type 0
MeetsLimits text = (fault : Fault) → lexical NetlistFile text ≡ Some fault → IsLimit fault.cause → ⊥

abbrev pub IsPrintable : Netlist → Type 0
IsPrintable n = All (λ (g : Global). is_slash g.name ≡ false) n.globals
