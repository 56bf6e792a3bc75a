-- A printed netlist reads back as the same netlist but for the numbers of lines.
use Rattle.std.proofs.Common.{◌≡◌, ℕ, List, map, Option, Ok, None, sym, subst}
use Rattle.std.specs.List.{flat_map}
use Rattle.cvc_base.specs.declared.fault.FileKind.TheVariants.{Netlist as NetlistFile}
use Rattle.cvc_lex.specs.Lines.{lexical, closed_at_end}
use Rattle.cvc_cdl.specs.declared.netlist.Netlist.{Netlist}
use Rattle.cvc_cdl.specs.Netlist.{netlist_of}
use Rattle.cvc_cdl.specs.Text.{text_of}
use Rattle.cvc_cdl.specs.File.{file_of}
use Rattle.cvc_cdl.specs.Alike.{AreAlike, IsPrintable, MeetsLimits}
use Rattle.cvc_cdl.specs.Printed.{IsNetlist, numbered, printed_cards}
use Rattle.cvc_cdl.specs.Pieces.{PrintedLine, ReadAsLines, whole_line}
use Rattle.cvc_cdl.proofs.Printable.{card_line}
use Rattle.cvc_cdl.proofs.PrintedCardTexts.{text_of_cards}
use Rattle.cvc_cdl.proofs.PrintedCardLines.{readable_lines}
use Rattle.cvc_cdl.proofs.PrintedFiles.{file_back}
use Rattle.cvc_cdl.proofs.PrintedLines.{no_lexical_fault, read_as_lines}
use Rattle.cvc_cdl.proofs.ReadFiles.{file_printable, file_read}
use Rattle.cvc_cdl.proofs.Rebuilt.{rebuilt}
use Rattle.cvc_cdl.proofs.RebuiltRead.{is_netlist}

pub reads_back : (bytes : List ℕ) (top : Option (List ℕ)) (n : Netlist) → file_of bytes top ≡ Ok n → IsPrintable n → MeetsLimits (text_of n)
    → (m : Netlist) × (file_of (text_of n) top ≡ Ok m) × AreAlike m n
reads_back bytes top n is printable limits =
    let read = file_read bytes top n is in
    let fine = subst (λ (x : Netlist). IsNetlist top x) (sym read.netlist) (is_netlist read.entries top read.building read.ending read.formed) in
    let again = rebuilt 1 top n fine in
    let cards = file_printable bytes top n is printable in
    let ls : List PrintedLine = map card_line (printed_cards n) in
    let readable = readable_lines (printed_cards n) cards in
    let text = text_of_cards n in
    let none : lexical NetlistFile (flat_map whole_line ls) ≡ None = no_lexical_fault ls readable (subst MeetsLimits text limits) in
    let reads = read_as_lines ls readable none in
    let none_there = subst (λ (t : List ℕ). lexical NetlistFile t ≡ None) (sym text) none in
    let reads_there = subst (λ (t : List ℕ). ReadAsLines 1 ls (closed_at_end NetlistFile t)) (sym text) reads in
    (netlist_of (numbered 1 (printed_cards n)) top, file_back n top cards none_there reads_there again.building again.ending, again.alike)
