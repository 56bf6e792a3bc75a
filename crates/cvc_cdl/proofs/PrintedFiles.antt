-- A printed netlist is read as the netlist of its printed cards, each on its line, where these have no fault.
use Rattle.std.proofs.Common.{◌≡◌, ℕ, ◌+◌, List, [], ◌∷◌, ◌++◌, map, Option, Some, None, Ok, All, refl, sym, ap, ap₂, ◌∙◌, append_assoc, append-nil}
use Rattle.std.proofs.lemmas.List.Elements.{All-head, All-tail}
use Rattle.cvc_base.specs.declared.fault.Fault.{Fault}
use Rattle.cvc_base.specs.declared.fault.FileKind.TheVariants.{Netlist as NetlistFile}
use Rattle.cvc_base.specs.declared.line.Line.{Line}
use Rattle.cvc_card.specs.declared.card.Card.{Card}
use Rattle.cvc_lex.specs.Lines.{lexical, closed_at_end}
use Rattle.cvc_cdl.specs.declared.netlist.Netlist.{Netlist}
use Rattle.cvc_cdl.specs.Levels.{Entry}
use Rattle.cvc_cdl.specs.Netlist.{netlist_of}
use Rattle.cvc_cdl.specs.Building.{building_fault, fault_of, first_fault, or_else}
use Rattle.cvc_cdl.specs.Ending.{ending_fault, unless_fault}
use Rattle.cvc_cdl.specs.Builder.{entry_of}
use Rattle.cvc_cdl.specs.File.{ended, entries_from, entries_of, entry_at, entry_with, file_of, then_lexical}
use Rattle.cvc_cdl.specs.Text.{text_of}
use Rattle.cvc_cdl.specs.Printed.{at_line, numbered, printed_cards}
use Rattle.cvc_cdl.specs.Pieces.{ReadAsLines, ReadsAsLine}
use Rattle.cvc_cdl.proofs.Printable.{card_line, IsPrintableCard}
use Rattle.cvc_cdl.proofs.PrintedCards.{printed_card}
use Rattle.cvc_base.specs.Order.{◌>>=◌}

none_parts : (o rest : Option Fault) → or_else o rest ≡ None → (o ≡ None) × (rest ≡ None)
none_parts None rest h = (refl, h)
none_parts (Some fault) rest h = absurd cc

entry_back : (number : ℕ) (card : Card) (line : Line) (earlier : List Entry) → IsPrintableCard card → ReadsAsLine number (card_line card) line → fault_of earlier (entry_of (at_line number card) number) ≡ None
    → entry_at earlier line ≡ Ok (entry_of (at_line number card) number)
entry_back number card line earlier h reads none =
    ap₂ (entry_with earlier) reads.first (printed_card number card line h reads) ∙ ap (λ o. unless_fault o (entry_of (at_line number card) number)) none

pub entries_back : (number : ℕ) (printed : List Card) (lines : List Line) (earlier : List Entry) → All IsPrintableCard printed → ReadAsLines number (map card_line printed) lines → first_fault earlier (numbered number printed) ≡ None
    → entries_from earlier lines ≡ Ok (earlier ++ numbered number printed)
unfolding entries_from numbered first_fault
entries_back number [] [] earlier h reads none = ap (λ es. Ok es) (sym (append-nil earlier))
entries_back number [] (line ∷ lines) earlier h reads none = absurd reads
entries_back number (card ∷ more) [] earlier h reads none = absurd reads
entries_back number (card ∷ more) (line ∷ lines) earlier h reads none =
    let e = entry_of (at_line number card) number in
    let rest = numbered (number + 1) more in
    let parts = none_parts (fault_of earlier e) (first_fault (earlier ++ e ∷ []) rest) none in
    ap (λ r. ◌>>=◌ r (λ x. entries_from (earlier ++ x ∷ []) lines)) (entry_back number card line earlier (All-head IsPrintableCard card more h) reads.0 parts.0)
    ∙ entries_back (number + 1) more lines (earlier ++ e ∷ []) (All-tail IsPrintableCard card more h) reads.1 parts.1
    ∙ ap (λ es. Ok es) (append_assoc earlier (e ∷ []) rest)

pub file_back : (n : Netlist) (top : Option (List ℕ)) → All IsPrintableCard (printed_cards n) → lexical NetlistFile (text_of n) ≡ None
    → ReadAsLines 1 (map card_line (printed_cards n)) (closed_at_end NetlistFile (text_of n)) → building_fault (numbered 1 (printed_cards n)) ≡ None → ending_fault (numbered 1 (printed_cards n)) top ≡ None
    → file_of (text_of n) top ≡ Ok (netlist_of (numbered 1 (printed_cards n)) top)
unfolding file_of entries_of
file_back n top h none reads building ending =
    let entries = numbered 1 (printed_cards n) in
    ap₂ (λ r o. ◌>>=◌ (◌>>=◌ r (then_lexical o)) (ended top)) (entries_back 1 (printed_cards n) (closed_at_end NetlistFile (text_of n)) [] h reads building) none
    ∙ ap (λ o. unless_fault o (netlist_of entries top)) ending
