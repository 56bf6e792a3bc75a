-- A netlist that was read is that of some cards without a fault, and each of its printed cards can be printed.
use Rattle.std.proofs.Common.{◌≡◌, ℕ, List, [], ◌∷◌, ◌++◌, Option, Some, None, Result, Ok, Err, All, refl, sym, ap, subst, ◌∙◌, append_assoc, append-nil}
use Rattle.std.proofs.lemmas.List.Elements.{All-head, All-nil, All-push, All-tail, All-weaker}
use Rattle.cvc_base.specs.declared.cause.Cause.{Cause}
use Rattle.cvc_base.specs.declared.fault.Fault.{Fault}
use Rattle.cvc_base.specs.declared.fault.FileKind.TheVariants.{Netlist as NetlistFile}
use Rattle.cvc_base.specs.declared.line.Line.{Line}
use Rattle.cvc_card.specs.declared.card.Card.{Card}
use Rattle.cvc_card.specs.Card.{card_of}
use Rattle.cvc_card.proofs.Formed.{formed}
use Rattle.cvc_lex.specs.Lines.{lexical, closed_at_end}
use Rattle.cvc_cdl.specs.declared.netlist.Netlist.{Netlist}
use Rattle.cvc_cdl.specs.Levels.{Entry}
use Rattle.cvc_cdl.specs.Netlist.{netlist_of}
use Rattle.cvc_cdl.specs.Building.{building_fault, fault_of, first_fault, or_else}
use Rattle.cvc_cdl.specs.Ending.{ending_fault, unless_fault}
use Rattle.cvc_cdl.specs.Builder.{IsFormedEntry, entry_of}
use Rattle.cvc_cdl.specs.File.{ended, entries_from, entries_of, entry_at, entry_with, file_of, then_lexical}
use Rattle.cvc_cdl.specs.Alike.{IsPrintable}
use Rattle.cvc_cdl.specs.Printed.{printed_cards}
use Rattle.cvc_cdl.proofs.Printable.{IsReadCard, IsPrintableCard}
use Rattle.cvc_cdl.proofs.ReadLines.{HasCardTokens, lines_read}
use Rattle.cvc_cdl.proofs.ReadCards.{card_read}
use Rattle.cvc_cdl.proofs.ReadNetlists.{IsReadEntry, netlist_read, printable}
use Rattle.cvc_base.specs.Order.{◌>>=◌}

-- ## One more card without a fault

none_parts : (o rest : Option Fault) → or_else o rest ≡ None → (o ≡ None) × (rest ≡ None)
none_parts None rest h = (refl, h)
none_parts (Some fault) rest h = absurd cc

one_more : (before es : List Entry) (e : Entry) → first_fault before es ≡ None → fault_of (before ++ es) e ≡ None → first_fault before (es ++ e ∷ []) ≡ None
unfolding first_fault
one_more before [] e h none =
    let here : fault_of before e ≡ None = ap (λ xs. fault_of xs e) (sym (append-nil before)) ∙ none in
    ap (λ o. or_else o None) here
one_more before (x ∷ xs) e h none =
    let parts = none_parts (fault_of before x) (first_fault (before ++ x ∷ []) xs) h in
    let front = parts.0 in
    let more = one_more (before ++ x ∷ []) xs e parts.1 (ap (λ ys. fault_of ys e) (append_assoc before (x ∷ []) xs) ∙ none) in
    λ i. or_else (front i) (more i)

nothing_first : first_fault [] [] ≡ None
unfolding first_fault
nothing_first = refl

-- ## The cards of lines

abbrev IsKnown : Entry → Type 0
IsKnown e = IsReadEntry e × IsFormedEntry e

record AreKnown (entries : List Entry) : Type 0 where
  known : All IsKnown entries
  building : building_fault entries ≡ None

abbrev AreKnownAnswer : Result (List Entry) Fault → Type 0
AreKnownAnswer (Ok entries) = AreKnown entries
AreKnownAnswer (Err fault) = Unit {0}

abbrev IsEntryAnswer : List Entry → Result Entry Fault → Type 0
IsEntryAnswer earlier (Ok e) = IsKnown e × (fault_of earlier e ≡ None)
IsEntryAnswer earlier (Err fault) = Unit {0}

judged_good : (earlier : List Entry) (e : Entry) (o : Option Fault) → fault_of earlier e ≡ o → IsKnown e → IsEntryAnswer earlier (unless_fault o e)
judged_good earlier e None is h = (h, is)
judged_good earlier e (Some fault) is h = tt

card_good : (earlier : List Entry) (line : Line) → HasCardTokens line → (r : Result Card Cause) → card_of line ≡ r → IsEntryAnswer earlier (entry_with earlier line.first r)
card_good earlier line h (Err cause) is = tt
card_good earlier line h (Ok card) is =
    let e : Entry = entry_of card line.first in
    judged_good earlier e (fault_of earlier e) refl (card_read line card h is, formed line card is)

behind_good : (earlier : List Entry) (r : Result Entry Fault) (f : Entry → Result (List Entry) Fault) → IsEntryAnswer earlier r → ((e : Entry) → IsKnown e → fault_of earlier e ≡ None → AreKnownAnswer (f e)) → AreKnownAnswer (◌>>=◌ r f)
behind_good earlier (Err fault) f h k = tt
behind_good earlier (Ok e) f h k = k e h.0 h.1

entries_good : (earlier : List Entry) (lines : List Line) → AreKnown earlier → All HasCardTokens lines → AreKnownAnswer (entries_from earlier lines)
unfolding entries_from
entries_good earlier [] h k = h
entries_good earlier (line ∷ lines) h k =
    behind_good earlier (entry_at earlier line) (λ e. entries_from (earlier ++ e ∷ []) lines) (card_good earlier line (All-head HasCardTokens line lines k) (card_of line) refl)
    (λ e known none. entries_good (earlier ++ e ∷ []) lines (record { known = All-push IsKnown earlier e h.known known; building = one_more [] earlier e h.building none }) (All-tail HasCardTokens line lines k))

-- ## The netlist of a file

-- it is the netlist of some cards without a fault
pub record IsRead (top : Option (List ℕ)) (n : Netlist) : Type 0 where
  pub entries : List Entry
  pub cards : All IsReadEntry entries
  pub formed : All IsFormedEntry entries
  pub building : building_fault entries ≡ None
  pub ending : ending_fault entries top ≡ None
  pub netlist : n ≡ netlist_of entries top

module _ (top : Option (List ℕ)) where
  abbrev IsReadAnswer : Result Netlist Fault → Type 0
  IsReadAnswer (Ok n) = IsRead top n
  IsReadAnswer (Err fault) = Unit {0}

  ended_good : (entries : List Entry) (o : Option Fault) → ending_fault entries top ≡ o → AreKnown entries → IsReadAnswer (unless_fault o (netlist_of entries top))
  ended_good entries None is h = record {
    entries = entries;
    cards = All-weaker IsKnown IsReadEntry (λ e k. k.0) entries h.known;
    formed = All-weaker IsKnown IsFormedEntry (λ e k. k.1) entries h.known;
    building = h.building;
    ending = is;
    netlist = refl;
  }
  ended_good entries (Some fault) is h = tt

  abbrev answer : Option Fault → Result (List Entry) Fault → Result Netlist Fault
  answer o r = ◌>>=◌ (◌>>=◌ r (then_lexical o)) (ended top)

  faultless_good : (r : Result (List Entry) Fault) → AreKnownAnswer r → IsReadAnswer (answer None r)
  faultless_good (Err fault) h = tt
  faultless_good (Ok entries) h = ended_good entries (ending_fault entries top) refl h

  faulty_good : (fault : Fault) (r : Result (List Entry) Fault) → IsReadAnswer (answer (Some fault) r)
  faulty_good fault (Err first) = tt
  faulty_good fault (Ok entries) = tt

  lines_good : (bytes : List ℕ) (o : Option Fault) → lexical NetlistFile bytes ≡ o → IsReadAnswer (answer o (entries_from [] (closed_at_end NetlistFile bytes)))
  lines_good bytes None is =
      let start : AreKnown [] = record { known = All-nil IsKnown; building = nothing_first } in
      faultless_good (entries_from [] (closed_at_end NetlistFile bytes)) (entries_good [] (closed_at_end NetlistFile bytes) start (lines_read bytes is))
  lines_good bytes (Some fault) is = faulty_good fault (entries_from [] (closed_at_end NetlistFile bytes))

  file_good : (bytes : List ℕ) → IsReadAnswer (file_of bytes top)
  unfolding file_of entries_of
  file_good bytes = lines_good bytes (lexical NetlistFile bytes) refl

pub file_read : (bytes : List ℕ) (top : Option (List ℕ)) (n : Netlist) → file_of bytes top ≡ Ok n → IsRead top n
file_read bytes top n is = subst (IsReadAnswer top) is (file_good top bytes)

pub file_printable : (bytes : List ℕ) (top : Option (List ℕ)) (n : Netlist) → file_of bytes top ≡ Ok n → IsPrintable n → All IsPrintableCard (printed_cards n)
file_printable bytes top n is p =
    let read = file_read bytes top n is in
    printable n (subst (λ m. All IsReadCard (printed_cards m)) (sym read.netlist) (netlist_read read.entries top read.cards)) p
