-- What a refusal says of a line: its cause is that of the definition, at the line's first physical line. Want of memory says nothing.
use Rattle.std.specs.Prelude.{◌≡◌, Err}
use Rattle.cvc_base.specs.declared.fault.Refusal.{Refusal}
use Rattle.cvc_base.specs.declared.fault.Refusal.TheVariants.{At, NoMemory}
use Rattle.cvc_base.specs.declared.fault.FileKind.TheVariants.{Netlist}
use Rattle.cvc_base.specs.declared.fault.Place.{Place}
use Rattle.cvc_base.specs.declared.line.Line.{Line}
use Rattle.cvc_card.specs.Card.{card_of}

abbrev pub card_place : Line → Place
card_place line = record { file = Netlist; line = line.first }

abbrev pub IsRefused : Line → Refusal → Type 0
IsRefused line (At fault) = (card_of line ≡ Err fault.cause) × (fault.place ≡ card_place line)
IsRefused line NoMemory = Unit {0}
