-- What is known of every card that is read from a line: a device has as many nets as its letter, no port is connected twice by name, and the line that
-- a card gives is the line's first.
use Rattle.std.specs.Prelude.{◌≡◌, ℕ, false, length, map}
use Rattle.cvc_base.specs.declared.param.Pair.{Pair}
use Rattle.cvc_card.specs.declared.card.Card.{Card}
use Rattle.cvc_card.specs.declared.card.Card.TheVariants as cards
use Rattle.cvc_card.specs.declared.card.Ports.{Ports}
use Rattle.cvc_card.specs.declared.card.Ports.TheVariants.{ByOrder, ByName}
use Rattle.cvc_card.specs.Card.{has_twice, net_count}

abbrev pub ConnectsOnce : Ports → Type 0
ConnectsOnce (ByOrder nets) = Unit {0}
ConnectsOnce (ByName pairs) = has_twice (map (λ (p : Pair). p.name) pairs) ≡ false

abbrev pub IsFormed : ℕ → Card → Type 0
IsFormed line (cards.Device d) = (length d.nets ≡ net_count d.letter) × (d.line ≡ line)
IsFormed line (cards.Inst x) = ConnectsOnce x.ports × (x.line ≡ line)
IsFormed line (cards.Subckt c) = c.line ≡ line
IsFormed line (cards.Ends name) = Unit {0}
IsFormed line (cards.Global names) = Unit {0}
IsFormed line (cards.Params pairs) = Unit {0}
IsFormed line cards.Ignored = Unit {0}
