-- The family that a closed field tells: for each net what its two words store.
use Rattle.std.specs.Prelude.{◌≡◌, ℕ, List}
use Rattle.std.specs.Slots.{slots_items}
use Rattle.cvc_law.specs.declared.interval.Interval.{Interval}
use Rattle.cvc_law.specs.Network.{Network}
use Rattle.cvc_law.specs.ReachLeast.{intervals}
use Rattle.cvc_field.specs.declared.view.Entry.{Entry}
use Rattle.cvc_field.specs.declared.closed.Closed.{Closed}
use Rattle.cvc_field.specs.Words.{last_intervals}
use Rattle.cvc_field.specs.History.{Happening, IsHistory, replay, trail_in}

abbrev pub nets_in : Closed → ℕ
nets_in z = z.nets

abbrev pub family_of : Closed → List Interval
family_of z = last_intervals z.nets (slots_items z.table.words)

-- some history of the field leads to this family, and says of the hand that has the first number that this is its trail
abbrev pub HasHistory : Network → ℕ → List Entry → List Interval → Type 0
HasHistory c hands trail f = (hs : List Happening) × IsHistory c hands hs × (trail ≡ trail_in c hands hs 0) × (f ≡ intervals c (replay c hands hs).bounds)
