-- Rows of a session: each stands at the line of its place, and none has the name of another. And rows that are wider than others.
use Rattle.std.specs.Prelude.{◌≡◌, ℕ, suc, ◌<◌, ◌^◌, ◌≤ℤ◌, List, [], ◌∷◌, length, All, Result, Ok, Err, IsOk, if◌then◌else◌, ℤ, int_lt}
use Rattle.cvc_power.specs.declared.row.PowerRow.{PowerRow}
use Rattle.cvc_power.specs.Power.{IsOrdered}
use Rattle.cvc_delta.specs.declared.fault.EditRefusal.{EditRefusal}
use Rattle.cvc_delta.specs.declared.fault.EditRefusal.TheVariants.{MinAboveMax, NotThere, NoMemory}
use Rattle.cvc_delta.specs.Edits.{AreApart, has_row, set_row, unset_row}

-- each row stands at the line of its place, of which the first has this number
abbrev pub ArePlacedFrom : ℕ → List PowerRow → Type 0
ArePlacedFrom line [] = Unit {0}
ArePlacedFrom line (row ∷ rows) = (row.line ≡ line) × ArePlacedFrom (suc line) rows

pub record AreRows (rows : List PowerRow) : Type 0 where
  pub ordered : All IsOrdered rows
  pub apart : AreApart rows
  pub placed : ArePlacedFrom 1 rows
  pub few : length rows < 2 ^ 32

-- of the same name, with bounds as wide or wider
pub record IsWiderRow (row wide : PowerRow) : Type 0 where
  pub name : row.name ≡ wide.name
  pub low : wide.low ≤ℤ row.low
  pub high : row.high ≤ℤ wide.high

abbrev pub AreWiderRows : List PowerRow → List PowerRow → Type 0
AreWiderRows [] [] = Unit {0}
AreWiderRows (row ∷ rows) (wide ∷ wides) = IsWiderRow row wide × AreWiderRows rows wides
AreWiderRows _ _ = ⊥

-- ## What an edit gives

-- the rows behind a set, or why there are none
abbrev pub set_said : List PowerRow → List ℕ → ℤ → ℤ → Result (List PowerRow) EditRefusal
set_said rows name low high = if int_lt high low then Err MinAboveMax else Ok (set_row rows name low high)

-- the same of an unset
abbrev pub unset_said : List PowerRow → List ℕ → Result (List PowerRow) EditRefusal
unset_said rows name = if has_row rows name then Ok (unset_row rows name) else Err NotThere

-- an edit that answers so made these rows into those, where this is what it says; a refused one changes nothing, and memory is wanted only for what isn't refused
abbrev pub Edits : Result (Unit {0}) EditRefusal → Result (List PowerRow) EditRefusal → List PowerRow → List PowerRow → Type 0
Edits (Ok done) said before after = said ≡ Ok after
Edits (Err NoMemory) said before after = IsOk said × (after ≡ before)
Edits (Err refusal) said before after = (said ≡ Err refusal) × (after ≡ before)
