-- What a session holds of its last recheck, and what is true of a session between two calls.
use Rattle.std.specs.Prelude.{◌≡◌, List, Option, None, Some}
use Rattle.cvc_flat.specs.Flat.{FlatList}
use Rattle.cvc_judge.specs.declared.judged.Judged.{Judged}
use Rattle.cvc_law.specs.Network.{Network}
use Rattle.cvc_model.specs.declared.row.ModelRow.{ModelRow}
use Rattle.cvc_model.specs.Bindable.{AreBindable}
use Rattle.cvc_power.specs.declared.row.PowerRow.{PowerRow}
use Rattle.cvc_serial.specs.Starting.{IsStart}
use Rattle.cvc_delta.specs.declared.found.Found.{Found}
use Rattle.cvc_delta.specs.declared.found.Found.TheVariants as founds
use Rattle.cvc_delta.specs.Rows.{AreRows}
use Rattle.cvc_delta.specs.Session.{IsCheckOf}
use Rattle.cvc_delta.specs.Wider.{IsBase}

abbrev pub kept_in : Found → Option Judged
kept_in founds.Nothing = None
kept_in (founds.Kept judged) = Some judged
kept_in (founds.Base family) = None

-- of these rows
abbrev pub IsFound : FlatList → List ModelRow → List PowerRow → Found → Type 0
IsFound f models rows founds.Nothing = Unit {0}
IsFound f models rows (founds.Kept judged) = IsCheckOf f models rows judged
IsFound f models rows (founds.Base family) = IsBase f models rows family

-- settling of this circuit may start from it
abbrev pub IsStartIn : Network → Found → Type 0
IsStartIn c founds.Nothing = Unit {0}
IsStartIn c (founds.Kept judged) = IsStart c judged.family
IsStartIn c (founds.Base family) = IsStart c family

pub record IsSession (f : FlatList) (models : List ModelRow) (rows : List PowerRow) (found : Found) : Type 0 where
  pub bindable : AreBindable models
  pub are : AreRows rows
  pub held : IsFound f models rows found
