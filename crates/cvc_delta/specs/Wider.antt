-- What may be the start of a recheck.
use Rattle.std.specs.Prelude.{◌≡◌, List, All, Ok}
use Rattle.cvc_bind.specs.Bound.{circuit_of}
use Rattle.cvc_flat.specs.Flat.{FlatList}
use Rattle.cvc_law.specs.declared.interval.Interval.{Interval}
use Rattle.cvc_law.specs.Network.{Network, IsCircuit}
use Rattle.cvc_model.specs.declared.row.ModelRow.{ModelRow}
use Rattle.cvc_power.specs.declared.row.PowerRow.{PowerRow}
use Rattle.cvc_power.specs.Power.{IsOrdered}
use Rattle.cvc_serial.specs.Starting.{IsStart}
use Rattle.cvc_delta.specs.Rows.{AreWiderRows}

-- settling may start from these bounds, if the rows can be bound at all
abbrev pub IsBase : FlatList → List ModelRow → List PowerRow → List Interval → Type 0
IsBase f models rows bounds = (c : Network) → circuit_of f models rows ≡ Ok c → IsCircuit c.fixed c.devices → IsStart c bounds

-- what may be the start of a recheck may be it still where rows were widened
abbrev pub WideningKeepsABase : Type 0
WideningKeepsABase = (f : FlatList) (models : List ModelRow) (rows wides : List PowerRow) (bounds : List Interval) → All IsOrdered rows → AreWiderRows rows wides
    → IsBase f models rows bounds → IsBase f models wides bounds
