-- What binding asks of the rows of a file, so that a circuit takes devices with their voltages: drop and junction are not negative, nor is the
-- threshold of a pmos, no threshold lies above the one of the corner that conducts least, and the rows can be counted in 32 bits.
use Rattle.std.specs.Prelude.{◌≡◌, ℕ, ◌<◌, ◌^◌, List, length, Some, slice_get, ℤ, pos, ◌≤ℤ◌}
use Rattle.cvc_base.specs.declared.device.Kind.{Kind}
use Rattle.cvc_base.specs.declared.device.Kind.TheVariants.{Pmos}
use Rattle.cvc_base.specs.declared.device.Volts.{Volts}
use Rattle.cvc_model.specs.declared.row.ModelRow.{ModelRow}

-- the voltages of a device of this kind
pub record AreVoltsOf (kind : Kind) (volts : Volts) : Type 0 where
  pub drop : pos 0 ≤ℤ volts.drop
  pub junction : pos 0 ≤ℤ volts.junction
  pub threshold : kind ≡ Pmos → pos 0 ≤ℤ volts.threshold
  pub corners : volts.threshold ≤ℤ volts.weak

-- the thresholds of the two corners of a kind
pub record AreCorners (kind : Kind) (corners : ℤ × ℤ) : Type 0 where
  pub threshold : kind ≡ Pmos → pos 0 ≤ℤ corners.0
  pub order : corners.0 ≤ℤ corners.1

abbrev pub IsBindable : ModelRow → Type 0
IsBindable row = AreVoltsOf row.kind row.volts

pub record AreBindable (rows : List ModelRow) : Type 0 where
  pub few : length rows < 2 ^ 32
  pub each : (place : ℕ) (row : ModelRow) → slice_get rows place ≡ Some row → IsBindable row
