-- What the nets of a circuit are declared at. Each power row declares the net that its name finds. A fault among the names stands at the row's line of the
-- power file.
use Rattle.std.specs.Prelude.{◌≡◌, ℕ, ◌≤ℤ◌, ◌==◌, List, ◌∷◌, length, map, Option, Some, None, Result, Ok, Err, slice_index_or, if◌then◌else◌}
use Rattle.std.specs.List.{range_with_len}
use Rattle.cvc_base.specs.declared.fault.Fault.{Fault}
use Rattle.cvc_base.specs.declared.fault.FileKind.TheVariants.{Power}
use Rattle.cvc_base.specs.declared.ids.NetId.{NetId}
use Rattle.cvc_base.specs.Faults.{fault_on}
use Rattle.cvc_base.specs.Order.{◌>>=◌}
use Rattle.cvc_law.specs.declared.interval.Fixed.{Fixed}
use Rattle.cvc_flat.specs.Flat.{FlatList}
use Rattle.cvc_power.specs.declared.row.PowerRow.{PowerRow}
use Rattle.cvc_bind.specs.declared.nets.Misnamed.{Misnamed}
use Rattle.cvc_bind.specs.Nets.{nets_of}

abbrev pub span_of : PowerRow → Fixed
span_of row = record { low = row.low; high = row.high }

-- what a net is declared at by rows that declare these nets
unfoldable pub declared : List NetId → List PowerRow → ℕ → Option Fixed
declared (net ∷ nets) (row ∷ rows) n = if net.0 == n then Some (span_of row) else declared nets rows n
declared _ _ n = None

-- the fault of the name at a place, at its row's line
abbrev pub fault_of_name : List PowerRow → Misnamed → Fault
fault_of_name rows bad = fault_on Power (slice_index_or (map (λ (row : PowerRow). row.line) rows) bad.place 0) bad.cause

abbrev pub at_lines : {A : Type 0} → List PowerRow → Result A Misnamed → Result A Fault
at_lines rows (Ok x) = Ok x
at_lines rows (Err bad) = Err (fault_of_name rows bad)

-- for each net what it is declared at, or the first fault among the rows
abbrev pub fixed_of : FlatList → List PowerRow → Result (List (Option Fixed)) Fault
fixed_of f rows = do
  nets ← at_lines rows (nets_of f (map (λ (row : PowerRow). row.name) rows))
  Ok (map (declared nets rows) (range_with_len 0 (length f.nets)))

-- no declared low lies above its high
abbrev pub AreOrdered : List (Option Fixed) → Type 0
AreOrdered fixed = (n : ℕ) (w : Fixed) → slice_index_or fixed n None ≡ Some w → w.low ≤ℤ w.high
