-- What is held of a recheck, where it is the start of the next one.
use Rattle.std.proofs.Common.{◌≡◌, ℕ, ◌<◌, All, List, length, Result, Ok, sym, subst, ◌∙◌}
use Rattle.std.specs.Prelude.{ℤ, ◌≤ℤ◌, ◌^◌}
use Rattle.cvc_bind.specs.Bound.{circuit_of}
use Rattle.cvc_flat.specs.Flat.{FlatList}
use Rattle.cvc_judge.specs.declared.judged.Judged.{Judged}
use Rattle.cvc_law.specs.Least.{IsLeast}
use Rattle.cvc_law.specs.Network.{Network, IsCircuit}
use Rattle.cvc_model.specs.Bindable.{AreBindable}
use Rattle.cvc_model.specs.declared.row.ModelRow.{ModelRow}
use Rattle.cvc_power.specs.declared.row.PowerRow.{PowerRow}
use Rattle.cvc_power.specs.Power.{IsOrdered}
use Rattle.cvc_delta.specs.declared.found.Found.{Found}
use Rattle.cvc_delta.specs.declared.found.Found.TheVariants as founds
use Rattle.cvc_delta.specs.Edits.{AreApart, numbered, set_row, unset_row}
use Rattle.cvc_delta.specs.Found.{IsFound, IsSession, IsStartIn}
use Rattle.cvc_delta.specs.Rows.{AreWiderRows}
use Rattle.cvc_delta.specs.Session.{IsCheckOf}
use Rattle.cvc_delta.specs.Wider.{IsBase, WideningKeepsABase}
use Rattle.cvc_delta.proofs.Rowing.{are_numbered, are_set, are_unset}
use Rattle.cvc_delta.proofs.Widening.{OneLeast, least_is_start}

module _ (one : OneLeast) (f : FlatList) (models : List ModelRow) (rows : List PowerRow) where
  result_is_base : (j : Judged) → IsCheckOf f models rows j → IsBase f models rows j.family
  result_is_base j check c made circuit =
      let same : j.circuit ≡ c = let e : Ok j.circuit ≡ Ok c = sym check.circuit ∙ made in cc in
      least_is_start one c j.family circuit (subst (λ (x : Network). IsLeast x j.family) same check.judged.least)

  pub start_in : (found : Found) → IsFound f models rows found → (c : Network) → circuit_of f models rows ≡ Ok c → IsCircuit c.fixed c.devices → IsStartIn c found
  start_in founds.Nothing held c made circuit = tt
  start_in (founds.Kept j) held c made circuit = result_is_base j held c made circuit
  start_in (founds.Base family) held c made circuit = held c made circuit

  pub result_widened : WideningKeepsABase → (wides : List PowerRow) → All IsOrdered rows → AreWiderRows rows wides → (j : Judged) → IsCheckOf f models rows j → IsBase f models wides j.family
  result_widened law wides ordered wider j check = law f models rows wides j.family ordered wider (result_is_base j check)

-- ## A session

pub begun : (f : FlatList) (models : List ModelRow) (rows next : List PowerRow) → AreBindable models → next ≡ numbered rows → All IsOrdered rows → AreApart rows → length rows < 2 ^ 32
    → IsSession f models next founds.Nothing
begun f models rows next bindable is ordered apart few = record { bindable = bindable; are = are_numbered rows next is ordered apart few; held = tt }

module _ (f : FlatList) (models : List ModelRow) (rows next : List PowerRow) (found : Found) (s : IsSession f models rows found) (name : List ℕ) where
  pub session_set : (low high : ℤ) (held : Found) → next ≡ set_row rows name low high → low ≤ℤ high → length next < 2 ^ 32 → IsFound f models next held → IsSession f models next held
  session_set low high held is fits few holds = record { bindable = s.bindable; are = are_set rows next name low high is s.are fits few; held = holds }

  pub session_unset : next ≡ unset_row rows name → IsSession f models next founds.Nothing
  session_unset is = record { bindable = s.bindable; are = are_unset rows next name is s.are; held = tt }
