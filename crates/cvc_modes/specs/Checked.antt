-- What is found in the modes of a design: the circuit of each power file, in order, or the first whose binding is refused.
use Rattle.std.specs.Prelude.{◌≡◌, ℕ, List, [], ◌∷◌, ◌++◌, length, map, Result, Ok, Err}
use Rattle.cvc_base.specs.declared.fault.Fault.{Fault}
use Rattle.cvc_base.specs.Order.{◌>>=◌}
use Rattle.cvc_bind.specs.Bound.{circuit_of}
use Rattle.cvc_flat.specs.Flat.{FlatList}
use Rattle.cvc_judge.specs.Judged.{IsJudged}
use Rattle.cvc_judge.specs.declared.judged.Judged.{Judged}
use Rattle.cvc_law.specs.Bound.{IsBound}
use Rattle.cvc_law.specs.Network.{Network, nets}
use Rattle.cvc_law.specs.Rules.{findings_of}
use Rattle.cvc_model.specs.declared.row.ModelRow.{ModelRow}
use Rattle.cvc_power.specs.declared.row.PowerRow.{PowerRow}
use Rattle.cvc_modes.specs.declared.checked.ModeRefusal.{ModeRefusal}
use Rattle.cvc_modes.specs.declared.checked.ModeRefusal.TheVariants.{At, NoMemory}

-- a mode, by its number from 0, and the fault of its binding
pub record Unbound : Type 0 where
  pub mode : ℕ
  pub fault : Fault

abbrev pub in_mode : {A : Type 0} → ℕ → Result A Fault → Result A Unbound
in_mode mode (Ok x) = Ok x
in_mode mode (Err fault) = Err (record { mode = mode; fault = fault })

-- these circuits, of the first modes, and those of the modes with these power rows that come behind them; or the first mode that is refused
unfoldable pub circuits_behind : FlatList → List ModelRow → List Network → List (List PowerRow) → Result (List Network) Unbound
circuits_behind f models circuits [] = Ok circuits
circuits_behind f models circuits (power ∷ powers) = do
  circuit ← in_mode (length circuits) (circuit_of f models power)
  circuits_behind f models (circuits ++ circuit ∷ []) powers

-- the circuits of all modes, or the first mode that is refused
abbrev pub circuits_of : FlatList → List ModelRow → List (List PowerRow) → Result (List Network) Unbound
circuits_of f models powers = circuits_behind f models [] powers

-- ## Answers

abbrev pub circuit_in : Judged → Network
circuit_in j = j.circuit

-- the answer is what the definition says, seen through the view, or the first mode that is refused; want of memory says nothing
abbrev pub GivesModes : {A B : Type 0} → (A → B) → Result A ModeRefusal → Result B Unbound → Type 0
GivesModes view (Ok x) wanted = wanted ≡ Ok (view x)
GivesModes view (Err (At mode fault)) wanted = wanted ≡ Err (record { mode = mode; fault = fault })
GivesModes view (Err NoMemory) wanted = Unit {0}

-- a fact on the number of the mode that is refused
abbrev pub IfRefusedMode : {A : Type 0} → Result A ModeRefusal → (ℕ → Type 0) → Type 0
IfRefusedMode (Ok x) P = Unit {0}
IfRefusedMode (Err (At mode fault)) P = P mode
IfRefusedMode (Err NoMemory) P = Unit {0}

-- a circuit that is bound from the flat list
abbrev pub IsBoundFrom : FlatList → Network → Type 0
IsBoundFrom f c = IsBound (length f.nets) (map (λ d. d.pins) f.devices) c

-- all findings of its rules at its family
abbrev pub HasAllFindings : Judged → Type 0
HasAllFindings j = j.findings ≡ findings_of j.circuit j.family

-- what can be written of a mode: its circuit is bound from the flat list, its family is one of that circuit, and its findings are all there are
pub record IsOfFlat (f : FlatList) (j : Judged) : Type 0 where
  pub bound : IsBoundFrom f j.circuit
  pub family : length j.family ≡ nets j.circuit
  pub found : HasAllFindings j
