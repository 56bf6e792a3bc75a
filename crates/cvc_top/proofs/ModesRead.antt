-- What holds while the power files of modes are read.
use Rattle.std.proofs.Common.{◌≡◌, ℕ, suc, ◌+◌, All, List, [], ◌∷◌, ◌++◌, length, length-append, map, Option, ap, arith}
use Rattle.std.proofs.lemmas.List.{length-map}
use Rattle.std.specs.Prelude.{IfSome, Result, Ok, Err}
use Rattle.cvc_base.specs.Order.{◌>>=◌}
use Rattle.cvc_bind.specs.Bound.{circuit_of}
use Rattle.cvc_flat.specs.Flat.{FlatList}
use Rattle.cvc_io.specs.Files.{Counts, Files, Standing}
use Rattle.cvc_judge.specs.declared.judged.Judged.{Judged}
use Rattle.cvc_law.specs.Network.{Network}
use Rattle.cvc_model.specs.declared.row.ModelRow.{ModelRow}
use Rattle.cvc_modes.specs.Checked.{Unbound, circuit_in, circuits_behind, circuits_of}
use Rattle.cvc_modes.specs.Checked.{in_mode as bound_in_mode}
use Rattle.cvc_modes.specs.declared.row.ModeRow.{ModeRow}
use Rattle.cvc_power.specs.declared.row.PowerRow.{PowerRow}
use Rattle.cvc_power.specs.Power.{IsOrdered, power_of}
use Rattle.cvc_run.proofs.Loading.{of_weaker}
use Rattle.cvc_run.specs.Loads.{OfContent}
use Rattle.cvc_run.specs.Shelves.{Leaves}
use Rattle.cvc_run.specs.Stages.{at_stage}
use Rattle.cvc_run.specs.declared.stage.Refused.{Refused}
use Rattle.cvc_run.specs.declared.stage.Stage.TheVariants.{Power}
use Rattle.cvc_top.specs.Modes.{in_mode}
use Rattle.cvc_top.proofs.ModesDue.{AreAccepted}
use Rattle.cvc_top.proofs.ModesSaid.{IsReadSoFar}

-- those of the first modes are read
pub record AreReadTo (rows : List ModeRow) (standing : Option Standing) (files files_now : Option Files) (before now : Counts) (i mode : ℕ) (powers : List (List PowerRow)) : Type 0 where
  pub leaves : Leaves standing files files_now before now
  pub place : mode ≡ i
  pub count : length powers ≡ i
  pub ordered : All (All IsOrdered) powers
  pub so_far : IfSome files (λ fs. IsReadSoFar rows fs powers i)
  pub accepted : IfSome files (λ fs. AreAccepted fs rows i)

-- what a mode's power file says, without the mode
unmoded : {A : Type 0} (mode : ℕ) (w : Result A Refused) (x : A) → in_mode mode w ≡ Ok x → w ≡ Ok x
unmoded {A = A} mode (Ok y) x e = let same : y ≡ x = cc in ap (λ (z : A). Ok z) same
unmoded mode (Err r) x e = cc

pub power_plain : (files : Option Files) (name : List ℕ) (mode : ℕ) (power : List PowerRow) → OfContent files name (λ bytes. in_mode mode (at_stage Power (power_of bytes)) ≡ Ok power)
    → OfContent files name (λ bytes. at_stage Power (power_of bytes) ≡ Ok power)
power_plain files name mode power h =
    of_weaker files name (λ bytes. in_mode mode (at_stage Power (power_of bytes)) ≡ Ok power) (λ bytes. at_stage Power (power_of bytes) ≡ Ok power)
    (λ bytes e. unmoded mode (at_stage Power (power_of bytes)) power e) h

-- ## As many circuits as power files

-- one circuit, by what is behind it
counted : (f : FlatList) (models : List ModelRow) (done : List Network) (ps : List (List PowerRow)) (cs : List Network)
    → ((c : Network) → circuits_behind f models (done ++ c ∷ []) ps ≡ Ok cs → length cs ≡ length (done ++ c ∷ []) + length ps)
    → (w : Result Network Unbound) → ◌>>=◌ w (λ c. circuits_behind f models (done ++ c ∷ []) ps) ≡ Ok cs → length cs ≡ length done + suc (length ps)
counted f models done ps cs behind (Ok c) e = let rest = behind c e in let one = length-append done (c ∷ []) in omega (arith, rest, one)
counted f models done ps cs behind (Err u) e = cc

count_circuits : (f : FlatList) (models : List ModelRow) (done : List Network) (powers : List (List PowerRow)) (cs : List Network) → circuits_behind f models done powers ≡ Ok cs
    → length cs ≡ length done + length powers
unfolding circuits_behind
count_circuits f models done [] cs e = let same : done ≡ cs = cc in let long = ap length same in omega (arith, long)
count_circuits f models done (p ∷ ps) cs e =
    counted f models done ps cs (λ c is. count_circuits f models (done ++ c ∷ []) ps cs is) (bound_in_mode (length done) (circuit_of f models p)) e

pub as_many_results : (f : FlatList) (models : List ModelRow) (powers : List (List PowerRow)) (js : List Judged) (n : ℕ) → length powers ≡ n → circuits_of f models powers ≡ Ok (map circuit_in js)
    → length js ≡ n
as_many_results f models powers js n many e =
    let count = count_circuits f models [] powers (map circuit_in js) e in
    let same = length-map js circuit_in in
    omega (arith, count, same, many)
