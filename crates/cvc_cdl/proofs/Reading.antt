-- What the end of a builder answers of the cards that it stands for.
use Rattle.std.proofs.Common.{◌≡◌, ℕ, List, Option, Some, None, Result, Ok, Err, sym, ap, subst, ◌∙◌}
use Rattle.std.specs.Prelude.{IfOk}
use Rattle.cvc_base.specs.declared.fault.Fault.{Fault}
use Rattle.cvc_base.specs.declared.fault.Refusal.{Refusal}
use Rattle.cvc_base.specs.declared.fault.Refusal.TheVariants.{At, NoMemory}
use Rattle.cvc_cdl.specs.declared.netlist.Netlist.{Netlist}
use Rattle.cvc_cdl.specs.Levels.{Entry}
use Rattle.cvc_cdl.specs.Netlist.{netlist_of}
use Rattle.cvc_cdl.specs.Building.{or_else}
use Rattle.cvc_base.specs.Answers.{IfAt}
use Rattle.cvc_cdl.specs.Builder.{Draft, HasBuilt, IsBuilding}
use Rattle.cvc_cdl.specs.Ending.{ending_fault, reading_of, unless_fault}
use Rattle.cvc_cdl.specs.Finishing.{Finishes, draft_fault, draft_netlist}
use Rattle.cvc_cdl.specs.WellFormed.{IsWellFormed}
use Rattle.cvc_cdl.proofs.Ended.{ending_same}
use Rattle.cvc_cdl.proofs.RebuiltRead.{is_netlist}

module _ (draft : Draft) (es : List Entry) (top : Option (List ℕ)) where
  module _ (b : IsBuilding draft es) where
    ended : (o : Option Fault) → draft_fault draft top ≡ o → ending_fault es top ≡ o
    ended o h = sym (ap (λ d. draft_fault d top) b.drafted ∙ ending_same es b.faultless top) ∙ h

    reading : (o : Option Fault) → draft_fault draft top ≡ o → reading_of es top ≡ unless_fault o (netlist_of es top)
    unfolding reading_of
    reading o h = λ i. unless_fault (or_else (b.faultless i) (ended o h i)) (netlist_of es top)

    netlist : netlist_of es top ≡ draft_netlist draft top
    unfolding netlist_of
    netlist = ap (λ d. draft_netlist d top) (sym b.drafted)

    netlist_by : (r : Result Netlist Refusal) → Finishes draft top r → IfOk r (λ n. reading_of es top ≡ Ok n)
    netlist_by (Ok n) h = reading None h.0 ∙ ap (λ n. Ok n) (netlist ∙ sym h.1)
    netlist_by (Err (At fault)) h = tt
    netlist_by (Err NoMemory) h = tt

    fault_by : (r : Result Netlist Refusal) → Finishes draft top r → IfAt r (λ fault. reading_of es top ≡ Err fault)
    fault_by (Ok n) h = tt
    fault_by (Err (At fault)) h = reading (Some fault) h
    fault_by (Err NoMemory) h = tt

    formed_by : (r : Result Netlist Refusal) → Finishes draft top r → IfOk r IsWellFormed
    formed_by (Ok n) h = subst IsWellFormed (netlist ∙ sym h.1) (is_netlist es top b.faultless (ended None h.0) b.formed).well_formed
    formed_by (Err (At fault)) h = tt
    formed_by (Err NoMemory) h = tt

  module _ (refused : Option Refusal) (is : refused ≡ None) (b : HasBuilt draft es refused) (r : Result Netlist Refusal) (h : Finishes draft top r) where
    building : IsBuilding draft es
    building = subst (HasBuilt draft es) is b

    pub gives_netlist : IfOk r (λ n. reading_of es top ≡ Ok n)
    gives_netlist = netlist_by building r h

    pub gives_fault : IfAt r (λ fault. reading_of es top ≡ Err fault)
    gives_fault = fault_by building r h

    pub gives_formed : IfOk r IsWellFormed
    gives_formed = formed_by building r h

  -- a refusal that was kept
  pub gives_kept : (refused : Option Refusal) (refusal : Refusal) → refused ≡ Some refusal → HasBuilt draft es refused → IfAt {A = Netlist} (Err refusal) (λ fault. reading_of es top ≡ Err fault)
  unfolding reading_of
  gives_kept refused refusal is b = by refusal (subst (HasBuilt draft es) is b)
    where
      by : (refusal : Refusal) → HasBuilt draft es (Some refusal) → IfAt {A = Netlist} (Err refusal) (λ fault. reading_of es top ≡ Err fault)
      by (At fault) h = ap (λ o. unless_fault (or_else o (ending_fault es top)) (netlist_of es top)) h
      by NoMemory h = tt
