-- Which files of a run of modes are due.
use Rattle.std.proofs.Common.{◌≡◌, ℕ, zero, suc, ◌+◌, ◌<◌, true, List, [], ◌∷◌, length, take, get_or, Option, Some, None, Result, Ok, Err, All, inl, inr, refl, sym, ap, subst, ◌∙◌, arith}
use Rattle.std.specs.Prelude.{IfSome, is_ok}
use Rattle.std.proofs.lemmas.List.{get_or-map, length-map}
use Rattle.std.proofs.lemmas.List.Elements.{All-head, All-more, All-nil, All-tail}
use Rattle.cvc_base.specs.declared.fault.Fault.{Fault}
use Rattle.cvc_io.specs.Causes.{Rose}
use Rattle.cvc_io.specs.Files.{Counts, Files, NoneFalls, content}
use Rattle.cvc_modes.specs.Modes.{modes_of}
use Rattle.cvc_modes.specs.declared.fault.ListCause.{ListCause}
use Rattle.cvc_modes.specs.declared.row.ModeRow.{ModeRow}
use Rattle.cvc_power.specs.declared.row.PowerRow.{PowerRow}
use Rattle.cvc_power.specs.Power.{power_of}
use Rattle.cvc_rows.specs.declared.refused.LineFault.{LineFault}
use Rattle.cvc_run.specs.Due.{DueFailed, OneFailed, Reading, design_due}
use Rattle.cvc_run.specs.Loads.{OfContent}
use Rattle.cvc_run.specs.Said.{Parts, design_of}
use Rattle.cvc_run.specs.Stages.{at_stage}
use Rattle.cvc_run.specs.declared.stage.Refused.{Refused}
use Rattle.cvc_run.specs.declared.stage.Stage.TheVariants.{Power}
use Rattle.cvc_run.proofs.Shelving.{rose_later}
use Rattle.cvc_run.proofs.Steps.{accepted_design}
use Rattle.cvc_base.specs.Order.{◌>>=◌}
use Rattle.cvc_top.specs.Modes.{ListedParts, PowerFailed, listed_of, modes_due, of_design, of_list, power_reading, power_readings, rows_in}

-- what is due for the design is due for the run
pub design_failed : (files : Option Files) (top : Option (List ℕ)) (netlist models list : List ℕ) (a b : Counts) → DueFailed (design_due files top netlist models) a b → DueFailed (modes_due files top netlist models list) a b
design_failed None top netlist models list a b (inl rose) = (netlist, rose)
design_failed None top netlist models list a b (inr (flat, inl rose)) = (models, rose)
design_failed None top netlist models list a b (inr (flat, inr (rows, none))) = absurd none
design_failed (Some fs) top netlist models list a b (inl rose) = inl rose
design_failed (Some fs) top netlist models list a b (inr (flat, inl rose)) = inr (flat, inl rose)
design_failed (Some fs) top netlist models list a b (inr (flat, inr (rows, none))) = absurd none

-- behind an accepted design the list is due
pub list_failed : (files : Option Files) (top : Option (List ℕ)) (netlist models list : List ℕ) (d : Parts) → IfSome files (λ fs. design_of top (content fs netlist) (content fs models) ≡ Ok d)
    → (a b c : Counts) → NoneFalls a b → Rose (b list) (c list) → DueFailed (modes_due files top netlist models list) a c
list_failed None top netlist models list d read a b c less rose = (list, rose_later (a list) (b list) (c list) (less list) rose)
list_failed (Some fs) top netlist models list d read a b c less rose =
    let both = accepted_design top (Some fs) netlist models d read in
    inr (both.0, inr (both.1, inl (rose_later (a list) (b list) (c list) (less list) rose)))

-- ## The power files

-- one behind others that are accepted
one_failed : (readings : List Reading) (i : ℕ) (r : Reading) (a b : Counts) → i < length readings → r ≡ get_or readings i r → All (λ x. x.accepted ≡ true) (take i readings) → Rose (a r.name) (b r.name) → OneFailed readings a b
one_failed [] i r a b inside there before rose = absurd (omega arith)
one_failed (x ∷ xs) zero r a b inside there before rose = inl (subst (λ (y : Reading). Rose (a y.name) (b y.name)) there rose)
one_failed (x ∷ xs) (suc i) r a b inside there before rose =
    inr (All-head (λ y. y.accepted ≡ true) x (take i xs) before, one_failed xs i r a b (omega arith) there (All-tail (λ y. y.accepted ≡ true) x (take i xs) before) rose)

-- the power files of the first modes are accepted
abbrev pub AreAccepted : Files → List ModeRow → ℕ → Type 0
AreAccepted fs rows i = All (λ x. x.accepted ≡ true) (take i (power_readings fs rows))

pub none_accepted : (files : Option Files) (rows : List ModeRow) → IfSome files (λ fs. AreAccepted fs rows 0)
none_accepted None rows = tt
none_accepted (Some fs) rows = All-nil (λ x. x.accepted ≡ true)

power_accepted : (w : Result (List PowerRow) Fault) (power : List PowerRow) → at_stage Power w ≡ Ok power → is_ok w ≡ true
power_accepted (Ok p) power e = refl
power_accepted (Err fault) power e = absurd (let bad : at_stage Power (Err fault) ≡ Ok power = e in cc)

module _ (rows : List ModeRow) (i : ℕ) (row : ModeRow) (inside : i < length rows) (there : row ≡ get_or rows i row) where
  reading_there : (fs : Files) → power_reading fs row ≡ get_or (power_readings fs rows) i (power_reading fs row)
  reading_there fs = ap (power_reading fs) there ∙ sym (get_or-map (power_reading fs) rows i row (power_reading fs row) inside)

  reading_inside : (fs : Files) → i < length (power_readings fs rows)
  reading_inside fs = subst (λ (n : ℕ). i < n) (sym (length-map rows (power_reading fs))) inside

  pub one_accepted : (files : Option Files) → IfSome files (λ fs. AreAccepted fs rows i) → (power : List PowerRow) → OfContent files row.file (λ bytes. at_stage Power (power_of bytes) ≡ Ok power)
      → IfSome files (λ fs. AreAccepted fs rows (i + 1))
  one_accepted None before power h = tt
  one_accepted (Some fs) before power h =
      All-more (λ x. x.accepted ≡ true) (power_readings fs rows) i (power_reading fs row) (reading_inside fs) before
      (subst (λ (x : Reading). x.accepted ≡ true) (reading_there fs) (power_accepted (power_of (content fs row.file)) power h))

  pub power_failed : (files : Option Files) → IfSome files (λ fs. AreAccepted fs rows i) → (a b c : Counts) → NoneFalls a b → Rose (b row.file) (c row.file) → PowerFailed files rows a c
  power_failed None before a b c less rose = (row.file, rose_later (a row.file) (b row.file) (c row.file) (less row.file) rose)
  power_failed (Some fs) before a b c less rose =
      one_failed (power_readings fs rows) i (power_reading fs row) a c (reading_inside fs) (reading_there fs) before (rose_later (a row.file) (b row.file) (c row.file) (less row.file) rose)

-- behind an accepted list the power files of its modes are due
listed_accepted : (top : Option (List ℕ)) (netlist models list : List ℕ) (l : ListedParts) → listed_of top netlist models list ≡ Ok l → (design_of top netlist models ≡ Ok l.parts) × (modes_of list ≡ Ok l.rows)
unfolding listed_of
listed_accepted top netlist models list l e = by (design_of top netlist models) (modes_of list) e
  where
    by : (d : Result Parts Refused) (m : Result (List ModeRow) (LineFault ListCause)) → ◌>>=◌ (of_design d) (λ p. ◌>>=◌ (of_list m) (λ rows. Ok (record { parts = p; rows = rows }))) ≡ Ok l → (d ≡ Ok l.parts) × (m ≡ Ok l.rows)
    by (Ok p) (Ok rows) is = let same : record { parts = p; rows = rows } ≡ l = cc in (ap (λ (x : ListedParts). Ok x.parts) same, ap (λ (x : ListedParts). Ok x.rows) same)
    by (Ok p) (Err fault) is = cc
    by (Err r) m is = cc

pub powers_failed : (files : Option Files) (top : Option (List ℕ)) (netlist models list : List ℕ) (l : ListedParts) → IfSome files (λ fs. listed_of top (content fs netlist) (content fs models) (content fs list) ≡ Ok l)
    → (a b c : Counts) → NoneFalls a b → PowerFailed files l.rows b c → DueFailed (modes_due files top netlist models list) a c
powers_failed None top netlist models list l read a b c less (name, rose) = (name, rose_later (a name) (b name) (c name) (less name) rose)
powers_failed (Some fs) top netlist models list l read a b c less failed =
    let two = listed_accepted top (content fs netlist) (content fs models) (content fs list) l read in
    let both = accepted_design top (Some fs) netlist models l.parts two.0 in
    let later : OneFailed (power_readings fs l.rows) a c = earlier (power_readings fs l.rows) failed in
    inr (both.0, inr (both.1, inr (ap is_ok two.1, subst (λ (rows : List ModeRow). OneFailed (power_readings fs rows) a c) (sym (ap rows_in two.1)) later)))
  where
    earlier : (readings : List Reading) → OneFailed readings b c → OneFailed readings a c
    earlier [] none = absurd none
    earlier (r ∷ rs) (inl rose) = inl (rose_later (a r.name) (b r.name) (c r.name) (less r.name) rose)
    earlier (r ∷ rs) (inr (accepted, later)) = inr (accepted, earlier rs later)
