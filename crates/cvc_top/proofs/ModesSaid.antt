-- What the steps of a run of modes say, one after another.
use Rattle.std.proofs.Common.{◌≡◌, ℕ, suc, ◌+◌, ◌<◌, ◌≤◌, List, [], ◌∷◌, ◌++◌, length, map, drop, drop-cons, get_or, Option, Some, None, Result, Ok, Err, refl, sym, ap, subst, ◌∙◌, add-one}
use Rattle.std.specs.Prelude.{IfSome}
use Rattle.std.proofs.lemmas.List.{drop_all}
use Rattle.cvc_base.specs.declared.fault.FileKind.TheVariants.{Power as PowerFile}
use Rattle.cvc_base.specs.Order.{◌>>=◌}
use Rattle.cvc_io.specs.Files.{Files, content}
use Rattle.cvc_judge.specs.declared.judged.Judged.{Judged}
use Rattle.cvc_modes.specs.Checked.{GivesModes, circuit_in, circuits_of}
use Rattle.cvc_modes.specs.Modes.{modes_of, told, verdict}
use Rattle.cvc_modes.specs.declared.checked.ModeRefusal.{ModeRefusal}
use Rattle.cvc_modes.specs.declared.checked.ModeRefusal.TheVariants as modes
use Rattle.cvc_modes.specs.declared.fault.ListCause.{ListCause}
use Rattle.cvc_modes.specs.declared.row.ModeRow.{ModeRow}
use Rattle.cvc_power.specs.declared.row.PowerRow.{PowerRow}
use Rattle.cvc_power.specs.Power.{power_of}
use Rattle.cvc_rows.specs.declared.refused.LineFault.{LineFault}
use Rattle.cvc_rows.specs.declared.refused.Refused.{Refused as Listless}
use Rattle.cvc_rows.specs.declared.refused.Refused.TheVariants as lists
use Rattle.cvc_rows.specs.Refusing.{Answers}
use Rattle.cvc_run.specs.Lines.{stop_of}
use Rattle.cvc_run.specs.Loads.{OfContent, up_to}
use Rattle.cvc_run.specs.Said.{Parts, design_of, parts}
use Rattle.cvc_run.specs.Stages.{at_stage}
use Rattle.cvc_run.specs.Stops.{IfAt, ReadOnlyWhere, Says}
use Rattle.cvc_run.specs.declared.stage.Refused.{Refused}
use Rattle.cvc_run.specs.declared.stage.Stage.TheVariants.{Power}
use Rattle.cvc_run.specs.declared.stages.Design.{Design}
use Rattle.cvc_run.specs.declared.stop.RunStop.{RunStop}
use Rattle.cvc_run.specs.declared.stop.RunStop.TheVariants.{At, Read, NoMemory}
use Rattle.cvc_run.proofs.Limits.{rows-up_to}
use Rattle.cvc_run.proofs.Loading.{of_weaker, says_first}
use Rattle.cvc_top.specs.Modes.{ListedParts, at_binding, binding_stop, bound_modes, in_mode, list_stop, listed_of, mode_stop, of_design, of_list, powers_behind}
use Rattle.cvc_top.specs.ModesHeld.{listed_view}
use Rattle.cvc_run.specs.declared.lines.RunRefused.{RunRefused}
use Rattle.cvc_top.specs.declared.modes.ModeRefused.{ModeRefused}

-- ## The list

module _ (files : Option Files) (name text : List ℕ) (read : OfContent files name (λ bytes. text ≡ up_to 16777216 bytes)) where
  same_list : (bytes : List ℕ) → text ≡ up_to 16777216 bytes → modes_of text ≡ modes_of bytes
  same_list bytes e = ap modes_of e ∙ rows-up_to PowerFile told verdict bytes

  pub list_read : (list : List ModeRow) → modes_of text ≡ Ok list → OfContent files name (λ bytes. of_list (modes_of bytes) ≡ Ok list)
  list_read list is =
      of_weaker files name (λ bytes. text ≡ up_to 16777216 bytes) (λ bytes. of_list (modes_of bytes) ≡ Ok list)
      (λ bytes e. ap of_list (sym (same_list bytes e) ∙ is)) read

  pub list_stopped : (x : Listless (LineFault ListCause)) → Answers {A = List ModeRow} (Err x) (modes_of text) → OfContent files name (λ bytes. Says {A = List ModeRow} (λ rows. rows) (Err (list_stop x)) (of_list (modes_of bytes)))
  list_stopped x is =
      of_weaker files name (λ bytes. text ≡ up_to 16777216 bytes) (λ bytes. Says {A = List ModeRow} (λ rows. rows) (Err (list_stop x)) (of_list (modes_of bytes)))
      (λ bytes e. by bytes x (subst (λ (w : Result (List ModeRow) (LineFault ListCause)). Answers {A = List ModeRow} (Err x) w) (same_list bytes e) is)) read
    where
      by : (bytes : List ℕ) (y : Listless (LineFault ListCause)) → Answers {A = List ModeRow} (Err y) (modes_of bytes) → Says {A = List ModeRow} (λ rows. rows) (Err (list_stop y)) (of_list (modes_of bytes))
      by bytes (lists.At fault) h = ap of_list h
      by bytes lists.NoMemory h = tt

pub list_unread : (A : Type 0) (x : Listless (LineFault ListCause)) (cause : Type 0) → ReadOnlyWhere {A = A} (Err (list_stop x)) cause
list_unread A (lists.At fault) cause = tt
list_unread A lists.NoMemory cause = tt

-- ## The design and the list

abbrev pub parts_in : Design → Parts
parts_in d = parts d.flat.list d.models

one_stops_at_design : (top : Option (List ℕ)) (netlist models list : List ℕ) (x : RunStop Refused) → Says parts_in (Err x) (design_of top netlist models) → Says listed_view (Err (stop_of x)) (listed_of top netlist models list)
unfolding listed_of
one_stops_at_design top netlist models list (At r) h = ap (λ w. ◌>>=◌ (of_design w) (λ p. ◌>>=◌ (of_list (modes_of list)) (λ rows. Ok (record { parts = p; rows = rows })))) h
one_stops_at_design top netlist models list Read h = tt
one_stops_at_design top netlist models list NoMemory h = tt

module _ (files : Option Files) (top : Option (List ℕ)) (netlist models list : List ℕ) where
  pub stops_at_design : (x : RunStop Refused) → IfSome files (λ fs. Says parts_in (Err x) (design_of top (content fs netlist) (content fs models)))
      → IfSome files (λ fs. Says listed_view (Err (stop_of x)) (listed_of top (content fs netlist) (content fs models) (content fs list)))
  stops_at_design x h = by files h
    where
      by : (o : Option Files) → IfSome o (λ fs. Says parts_in (Err x) (design_of top (content fs netlist) (content fs models)))
          → IfSome o (λ fs. Says listed_view (Err (stop_of x)) (listed_of top (content fs netlist) (content fs models) (content fs list)))
      by None k = tt
      by (Some fs) k = one_stops_at_design top (content fs netlist) (content fs models) (content fs list) x k

  module _ (d : Design) (design : IfSome files (λ fs. design_of top (content fs netlist) (content fs models) ≡ Ok (parts_in d))) where
    behind : (fs : Files) → design_of top (content fs netlist) (content fs models) ≡ Ok (parts_in d)
        → listed_of top (content fs netlist) (content fs models) (content fs list) ≡ ◌>>=◌ (of_list (modes_of (content fs list))) (λ rows. Ok (record { parts = parts_in d; rows = rows }))
    unfolding listed_of
    behind fs e = ap (λ w. ◌>>=◌ (of_design w) (λ p. ◌>>=◌ (of_list (modes_of (content fs list))) (λ rows. Ok (record { parts = p; rows = rows })))) e

    pub stops_at_list : (x : RunStop RunRefused) → OfContent files list (λ bytes. Says {A = List ModeRow} (λ rows. rows) (Err x) (of_list (modes_of bytes)))
        → IfSome files (λ fs. Says listed_view (Err x) (listed_of top (content fs netlist) (content fs models) (content fs list)))
    stops_at_list x h = by files design h
      where
        by : (o : Option Files) → IfSome o (λ fs. design_of top (content fs netlist) (content fs models) ≡ Ok (parts_in d)) → OfContent o list (λ bytes. Says {A = List ModeRow} (λ rows. rows) (Err x) (of_list (modes_of bytes)))
            → IfSome o (λ fs. Says listed_view (Err x) (listed_of top (content fs netlist) (content fs models) (content fs list)))
        by None e k = tt
        by (Some fs) e k =
            subst (λ (w : Result ListedParts RunRefused). Says listed_view (Err x) w) (sym (behind fs e))
            (says_first {A = List ModeRow} (λ rows. rows) listed_view x (of_list (modes_of (content fs list))) (λ rows. Ok (record { parts = parts_in d; rows = rows })) k)

    pub both_read : (rows : List ModeRow) → OfContent files list (λ bytes. of_list (modes_of bytes) ≡ Ok rows)
        → IfSome files (λ fs. listed_of top (content fs netlist) (content fs models) (content fs list) ≡ Ok (record { parts = parts_in d; rows = rows }))
    both_read rows h = by files design h
      where
        by : (o : Option Files) → IfSome o (λ fs. design_of top (content fs netlist) (content fs models) ≡ Ok (parts_in d)) → OfContent o list (λ bytes. of_list (modes_of bytes) ≡ Ok rows)
            → IfSome o (λ fs. listed_of top (content fs netlist) (content fs models) (content fs list) ≡ Ok (record { parts = parts_in d; rows = rows }))
        by None e k = tt
        by (Some fs) e k = behind fs e ∙ ap (λ w. ◌>>=◌ w (λ rows. Ok (record { parts = parts_in d; rows = rows }))) k

-- ## The power file of a mode

pub mode_said : {A : Type 0} (mode : ℕ) (x : RunStop Refused) (w : Result A Refused) → Says {A = A} (λ y. y) (Err x) w → Says {A = A} (λ y. y) (Err (mode_stop mode x)) (in_mode mode w)
mode_said mode (At r) w h = ap (in_mode mode) h
mode_said mode Read w h = tt
mode_said mode NoMemory w h = tt

pub mode_stopped : (files : Option Files) (name : List ℕ) (mode : ℕ) (x : RunStop Refused) → OfContent files name (λ bytes. Says {A = List PowerRow} (λ p. p) (Err x) (at_stage Power (power_of bytes)))
    → OfContent files name (λ bytes. Says {A = List PowerRow} (λ p. p) (Err (mode_stop mode x)) (in_mode mode (at_stage Power (power_of bytes))))
mode_stopped files name mode x h =
    of_weaker files name (λ bytes. Says {A = List PowerRow} (λ p. p) (Err x) (at_stage Power (power_of bytes))) (λ bytes. Says {A = List PowerRow} (λ p. p) (Err (mode_stop mode x)) (in_mode mode (at_stage Power (power_of bytes))))
    (λ bytes k. mode_said mode x (at_stage Power (power_of bytes)) k) h

pub mode_read : (files : Option Files) (name : List ℕ) (mode : ℕ) (power : List PowerRow) → OfContent files name (λ bytes. at_stage Power (power_of bytes) ≡ Ok power)
    → OfContent files name (λ bytes. in_mode mode (at_stage Power (power_of bytes)) ≡ Ok power)
mode_read files name mode power h =
    of_weaker files name (λ bytes. at_stage Power (power_of bytes) ≡ Ok power) (λ bytes. in_mode mode (at_stage Power (power_of bytes)) ≡ Ok power) (λ bytes k. ap (in_mode mode) k) h

pub stop_of_mode : (A : Type 0) (mode : ℕ) (x : RunStop Refused) → IfAt {A = A} (Err (mode_stop mode x)) (λ r. r.mode ≡ mode)
stop_of_mode A mode (At r) = refl
stop_of_mode A mode Read = tt
stop_of_mode A mode NoMemory = tt

pub mode_cause : (A B : Type 0) (mode : ℕ) (x : RunStop Refused) (cause : Type 0) → ReadOnlyWhere {A = A} (Err x) cause → ReadOnlyWhere {A = B} (Err (mode_stop mode x)) cause
mode_cause A B mode (At r) cause h = tt
mode_cause A B mode Read cause h = h
mode_cause A B mode NoMemory cause h = tt

-- ## All power files

module _ (rows : List ModeRow) where
  -- these power rows are those of the first modes
  abbrev pub IsReadSoFar : Files → List (List PowerRow) → ℕ → Type 0
  IsReadSoFar fs powers i = powers_behind fs [] rows ≡ powers_behind fs powers (drop i rows)

  module _ (files : Option Files) (powers : List (List PowerRow)) (i : ℕ) (row : ModeRow) (inside : i < length rows) (there : row ≡ get_or rows i row) (count : length powers ≡ i) (so_far : IfSome files (λ fs. IsReadSoFar fs powers i)) where
    next : (fs : Files) → IsReadSoFar fs powers i → powers_behind fs [] rows ≡ ◌>>=◌ (in_mode i (at_stage Power (power_of (content fs row.file)))) (λ power. powers_behind fs (powers ++ power ∷ []) (drop (suc i) rows))
    unfolding powers_behind
    next fs before =
        before ∙ ap (powers_behind fs powers) (drop-cons rows i row inside ∙ (λ k. sym there k ∷ drop (suc i) rows))
        ∙ (λ k. ◌>>=◌ (in_mode (count k) (at_stage Power (power_of (content fs row.file)))) (λ power. powers_behind fs (powers ++ power ∷ []) (drop (suc i) rows)))

    pub one_stopped : (x : RunStop ModeRefused) → OfContent files row.file (λ bytes. Says {A = List PowerRow} (λ p. p) (Err x) (in_mode i (at_stage Power (power_of bytes))))
        → IfSome files (λ fs. Says {A = List (List PowerRow)} (λ ps. ps) (Err x) (powers_behind fs [] rows))
    one_stopped x h = by files so_far h
      where
        by : (o : Option Files) → IfSome o (λ fs. IsReadSoFar fs powers i) → OfContent o row.file (λ bytes. Says {A = List PowerRow} (λ p. p) (Err x) (in_mode i (at_stage Power (power_of bytes))))
            → IfSome o (λ fs. Says {A = List (List PowerRow)} (λ ps. ps) (Err x) (powers_behind fs [] rows))
        by None before k = tt
        by (Some fs) before k =
            subst (λ (w : Result (List (List PowerRow)) ModeRefused). Says {A = List (List PowerRow)} (λ ps. ps) (Err x) w) (sym (next fs before))
            (says_first {A = List PowerRow} {C = List (List PowerRow)} (λ p. p) (λ ps. ps) x (in_mode i (at_stage Power (power_of (content fs row.file)))) (λ power. powers_behind fs (powers ++ power ∷ []) (drop (suc i) rows)) k)

    pub one_read : (power : List PowerRow) (more : List (List PowerRow)) → more ≡ powers ++ power ∷ [] → OfContent files row.file (λ bytes. in_mode i (at_stage Power (power_of bytes)) ≡ Ok power)
        → IfSome files (λ fs. IsReadSoFar fs more (i + 1))
    one_read power more pushed h = by files so_far h
      where
        by : (o : Option Files) → IfSome o (λ fs. IsReadSoFar fs powers i) → OfContent o row.file (λ bytes. in_mode i (at_stage Power (power_of bytes)) ≡ Ok power) → IfSome o (λ fs. IsReadSoFar fs more (i + 1))
        by None before k = tt
        by (Some fs) before k =
            next fs before ∙ ap (λ w. ◌>>=◌ w (λ power. powers_behind fs (powers ++ power ∷ []) (drop (suc i) rows))) k
            ∙ (λ j. powers_behind fs (sym pushed j) (drop (sym (add-one i) j) rows))

  pub none_read : (files : Option Files) (powers : List (List PowerRow)) → powers ≡ [] → IfSome files (λ fs. IsReadSoFar fs powers 0)
  none_read None powers e = tt
  none_read (Some fs) powers e = ap (λ ps. powers_behind fs ps rows) (sym e)

  pub all_read : (files : Option Files) (powers : List (List PowerRow)) (i : ℕ) → length rows ≤ i → IfSome files (λ fs. IsReadSoFar fs powers i) → IfSome files (λ fs. powers_behind fs [] rows ≡ Ok powers)
  unfolding powers_behind
  all_read None powers i ended so_far = tt
  all_read (Some fs) powers i ended so_far = so_far ∙ ap (powers_behind fs powers) (drop_all i rows ended)

-- ## Bindings

one_stops_at_powers : (fs : Files) (l : ListedParts) (x : RunStop ModeRefused) → Says {A = List (List PowerRow)} (λ ps. ps) (Err x) (powers_behind fs [] l.rows) → Says {A = List Judged} (λ js. map circuit_in js) (Err x) (bound_modes fs l)
unfolding bound_modes
one_stops_at_powers fs l x h =
    says_first {A = List (List PowerRow)} {C = List Judged} (λ ps. ps) (λ js. map circuit_in js) x (powers_behind fs [] l.rows) (λ powers. at_binding (circuits_of l.parts.flat l.parts.rows powers)) h

module _ (files : Option Files) (l : ListedParts) where
  pub stops_at_powers : (x : RunStop ModeRefused) → IfSome files (λ fs. Says {A = List (List PowerRow)} (λ ps. ps) (Err x) (powers_behind fs [] l.rows))
      → IfSome files (λ fs. Says {A = List Judged} (λ js. map circuit_in js) (Err x) (bound_modes fs l))
  stops_at_powers x h = by files h
    where
      by : (o : Option Files) → IfSome o (λ fs. Says {A = List (List PowerRow)} (λ ps. ps) (Err x) (powers_behind fs [] l.rows)) → IfSome o (λ fs. Says {A = List Judged} (λ js. map circuit_in js) (Err x) (bound_modes fs l))
      by None k = tt
      by (Some fs) k = one_stops_at_powers fs l x k

  module _ (powers : List (List PowerRow)) (read : IfSome files (λ fs. powers_behind fs [] l.rows ≡ Ok powers)) where
    behind_powers : (fs : Files) → powers_behind fs [] l.rows ≡ Ok powers → bound_modes fs l ≡ at_binding (circuits_of l.parts.flat l.parts.rows powers)
    unfolding bound_modes
    behind_powers fs e = ap (λ w. ◌>>=◌ w (λ powers. at_binding (circuits_of l.parts.flat l.parts.rows powers))) e

    pub all_checked : (js : List Judged) → circuits_of l.parts.flat l.parts.rows powers ≡ Ok (map circuit_in js) → IfSome files (λ fs. bound_modes fs l ≡ Ok (map circuit_in js))
    all_checked js is = by files read
      where
        by : (o : Option Files) → IfSome o (λ fs. powers_behind fs [] l.rows ≡ Ok powers) → IfSome o (λ fs. bound_modes fs l ≡ Ok (map circuit_in js))
        by None e = tt
        by (Some fs) e = behind_powers fs e ∙ ap at_binding is

    pub stops_at_binding : (x : ModeRefusal) → GivesModes {A = List Judged} (λ js. map circuit_in js) (Err x) (circuits_of l.parts.flat l.parts.rows powers)
        → IfSome files (λ fs. Says {A = List Judged} (λ js. map circuit_in js) (Err (binding_stop x)) (bound_modes fs l))
    stops_at_binding x h = by files x read h
      where
        by : (o : Option Files) (y : ModeRefusal) → IfSome o (λ fs. powers_behind fs [] l.rows ≡ Ok powers) → GivesModes {A = List Judged} (λ js. map circuit_in js) (Err y) (circuits_of l.parts.flat l.parts.rows powers)
            → IfSome o (λ fs. Says {A = List Judged} (λ js. map circuit_in js) (Err (binding_stop y)) (bound_modes fs l))
        by None y e k = tt
        by (Some fs) (modes.At mode fault) e k = behind_powers fs e ∙ ap at_binding k
        by (Some fs) modes.NoMemory e k = tt

pub binding_unread : (A : Type 0) (x : ModeRefusal) (cause : Type 0) → ReadOnlyWhere {A = A} (Err (binding_stop x)) cause
binding_unread A (modes.At mode fault) cause = tt
binding_unread A modes.NoMemory cause = tt
