-- Each fault of a netlist and of a models file names its file.
use Rattle.std.proofs.Common.{◌≡◌, ℕ, ◌+◌, Bool, true, false, List, [], ◌∷◌, ◌++◌, length, map, Option, Some, None, Result, Ok, Err, refl, sym, ap, ◌∙◌}
use Rattle.std.specs.Prelude.{find, if◌then◌else◌, nat_lt}
use Rattle.std.specs.Option.{option_map}
use Rattle.cvc_base.specs.Order.{◌>>=◌}
use Rattle.cvc_base.specs.Faults.{fault_on}
use Rattle.cvc_base.specs.declared.cause.Cause.{Cause}
use Rattle.cvc_base.specs.declared.cause.Cause.TheVariants.{NoTop, OpenSubckt, Recursive, TooManyNets}
use Rattle.cvc_base.specs.declared.fault.Fault.{Fault}
use Rattle.cvc_base.specs.declared.fault.FileKind.{FileKind}
use Rattle.cvc_base.specs.declared.fault.FileKind.TheVariants.{Netlist, Models}
use Rattle.cvc_base.specs.declared.line.Line.{Line}
use Rattle.cvc_card.specs.declared.card.Card.{Card}
use Rattle.cvc_card.specs.declared.card.CellCard.{CellCard}
use Rattle.cvc_card.specs.declared.card.InstCard.{InstCard}
use Rattle.cvc_card.specs.Card.{card_of}
use Rattle.cvc_card.specs.Parts.{last_of}
use Rattle.cvc_cdl.specs.declared.netlist.Cell.{Cell}
use Rattle.cvc_cdl.specs.declared.netlist.Item.{Item}
use Rattle.cvc_cdl.specs.declared.netlist.Item.TheVariants as items
use Rattle.cvc_cdl.specs.declared.netlist.Netlist.{Netlist as NetlistRead}
use Rattle.cvc_cdl.specs.Building.{cause_of, fault_at, fault_of, is_among, or_else as cards_else}
use Rattle.cvc_cdl.specs.Ending.{ending_fault, endless_fault, first_instance_fault, instance_cause, instance_fault, instances, is_endless, open_fault, open_fault_at, top_fault, unless_fault}
use Rattle.cvc_cdl.specs.File.{ended, entries_from, entries_of, entry_at, entry_with, file_of, then_lexical as cards_then_lexical}
use Rattle.cvc_cdl.specs.Instances.{Instance}
use Rattle.cvc_cdl.specs.Levels.{Entry, Level, cell_cards, level_behind}
use Rattle.cvc_cdl.specs.Netlist.{cells_of, name_of_cell, netlist_of}
use Rattle.cvc_flat.specs.Flat.{Limits, device_cause, flat_fault, flat_of, instance_cause as visit_cause, limits, list_behind, nets_once, opening_fault, openings, visit_fault, visit_fault_in, visits_of, walk_fault}
use Rattle.cvc_flat.specs.Walk.{Visit}
use Rattle.cvc_lex.specs.Lines.{cause_at, closed_at_end, fault_after, fault_with, first_fault, joined, lexical, opened, or_else as lines_else}
use Rattle.cvc_lex.specs.Physical.{physical, read}
use Rattle.cvc_model.specs.declared.row.ModelRow.{ModelRow}
use Rattle.cvc_model.specs.Models.{models_of, verdict}
use Rattle.cvc_rows.specs.declared.refused.LineFault.{LineFault}
use Rattle.cvc_rows.specs.Rows.{as_written, on_file, rows_of}
use Rattle.cvc_plan.specs.Nets.{Net, Opening}
use Rattle.cvc_run.specs.Said.{Parts, design_of, flat_of_file, parts}
use Rattle.cvc_run.specs.Stages.{at_stage, refused, refused_file, stage_of}
use Rattle.cvc_run.specs.declared.stage.Refused.{Refused}
use Rattle.cvc_run.specs.declared.stage.Stage.TheVariants as stages

abbrev IsOf : FileKind → Fault → Type 0
IsOf kind fault = fault.place.file ≡ kind

abbrev SomeOf : FileKind → Option Fault → Type 0
SomeOf kind None = Unit {0}
SomeOf kind (Some fault) = fault.place.file ≡ kind

abbrev ErrOf : {A : Type 0} → FileKind → Result A Fault → Type 0
ErrOf kind (Ok x) = Unit {0}
ErrOf kind (Err fault) = fault.place.file ≡ kind

-- ## Parts

some_map : {X : Type 0} (kind : FileKind) (f : X → Fault) (o : Option X) → ((x : X) → IsOf kind (f x)) → SomeOf kind (option_map f o)
some_map kind f None all = tt
some_map kind f (Some x) all = all x

some_if : (kind : FileKind) (b : Bool) (x y : Option Fault) → SomeOf kind x → SomeOf kind y → SomeOf kind (if b then x else y)
some_if kind true x y p q = p
some_if kind false x y p q = q

lines_or : (kind : FileKind) (a b : Option Fault) → SomeOf kind a → SomeOf kind b → SomeOf kind (lines_else a b)
lines_or kind None b p q = q
lines_or kind (Some fault) b p q = p

cards_or : (kind : FileKind) (a b : Option Fault) → SomeOf kind a → SomeOf kind b → SomeOf kind (cards_else a b)
cards_or kind None b p q = q
cards_or kind (Some fault) b p q = p

bind_of : {A B : Type 0} (kind : FileKind) (r : Result A Fault) (next : A → Result B Fault) → ErrOf kind r → ((x : A) → ErrOf kind (next x)) → ErrOf kind (◌>>=◌ r next)
bind_of kind (Ok x) next p q = q x
bind_of kind (Err fault) next p q = p

-- ## Lines

line_of_kind : (kind : FileKind) (before : List (List ℕ)) (line : List ℕ) → SomeOf kind (fault_after kind before line)
unfolding fault_after fault_with
line_of_kind kind before line =
    some_map kind (fault_on kind (length before + 1)) (cause_at kind (length (joined before) + length line) (opened kind before) (read kind (length before + 1) line)) (λ c. refl)

first_of_kind : (kind : FileKind) (before lines : List (List ℕ)) → SomeOf kind (first_fault kind before lines)
unfolding first_fault
first_of_kind kind before [] = tt
first_of_kind kind before (line ∷ lines) = lines_or kind (fault_after kind before line) (first_fault kind (before ++ line ∷ []) lines) (line_of_kind kind before line) (first_of_kind kind (before ++ line ∷ []) lines)

lexical_of_kind : (kind : FileKind) (bytes : List ℕ) → SomeOf kind (lexical kind bytes)
unfolding lexical
lexical_of_kind kind bytes = first_of_kind kind [] (physical bytes)

-- ## The netlist

unless_of : {A : Type 0} (o : Option Fault) (x : A) → SomeOf Netlist o → ErrOf Netlist (unless_fault o x)
unless_of None x p = tt
unless_of (Some fault) x p = p

entry_of : (earlier : List Entry) (n : ℕ) (r : Result Card Cause) → ErrOf Netlist (entry_with earlier n r)
entry_of earlier n (Err cause) = refl
entry_of earlier n (Ok card) =
    let e : Entry = record { card = card; line = n } in
    unless_of (fault_of earlier e) e (some_map Netlist (fault_at n) (cause_of earlier card) (λ c. refl))

entries_of_netlist : (earlier : List Entry) (lines : List Line) → ErrOf Netlist (entries_from earlier lines)
unfolding entries_from
entries_of_netlist earlier [] = tt
entries_of_netlist earlier (line ∷ lines) =
    bind_of Netlist (entry_at earlier line) (λ e. entries_from (earlier ++ e ∷ []) lines) (entry_of earlier line.first (card_of line)) (λ e. entries_of_netlist (earlier ++ e ∷ []) lines)

then_lexical_of : (o : Option Fault) (entries : List Entry) → SomeOf Netlist o → ErrOf Netlist (cards_then_lexical o entries)
then_lexical_of None entries p = tt
then_lexical_of (Some fault) entries p = p

cards_of : (bytes : List ℕ) → ErrOf Netlist (entries_of bytes)
unfolding entries_of
cards_of bytes =
    bind_of Netlist (entries_from [] (closed_at_end Netlist bytes)) (cards_then_lexical (lexical Netlist bytes)) (entries_of_netlist [] (closed_at_end Netlist bytes))
    (λ entries. then_lexical_of (lexical Netlist bytes) entries (lexical_of_kind Netlist bytes))

open_of : (level : Level) (cards : List CellCard) → SomeOf Netlist (open_fault_at level cards)
open_of None cards = tt
open_of (Some name) cards = some_map Netlist (λ (c : CellCard). fault_at c.line OpenSubckt) (last_of cards) (λ c. refl)

instances_of : (cells : List Cell) (xs : List InstCard) → SomeOf Netlist (first_instance_fault cells xs)
unfolding first_instance_fault
instances_of cells [] = tt
instances_of cells (x ∷ xs) = cards_or Netlist (instance_fault cells x) (first_instance_fault cells xs) (some_map Netlist (fault_at x.line) (instance_cause cells x) (λ c. refl)) (instances_of cells xs)

top_of : (cells : List Cell) (top : Option (List ℕ)) → SomeOf Netlist (top_fault cells top)
top_of cells None = tt
top_of cells (Some name) = some_if Netlist (is_among (map name_of_cell cells) name) None (Some (fault_at 0 NoTop)) tt refl

ending_of : (entries : List Entry) (top : Option (List ℕ)) → SomeOf Netlist (ending_fault entries top)
unfolding ending_fault
ending_of entries top =
    let cells = cells_of entries in
    let xs = instances entries in
    cards_or Netlist (open_fault entries) (cards_else (first_instance_fault cells xs) (cards_else (endless_fault cells xs) (top_fault cells top))) (open_of (level_behind None entries) (cell_cards entries))
    (cards_or Netlist (first_instance_fault cells xs) (cards_else (endless_fault cells xs) (top_fault cells top)) (instances_of cells xs)
    (cards_or Netlist (endless_fault cells xs) (top_fault cells top) (some_map Netlist (λ (x : InstCard). fault_at x.line Recursive) (find (λ (x : InstCard). is_endless cells x.cell) xs) (λ x. refl)) (top_of cells top)))

netlist_faults : (bytes : List ℕ) (top : Option (List ℕ)) → ErrOf Netlist (file_of bytes top)
unfolding file_of
netlist_faults bytes top = bind_of Netlist (entries_of bytes) (ended top) (cards_of bytes) (λ entries. unless_of (ending_fault entries top) (netlist_of entries top) (ending_of entries top))

-- ## The flat list

opening_of : (l : Limits) (known : List Net) (os : List Opening) → SomeOf Netlist (opening_fault l known os)
unfolding opening_fault
opening_of l known [] = tt
opening_of l known (o ∷ os) =
    some_if Netlist (nat_lt l.nets (length (nets_once known (o.net ∷ [])))) (Some (fault_at o.line TooManyNets)) (opening_fault l (nets_once known (o.net ∷ [])) os) refl (opening_of l (nets_once known (o.net ∷ [])) os)

item_of : (l : Limits) (n : NetlistRead) (earlier : List Visit) (p : Instance) (i : Item) → SomeOf Netlist (visit_fault_in l n earlier p i)
item_of l n earlier p (items.Device d) = some_map Netlist (fault_at d.line) (device_cause l n earlier p d) (λ c. refl)
item_of l n earlier p (items.Inst x) = some_map Netlist (fault_at x.line) (visit_cause l earlier (x ∷ p)) (λ c. refl)

visit_of : (l : Limits) (n : NetlistRead) (earlier : List Visit) (v : Visit) → SomeOf Netlist (visit_fault l n earlier v)
unfolding visit_fault
visit_of l n earlier v = item_of l n earlier v.within v.item

walk_of : (l : Limits) (n : NetlistRead) (earlier visits : List Visit) → SomeOf Netlist (walk_fault l n earlier visits)
unfolding walk_fault
walk_of l n earlier [] = tt
walk_of l n earlier (v ∷ vs) = cards_or Netlist (visit_fault l n earlier v) (walk_fault l n (earlier ++ v ∷ []) vs) (visit_of l n earlier v) (walk_of l n (earlier ++ v ∷ []) vs)

flat_faults : (n : NetlistRead) → ErrOf Netlist (flat_of limits n)
unfolding flat_of flat_fault
flat_faults n =
    unless_of (flat_fault limits n) (list_behind n (visits_of limits n))
    (cards_or Netlist (opening_fault limits [] (openings n)) (walk_fault limits n [] (visits_of limits n)) (opening_of limits [] (openings n)) (walk_of limits n [] (visits_of limits n)))

flat_file_faults : (top : Option (List ℕ)) (bytes : List ℕ) → ErrOf Netlist (flat_of_file top bytes)
unfolding flat_of_file
flat_file_faults top bytes = bind_of Netlist (file_of bytes top) (flat_of limits) (netlist_faults bytes top) flat_faults

-- ## The models

on_file_of : {A : Type 0} (kind : FileKind) (r : Result A (LineFault Cause)) → ErrOf kind (on_file kind r)
on_file_of kind (Ok rows) = tt
on_file_of kind (Err fault) = refl

models_faults : (bytes : List ℕ) → ErrOf Models (models_of bytes)
models_faults bytes = on_file_of Models (rows_of as_written verdict Models bytes)

-- ## A design

abbrev IsByFile : {A : Type 0} → Result A Refused → Type 0
IsByFile (Ok x) = Unit {0}
IsByFile (Err r) = r ≡ refused_file r.fault

step_by_file : {A : Type 0} (kind : FileKind) (r : Result A Fault) → ErrOf kind r → IsByFile (at_stage (stage_of kind) r)
step_by_file kind (Ok x) h = tt
step_by_file kind (Err fault) h = ap (λ (k : FileKind). refused (stage_of k) fault) (sym h)

bind_by_file : {A B : Type 0} (r : Result A Refused) (next : A → Result B Refused) → IsByFile r → ((x : A) → IsByFile (next x)) → IsByFile (◌>>=◌ r next)
bind_by_file (Ok x) next p q = q x
bind_by_file (Err r) next p q = p

design_by_file : (top : Option (List ℕ)) (netlist models : List ℕ) → IsByFile (design_of top netlist models)
unfolding design_of
design_by_file top netlist models =
    bind_by_file (at_stage stages.Netlist (flat_of_file top netlist)) (λ flat. ◌>>=◌ (at_stage stages.Models (models_of models)) (λ rows. Ok (parts flat rows))) (step_by_file Netlist (flat_of_file top netlist) (flat_file_faults top netlist))
    (λ flat. bind_by_file (at_stage stages.Models (models_of models)) (λ rows. Ok (parts flat rows)) (step_by_file Models (models_of models) (models_faults models)) (λ rows. tt))

-- the refusal of a design is that of the file which its fault names
pub design_refused : (top : Option (List ℕ)) (netlist models : List ℕ) (r : Refused) → design_of top netlist models ≡ Err r → design_of top netlist models ≡ Err (refused_file r.fault)
design_refused top netlist models r e = by (design_of top netlist models) (design_by_file top netlist models) e
  where
    by : (w : Result Parts Refused) → IsByFile w → w ≡ Err r → w ≡ Err (refused_file r.fault)
    by (Ok d) h e = cc
    by (Err x) h e = let same : x ≡ r = cc in e ∙ ap Err (sym same ∙ h ∙ ap (λ y. refused_file y.fault) same)
