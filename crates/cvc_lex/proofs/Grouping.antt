-- Logical lines, one physical line after another.
use Rattle.std.proofs.Common.{◌≡◌, ℕ, ◌+◌, List, [], ◌∷◌, ◌++◌, length, map, Bool, true, false, cond, Option, Some, None, refl, sym, ap, subst, ◌∙◌, arith, inl, inr, add_assoc, add-zero, not}
use Rattle.std.specs.Prelude.{fold, filter, find, flat_map, sum_by, option_map, option_to_list}
use Rattle.std.specs.List.{prefix_len}
use Rattle.std.proofs.lemmas.Bool.{cases_Bool}
use Rattle.std.proofs.lemmas.List.Sums.{sum_by-cons, fold-append}
use Rattle.cvc_lex.proofs.Texts.{one-add}
use Rattle.std.proofs.lemmas.List.{append_assoc, append-nil}
use Rattle.cvc_base.specs.declared.fault.FileKind.{FileKind}
use Rattle.cvc_base.specs.declared.fault.FileKind.TheVariants.{Netlist, Models, Power}
use Rattle.cvc_base.specs.declared.line.Line.{Line}
use Rattle.cvc_lex.specs.declared.scanner.Logical.{Logical}
use Rattle.cvc_lex.specs.declared.shape.Shape.{Shape}
use Rattle.cvc_lex.specs.declared.shape.Shape.TheVariants.{Skipped, Directive, Card, Continuation}
use Rattle.cvc_lex.specs.Bytes.{is_netlist}
use Rattle.cvc_lex.specs.Physical.{Read, read, reads_from}
use Rattle.cvc_lex.specs.Lines.{starts, continues, is_start, is_continuation, Group, own, last_number, logical_line, closing, group, groups, logical, line_of, is_closed, is_open, closed, opened}
use Rattle.cvc_lex.specs.Scanning.{begun, extended, closed_by_start, open_by_start}

-- the closed lines, and the one that is open
pub record Sorted : Type 0 where
  pub lines : List Line
  pub last : Option Logical

abbrev pub add_by : FileKind → Sorted → Read → Shape → Sorted
add_by kind s r Skipped = s
add_by kind s r Directive = record { lines = s.lines ++ closed_by_start kind s.last r; last = open_by_start kind s.last r }
add_by kind s r Card = record { lines = s.lines ++ closed_by_start kind s.last r; last = open_by_start kind s.last r }
add_by kind s r Continuation = record { lines = s.lines; last = option_map (extended r) s.last }

abbrev pub add : FileKind → Sorted → Read → Sorted
add kind s r = add_by kind s r r.shape

abbrev sorted : List Group → Sorted
sorted gs = record { lines = map line_of (filter is_closed gs); last = option_map (λ g. g.whole) (find is_open gs) }

abbrev first_sorted : Sorted
first_sorted = record { lines = []; last = None }

groups-cons : (kind : FileKind) (r : Read) (rs : List Read) → groups kind (r ∷ rs) ≡ cond (is_start r) (group kind r rs ∷ groups kind rs) (groups kind rs)
unfolding groups
groups-cons kind r rs = refl

groups-nil : (kind : FileKind) → groups kind [] ≡ []
unfolding groups
groups-nil kind = refl

-- ## A netlist

-- a line that is open, with the physical lines after it
abbrev goes_on : Logical → List Read → Logical
goes_on l cs = record {
  line = record { tokens = l.line.tokens ++ flat_map (λ c. c.tokens) cs; first = l.line.first; last = last_number l.line.last cs; directive = l.line.directive };
  size = l.size + sum_by (λ c. c.size) cs;
}

abbrev from_open : Logical → List Read → List Group
from_open l rs = record { whole = goes_on l (own Netlist rs); closes = option_map (λ s. s.number) (find is_start rs) } ∷ groups Netlist rs

goes_on-nil : (l : Logical) → goes_on l [] ≡ l
goes_on-nil l = rw (append-nil l.line.tokens, add-zero l.size) refl

goes_on-cons : (l : Logical) (r : Read) (cs : List Read) → goes_on l (r ∷ cs) ≡ goes_on (extended r l) cs
goes_on-cons l r cs = rw (← append_assoc l.line.tokens r.tokens (flat_map (λ c. c.tokens) cs), sum_by-cons (λ (c : Read). c.size) r cs, ← add_assoc l.size r.size (sum_by (λ c. c.size) cs)) refl

own-start : (r : Read) (rs : List Read) → is_start r ≡ true → own Netlist (r ∷ rs) ≡ []
own-start r rs e = rw e refl

own-other : (r : Read) (rs : List Read) → is_start r ≡ false → own Netlist (r ∷ rs) ≡ cond (is_continuation r) (r ∷ own Netlist rs) (own Netlist rs)
own-other r rs e = rw (e, one-add (prefix_len (λ (s : Read). not (is_start s)) rs)) refl

module _ (r : Read) (rs : List Read) (l : Logical) where
  open-start : is_start r ≡ true → from_open l (r ∷ rs) ≡ record { whole = l; closes = Some r.number } ∷ from_open (begun r) rs
  open-start e = rw (own-start r rs e, goes_on-nil l, groups-cons Netlist r rs, e) refl

  open-skipped : is_start r ≡ false → is_continuation r ≡ false → from_open l (r ∷ rs) ≡ from_open l rs
  open-skipped e f = rw (own-other r rs e, groups-cons Netlist r rs, e, f) refl

  open-continued : is_start r ≡ false → is_continuation r ≡ true → from_open l (r ∷ rs) ≡ from_open (extended r l) rs
  open-continued e f = rw (own-other r rs e, groups-cons Netlist r rs, e, f, goes_on-cons l r (own Netlist rs)) refl

abbrev behind : List Line → Sorted → Sorted
behind before s = record { lines = before ++ s.lines; last = s.last }

behind-behind : (xs ys : List Line) (s : Sorted) → behind (xs ++ ys) s ≡ behind xs (behind ys s)
behind-behind xs ys s = ap (λ (zs : List Line). record { lines = zs; last = s.last }) (append_assoc xs ys s.lines)

abbrev going : List Line → Logical → Sorted
going before l = record { lines = before; last = Some l }

abbrev Runs : List Read → Type 0
Runs rs = (before : List Line) (l : Logical) → fold (add Netlist) (going before l) rs ≡ behind before (sorted (from_open l rs))

-- a step of the fold, where the shape is known
shape_step : (kind : FileKind) (s : Sorted) (r : Read) (rs : List Read) (shape : Shape) → r.shape ≡ shape → fold (add kind) s (r ∷ rs) ≡ fold (add kind) (add_by kind s r shape) rs
shape_step kind s r rs shape e = ap (λ (x : Shape). fold (add kind) (add_by kind s r x) rs) e

run_step : (r : Read) (rs : List Read) → Runs rs → (before : List Line) (l : Logical) (s : Shape) → r.shape ≡ s → fold (add Netlist) (going before l) (r ∷ rs) ≡ behind before (sorted (from_open l (r ∷ rs)))
run_step r rs ih before l Skipped e = shape_step Netlist (going before l) r rs Skipped e ∙ ih before l ∙ ap (λ (gs : List Group). behind before (sorted gs)) (sym (open-skipped r rs l (ap starts e) (ap continues e)))
run_step r rs ih before l Directive e = shape_step Netlist (going before l) r rs Directive e ∙ ih (before ++ l.line ∷ []) (begun r) ∙ behind-behind before (l.line ∷ []) (sorted (from_open (begun r) rs)) ∙ ap (λ (gs : List Group). behind before (sorted gs)) (sym (open-start r rs l (ap starts e)))
run_step r rs ih before l Card e = shape_step Netlist (going before l) r rs Card e ∙ ih (before ++ l.line ∷ []) (begun r) ∙ behind-behind before (l.line ∷ []) (sorted (from_open (begun r) rs)) ∙ ap (λ (gs : List Group). behind before (sorted gs)) (sym (open-start r rs l (ap starts e)))
run_step r rs ih before l Continuation e = shape_step Netlist (going before l) r rs Continuation e ∙ ih before (extended r l) ∙ ap (λ (gs : List Group). behind before (sorted gs)) (sym (open-continued r rs l (ap starts e) (ap continues e)))

run : (rs : List Read) → Runs rs
run [] before l = rw (goes_on-nil l, groups-nil Netlist, append-nil before) refl
run (r ∷ rs) before l = run_step r rs (run rs) before l r.shape refl

groups-start : (kind : FileKind) (r : Read) (rs : List Read) → is_start r ≡ true → groups kind (r ∷ rs) ≡ group kind r rs ∷ groups kind rs
groups-start kind r rs e = groups-cons kind r rs ∙ rw e refl

groups-other : (kind : FileKind) (r : Read) (rs : List Read) → is_start r ≡ false → groups kind (r ∷ rs) ≡ groups kind rs
groups-other kind r rs e = groups-cons kind r rs ∙ rw e refl

abbrev IsSortedRun : FileKind → List Read → Type 0
IsSortedRun kind rs = fold (add kind) first_sorted rs ≡ sorted (groups kind rs)

cards_step : (r : Read) (rs : List Read) → IsSortedRun Netlist rs → (s : Shape) → r.shape ≡ s → IsSortedRun Netlist (r ∷ rs)
cards_step r rs ih Skipped e = shape_step Netlist first_sorted r rs Skipped e ∙ ih ∙ ap sorted (sym (groups-other Netlist r rs (ap starts e)))
cards_step r rs ih Directive e = shape_step Netlist first_sorted r rs Directive e ∙ run rs [] (begun r) ∙ ap sorted (sym (groups-start Netlist r rs (ap starts e)))
cards_step r rs ih Card e = shape_step Netlist first_sorted r rs Card e ∙ run rs [] (begun r) ∙ ap sorted (sym (groups-start Netlist r rs (ap starts e)))
cards_step r rs ih Continuation e = shape_step Netlist first_sorted r rs Continuation e ∙ ih ∙ ap sorted (sym (groups-other Netlist r rs (ap starts e)))

cards : (rs : List Read) → IsSortedRun Netlist rs
cards [] = rw (groups-nil Netlist) refl
cards (r ∷ rs) = cards_step r rs (cards rs) r.shape refl

-- ## Rows

module _ (kind : FileKind) (rows : is_netlist kind ≡ false) where
  abbrev waiting : List Line → Sorted
  waiting before = record { lines = before; last = None }

  abbrev RowRuns : List Read → Type 0
  RowRuns rs = (before : List Line) → fold (add kind) (waiting before) rs ≡ behind before (sorted (groups kind rs))

  group-row : (r : Read) (rs : List Read) → group kind r rs ≡ record { whole = begun r; closes = Some r.number }
  group-row r rs = rw (rows, append-nil r.tokens, add-zero r.size) refl

  abbrev put : List Line → List Group → Sorted
  put before gs = behind before (sorted gs)

  row_started : (r : Read) (rs : List Read) → RowRuns rs → (before : List Line) → is_start r ≡ true → fold (add kind) (waiting (before ++ (begun r).line ∷ [])) rs ≡ put before (groups kind (r ∷ rs))
  row_started r rs ih before e = ih (before ++ (begun r).line ∷ []) ∙ behind-behind before ((begun r).line ∷ []) (sorted (groups kind rs))
      ∙ ap (put before) (sym (groups-start kind r rs e ∙ ap (λ (g : Group). g ∷ groups kind rs) (group-row r rs)))

  row_add : (before : List Line) (r : Read) → record { lines = before ++ closed_by_start kind None r; last = open_by_start kind None r } ≡ waiting (before ++ (begun r).line ∷ [])
  row_add before r = rw rows refl

  row_step : (r : Read) (rs : List Read) → RowRuns rs → (before : List Line) (s : Shape) → r.shape ≡ s → fold (add kind) (waiting before) (r ∷ rs) ≡ put before (groups kind (r ∷ rs))
  row_step r rs ih before Skipped e = shape_step kind (waiting before) r rs Skipped e ∙ ih before ∙ ap (put before) (sym (groups-other kind r rs (ap starts e)))
  row_step r rs ih before Directive e = shape_step kind (waiting before) r rs Directive e ∙ ap (λ (s : Sorted). fold (add kind) s rs) (row_add before r) ∙ row_started r rs ih before (ap starts e)
  row_step r rs ih before Card e = shape_step kind (waiting before) r rs Card e ∙ ap (λ (s : Sorted). fold (add kind) s rs) (row_add before r) ∙ row_started r rs ih before (ap starts e)
  row_step r rs ih before Continuation e = shape_step kind (waiting before) r rs Continuation e ∙ ih before ∙ ap (put before) (sym (groups-other kind r rs (ap starts e)))

  row_run : (rs : List Read) → RowRuns rs
  row_run [] before = rw (groups-nil kind, append-nil before) refl
  row_run (r ∷ rs) before = row_step r rs (row_run rs) before r.shape refl

in_order : (kind : FileKind) (rs : List Read) → IsSortedRun kind rs
in_order Netlist rs = cards rs
in_order Models rs = row_run Models refl rs []
in_order Power rs = row_run Power refl rs []

-- ## All logical lines

abbrev all_of : Sorted → List Line
all_of s = s.lines ++ option_to_list (option_map (λ l. l.line) s.last)

no_start : (kind : FileKind) (rs : List Read) → find is_start rs ≡ None → groups kind rs ≡ []
no_start kind [] e = groups-nil kind
no_start kind (r ∷ rs) e = elim (cases_Bool (is_start r)) [
  | inl h ↦ let none : Some r ≡ None = rw h at e in absurd cc
  | inr h ↦ groups-other kind r rs h ∙ no_start kind rs (rw h at e)
]

abbrev IsAll : List Group → Type 0
IsAll gs = map line_of gs ≡ all_of (sorted gs)

all_closed : (w : Logical) (n : ℕ) (gs : List Group) → IsAll gs → IsAll (record { whole = w; closes = Some n } ∷ gs)
all_closed w n gs h = ap (λ (ls : List Line). w.line ∷ ls) h

all_after : (kind : FileKind) (r : Read) (rs : List Read) → IsAll (groups kind rs) → (next : Option Read) → find is_start rs ≡ next → (netlist : Bool) → is_netlist kind ≡ netlist → IsAll (group kind r rs ∷ groups kind rs)
all_after kind r rs ih next f false e =
    let P : Option ℕ → Type 0 = λ o. IsAll (record { whole = logical_line r (own kind rs); closes = o } ∷ groups kind rs) in
    let closes : closing kind r rs ≡ Some r.number = rw e refl in
    subst P (sym closes) (all_closed (logical_line r (own kind rs)) r.number (groups kind rs) ih)
all_after kind r rs ih None f true e =
    let P : Option ℕ → Type 0 = λ o. IsAll (record { whole = logical_line r (own kind rs); closes = o } ∷ groups kind rs) in
    let closes : closing kind r rs ≡ None = rw (e, f) refl in
    subst P (sym closes) (rw (no_start kind rs f) refl)
all_after kind r rs ih (Some s) f true e =
    let P : Option ℕ → Type 0 = λ o. IsAll (record { whole = logical_line r (own kind rs); closes = o } ∷ groups kind rs) in
    let closes : closing kind r rs ≡ Some s.number = rw (e, f) refl in
    subst P (sym closes) (all_closed (logical_line r (own kind rs)) s.number (groups kind rs) ih)

all_groups : (kind : FileKind) (rs : List Read) → IsAll (groups kind rs)
all_groups kind [] = rw (groups-nil kind) refl
all_groups kind (r ∷ rs) = elim (cases_Bool (is_start r)) [
  | inl h ↦ rw (groups-start kind r rs h) (all_after kind r rs (all_groups kind rs) (find is_start rs) refl (is_netlist kind) refl)
  | inr h ↦ rw (groups-other kind r rs h) (all_groups kind rs)
]

-- ## By physical lines

pub reads_from-append : (kind : FileKind) (n : ℕ) (xs ys : List (List ℕ)) → reads_from kind n (xs ++ ys) ≡ reads_from kind n xs ++ reads_from kind (n + length xs) ys
reads_from-append kind n [] ys = rw (add-zero n) refl
reads_from-append kind n (x ∷ xs) ys = rw (reads_from-append kind (n + 1) xs ys) (ap (λ (m : ℕ). read kind n x ∷ (reads_from kind (n + 1) xs ++ reads_from kind m ys)) (omega arith))

sorted_lines-is : (kind : FileKind) (ls : List (List ℕ)) → record { lines = closed kind ls; last = opened kind ls } ≡ fold (add kind) first_sorted (reads_from kind 1 ls)
unfolding logical
sorted_lines-is kind ls = sym (in_order kind (reads_from kind 1 ls))

one_more : (kind : FileKind) (ls : List (List ℕ)) (line : List ℕ) → record { lines = closed kind (ls ++ line ∷ []); last = opened kind (ls ++ line ∷ []) } ≡ add kind (record { lines = closed kind ls; last = opened kind ls }) (read kind (length ls + 1) line)
one_more kind ls line =
    sorted_lines-is kind (ls ++ line ∷ []) ∙ rw (reads_from-append kind 1 ls (line ∷ []), fold-append (add kind) first_sorted (reads_from kind 1 ls) (reads_from kind (1 + length ls) (line ∷ [])), ← sorted_lines-is kind ls)
    (ap (λ (n : ℕ). add kind (record { lines = closed kind ls; last = opened kind ls }) (read kind n line)) (omega arith))

pub closed-more : (kind : FileKind) (ls : List (List ℕ)) (line : List ℕ) → closed kind (ls ++ line ∷ []) ≡ (add kind (record { lines = closed kind ls; last = opened kind ls }) (read kind (length ls + 1) line)).lines
closed-more kind ls line = ap (λ (s : Sorted). s.lines) (one_more kind ls line)

pub opened-more : (kind : FileKind) (ls : List (List ℕ)) (line : List ℕ) → opened kind (ls ++ line ∷ []) ≡ (add kind (record { lines = closed kind ls; last = opened kind ls }) (read kind (length ls + 1) line)).last
opened-more kind ls line = ap (λ (s : Sorted). s.last) (one_more kind ls line)

-- closed lines stay closed
added_lines : (kind : FileKind) (s : Sorted) (r : Read) (shape : Shape) → (more : List Line) × ((add_by kind s r shape).lines ≡ s.lines ++ more)
added_lines kind s r Skipped = ([], sym (append-nil s.lines))
added_lines kind s r Directive = (closed_by_start kind s.last r, refl)
added_lines kind s r Card = (closed_by_start kind s.last r, refl)
added_lines kind s r Continuation = ([], sym (append-nil s.lines))

added_all : (kind : FileKind) (rs : List Read) (s : Sorted) → (more : List Line) × ((fold (add kind) s rs).lines ≡ s.lines ++ more)
added_all kind [] s = ([], sym (append-nil s.lines))
added_all kind (r ∷ rs) s =
    let one = added_lines kind s r r.shape in
    let rest = added_all kind rs (add kind s r) in
    (one.0 ++ rest.0, rest.1 ∙ rw one.1 (append_assoc s.lines one.0 rest.0))

pub closed_stay : (kind : FileKind) (ls ms : List (List ℕ)) → (more : List Line) × (closed kind (ls ++ ms) ≡ closed kind ls ++ more)
closed_stay kind ls ms =
    let start : Sorted = fold (add kind) first_sorted (reads_from kind 1 ls) in
    let rest : List Read = reads_from kind (1 + length ls) ms in
    let all = added_all kind rest start in
    let whole : fold (add kind) first_sorted (reads_from kind 1 (ls ++ ms)) ≡ fold (add kind) start rest =
    rw (reads_from-append kind 1 ls ms) (fold-append (add kind) first_sorted (reads_from kind 1 ls) rest) in
    (all.0, ap (λ (s : Sorted). s.lines) (sorted_lines-is kind (ls ++ ms) ∙ whole) ∙ all.1 ∙ ap (λ (s : Sorted). s.lines ++ all.0) (sym (sorted_lines-is kind ls)))

pub all_lines : (kind : FileKind) (ls : List (List ℕ)) → map line_of (logical kind ls) ≡ closed kind ls ++ option_to_list (option_map (λ l. l.line) (opened kind ls))
unfolding logical
all_lines kind ls = all_groups kind (reads_from kind 1 ls)

pub closed-nil : (kind : FileKind) → closed kind [] ≡ []
unfolding logical groups
closed-nil kind = refl

pub opened-nil : (kind : FileKind) → opened kind [] ≡ None
unfolding logical groups
opened-nil kind = refl
