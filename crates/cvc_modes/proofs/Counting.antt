-- A list has at most sixteen rows.
use Rattle.std.proofs.Common.{◌≡◌, ℕ, ◌+◌, ◌≤◌, ◌<◌, Bool, true, false, nat_lt, List, [], ◌∷◌, ◌++◌, length, map, Option, Some, None, Result, Ok, Err, if◌then◌else◌, refl, sym, subst, arith, length-append}
use Rattle.std.proofs.lemmas.Bool.{ltb-true}
use Rattle.cvc_base.specs.declared.fault.Fault.{Fault}
use Rattle.cvc_base.specs.declared.line.Line.{Line}
use Rattle.cvc_base.specs.Order.{◌>>=◌}
use Rattle.cvc_lex.specs.Lines.{lexical, closed_at_end}
use Rattle.cvc_base.specs.declared.fault.FileKind.TheVariants.{Power}
use Rattle.cvc_names.specs.Names.{is_among}
use Rattle.cvc_rows.specs.declared.refused.LineFault.{LineFault}
use Rattle.std.specs.Prelude.{IfOk}
use Rattle.cvc_rows.specs.Refusing.{Answers}
use Rattle.cvc_rows.specs.declared.refused.Refused.{Refused}
use Rattle.cvc_rows.specs.declared.refused.Refused.TheVariants.{At, NoMemory}
use Rattle.cvc_rows.specs.Rows.{rows_behind, rows_of, at_line, unless_lexical}
use Rattle.cvc_modes.specs.declared.fault.ListCause.{ListCause}
use Rattle.cvc_modes.specs.declared.fault.ListCause.TheVariants.{Text, TooMany}
use Rattle.cvc_base.specs.declared.cause.Cause.TheVariants.{TwiceRow}
use Rattle.cvc_modes.specs.declared.row.ModeRow.{ModeRow}
use Rattle.cvc_modes.specs.Modes.{most_modes, modes_of, name_of, row_of, verdict, unless_twice, unless_full, told}

-- there is room where a line has a row
module _ (rows : List ModeRow) (row : ModeRow) where
  by_room : (room : Bool) → nat_lt (length rows) most_modes ≡ room → (new : ModeRow) → (if room then Ok new else Err TooMany) ≡ Ok row → length rows < most_modes
  by_room true e new is = ltb-true (length rows) most_modes e
  by_room false e new is = absurd (let bad : Err TooMany ≡ Ok row = is in cc)

  by_name : (twice : Bool) (new : ModeRow) → ◌>>=◌ (if twice then Err (Text TwiceRow) else Ok new) (unless_full rows) ≡ Ok row → length rows < most_modes
  by_name true new is = absurd (let bad : Err (Text TwiceRow) ≡ Ok row = is in cc)
  by_name false new is = by_room (nat_lt (length rows) most_modes) refl new is

  by_row : (r : Result ModeRow ListCause) → ◌>>=◌ r (λ new. ◌>>=◌ (unless_twice rows new) (unless_full rows)) ≡ Ok row → length rows < most_modes
  by_row (Err cause) is = absurd (let bad : Err cause ≡ Ok row = is in cc)
  by_row (Ok new) is = by_name (is_among (map name_of rows) new.name) new is

few_behind : (rows : List ModeRow) (lines : List Line) (all : List ModeRow) → length rows ≤ most_modes → rows_behind verdict rows lines ≡ Ok all → length all ≤ most_modes
unfolding rows_behind
few_behind rows [] all few is = let same : rows ≡ all = cc in subst (λ (l : List ModeRow). length l ≤ most_modes) same few
few_behind rows (line ∷ lines) all few is =
    by (verdict rows line) refl is (λ row room. few_behind (rows ++ row ∷ []) lines all (let count = length-append rows (row ∷ []) in omega (arith, room, count)))
  where
    by : (r : Result ModeRow ListCause) → verdict rows line ≡ r → ◌>>=◌ (at_line line.first r) (λ row. rows_behind verdict (rows ++ row ∷ []) lines) ≡ Ok all
        → ((row : ModeRow) → length rows < most_modes → rows_behind verdict (rows ++ row ∷ []) lines ≡ Ok all → length all ≤ most_modes) → length all ≤ most_modes
    by (Err cause) e later next = absurd (let bad : Err (record { line = line.first; cause = cause }) ≡ Ok all = later in cc)
    by (Ok row) e later next = next row (by_row rows row (row_of line) e) later

pub few_rows : (bytes : List ℕ) (all : List ModeRow) → modes_of bytes ≡ Ok all → length all ≤ most_modes
unfolding rows_of
few_rows bytes all is = by (rows_behind verdict [] (closed_at_end Power bytes)) (lexical Power bytes) refl is
  where
    by : (r : Result (List ModeRow) (LineFault ListCause)) (fault : Option Fault) → rows_behind verdict [] (closed_at_end Power bytes) ≡ r → ◌>>=◌ r (unless_lexical told fault) ≡ Ok all → length all ≤ most_modes
    by (Err refused) fault e later = absurd (let bad : Err refused ≡ Ok all = later in cc)
    by (Ok rows) None e later =
        let same : rows ≡ all = let whole : Ok rows ≡ Ok all = later in cc in
        few_behind [] (closed_at_end Power bytes) all (omega arith) (subst (λ (l : List ModeRow). rows_behind verdict [] (closed_at_end Power bytes) ≡ Ok l) same e)
    by (Ok rows) (Some fault) e later = absurd (let bad : Err (record { line = fault.place.line; cause = told fault.cause }) ≡ Ok all = later in cc)

-- the same of what was read
pub few_read : (bytes : List ℕ) (r : Result (List ModeRow) (Refused (LineFault ListCause))) → Answers r (modes_of bytes) → IfOk r (λ all. length all ≤ most_modes)
few_read bytes (Ok all) is = few_rows bytes all is
few_read bytes (Err (At fault)) is = tt
few_read bytes (Err NoMemory) is = tt
