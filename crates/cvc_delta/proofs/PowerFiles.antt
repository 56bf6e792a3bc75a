-- No two rows of a power file have one name.
use Rattle.std.proofs.Common.{◌≡◌, ℕ, Bool, ◌||◌, true, false, List, [], ◌∷◌, ◌++◌, Result, Ok, Err, refl, sym, ap, subst, ◌∙◌}
use Rattle.std.specs.Prelude.{Option, Some, None, if◌then◌else◌}
use Rattle.cvc_base.specs.declared.cause.Cause.{Cause}
use Rattle.cvc_base.specs.declared.cause.Cause.TheVariants.{TwiceRow}
use Rattle.cvc_base.specs.declared.fault.Fault.{Fault}
use Rattle.cvc_base.specs.declared.fault.FileKind.TheVariants.{Power}
use Rattle.cvc_base.specs.declared.line.Line.{Line}
use Rattle.cvc_base.specs.Order.{◌>>=◌}
use Rattle.cvc_lex.specs.Lines.{lexical, closed_at_end}
use Rattle.cvc_names.specs.Names.{has_twice, is_among}
use Rattle.cvc_names.proofs.Repeats.{has_twice-push}
use Rattle.std.proofs.lemmas.List.{map-append}
use Rattle.cvc_power.specs.declared.row.PowerRow.{PowerRow}
use Rattle.cvc_power.specs.Power.{name_of, power_of, row_of, unless_twice, verdict}
use Rattle.cvc_rows.specs.declared.refused.LineFault.{LineFault}
use Rattle.cvc_rows.specs.Rows.{as_written, at_line, on_file, rows_behind, rows_of, unless_lexical}
use Rattle.cvc_delta.specs.Edits.{AreApart, names_of}

-- a row that is taken has a new name
new_name : (rows : List PowerRow) (line : Line) (row : PowerRow) → verdict rows line ≡ Ok row → is_among (names_of rows) row.name ≡ false
new_name rows line row taken = by (row_of line) taken
  where
    by : (r : Result PowerRow Cause) → ◌>>=◌ r (unless_twice rows) ≡ Ok row → is_among (names_of rows) row.name ≡ false
    by (Err cause) e = cc
    by (Ok own) e = once (is_among (names_of rows) own.name) refl e
      where
        once : (b : Bool) → is_among (names_of rows) own.name ≡ b → (if b then Err TwiceRow else Ok own) ≡ Ok row → is_among (names_of rows) row.name ≡ false
        once true among e' = cc
        once false among e' = let same : own ≡ row = cc in ap (λ (r : PowerRow). is_among (names_of rows) r.name) (sym same) ∙ among

one_more : (rows : List PowerRow) (row : PowerRow) → AreApart rows → is_among (names_of rows) row.name ≡ false → AreApart (rows ++ row ∷ [])
one_more rows row apart new = ap has_twice (map-append name_of rows (row ∷ [])) ∙ has_twice-push (names_of rows) row.name ∙ (λ i. apart i || new i)

by_verdict : (rows : List PowerRow) (line : Line) (lines : List Line) (all : List PowerRow) → AreApart rows
    → ((row : PowerRow) → AreApart (rows ++ row ∷ []) → rows_behind verdict (rows ++ row ∷ []) lines ≡ Ok all → AreApart all)
    → (r : Result PowerRow Cause) → verdict rows line ≡ r → ◌>>=◌ (at_line line.first r) (λ row. rows_behind verdict (rows ++ row ∷ []) lines) ≡ Ok all → AreApart all
by_verdict rows line lines all apart later (Err cause) is e = cc
by_verdict rows line lines all apart later (Ok row) is e = later row (one_more rows row apart (new_name rows line row is)) e

apart_behind : (rows : List PowerRow) (lines : List Line) (all : List PowerRow) → AreApart rows → rows_behind verdict rows lines ≡ Ok all → AreApart all
unfolding rows_behind
apart_behind rows [] all apart e = let same : rows ≡ all = cc in subst AreApart same apart
apart_behind rows (line ∷ lines) all apart e = by_verdict rows line lines all apart (λ row one. apart_behind (rows ++ row ∷ []) lines all one) (verdict rows line) refl e

pub power_is_apart : (bytes : List ℕ) (rows : List PowerRow) → power_of bytes ≡ Ok rows → AreApart rows
unfolding rows_of
power_is_apart bytes rows e = by (rows_behind verdict [] (closed_at_end Power bytes)) refl (lexical Power bytes) e
  where
    by : (r : Result (List PowerRow) (LineFault Cause)) → rows_behind verdict [] (closed_at_end Power bytes) ≡ r → (o : Option Fault) → on_file Power (◌>>=◌ r (unless_lexical as_written o)) ≡ Ok rows → AreApart rows
    by (Err x) is o e' = cc
    by (Ok all) is (Some x) e' = cc
    by (Ok all) is None e' = let same : all ≡ rows = cc in subst AreApart same (apart_behind [] (closed_at_end Power bytes) all refl is)
