-- The names of rows that are edited.
use Rattle.std.proofs.Common.{◌≡◌, ℕ, suc, ◌+◌, ◌<◌, ◌||◌, ◌&&◌, not, Bool, true, false, List, [], ◌∷◌, ◌++◌, length, map, take, get_or, Option, Some, None, Result, Ok, Err, refl, sym, ap, ◌∙◌}
use Rattle.std.specs.Prelude.{ℤ, if◌then◌else◌}
use Rattle.std.specs.List.{filter, list_any}
use Rattle.std.specs.Str.{bytes_eq}
use Rattle.std.specs.Cmp.Lexicographic.{bytes_decides, nat_list_eq_equiv}
use Rattle.std.proofs.Math.Seq.{map-set_same}
use Rattle.std.proofs.lemmas.List.{get_or-map, map_more, map-append}
use Rattle.std.proofs.lemmas.List.Folds.{list_any-append}
use Rattle.std.proofs.lemmas.List.Quantifiers.{position-Some}
use Rattle.std.proofs.lemmas.Map.Views.{any-filter_same}
use Rattle.std.proofs.lemmas.List.{length-map}
use Rattle.cvc_names.specs.Names.{is_among, name_at, place_of, with_name}
use Rattle.cvc_names.proofs.Tables.{any_map, name_at_place, names_kept, names_more}
use Rattle.cvc_power.specs.declared.row.PowerRow.{PowerRow}
use Rattle.cvc_power.specs.Power.{name_of, row_with}
use Rattle.cvc_delta.specs.declared.edit.Edit.{Edit}
use Rattle.cvc_delta.specs.declared.edit.Edit.TheVariants.{Set, Unset}
use Rattle.cvc_delta.specs.declared.fault.EditsCause.{EditsCause}
use Rattle.cvc_delta.specs.declared.fault.EditsCause.TheVariants.{NotThere}
use Rattle.cvc_delta.specs.declared.left.NameSet.{NameSet}
use Rattle.cvc_delta.specs.Edits.{after, after_all, has_other_name, has_row, names_of, numbered, numbered_from, set_at, set_row, unset_row}
use Rattle.cvc_delta.specs.Left.{has_name}
use Rattle.cvc_delta.specs.Reading.{AreLeft, if_there}

-- ## Names behind an edit

pub name_in_place : (rows : List PowerRow) (name : List ℕ) (k : ℕ) (d : PowerRow) → place_of (names_of rows) name ≡ Some k → name ≡ name_of (get_or rows k d)
name_in_place rows name k d is =
    let inside : k < length rows = below (position-Some (bytes_eq name) (names_of rows) k [] is).0 in
    sym (name_at_place (names_of rows) name k is) ∙ get_or-map name_of rows k d [] inside
  where
    below : k < length (names_of rows) → k < length rows
    below h = rw (sym (length-map rows name_of)) h

pub names_set : (rows : List PowerRow) (name : List ℕ) (low high : ℤ) → names_of (set_row rows name low high) ≡ with_name (names_of rows) name
names_set rows name low high = by (place_of (names_of rows) name) refl
  where
    by : (o : Option ℕ) → place_of (names_of rows) name ≡ o → names_of (set_at rows name low high o) ≡ with_name (names_of rows) name
    by (Some k) is =
        let new : PowerRow = row_with (k + 1) name (record { low = low; high = high }) in
        map-set_same name_of rows k new new (name_in_place rows name k new is) ∙ names_kept (names_of rows) name k is
    by None is = map-append name_of rows (row_with (length rows + 1) name (record { low = low; high = high }) ∷ []) ∙ names_more (names_of rows) name is

pub names_numbered : (line : ℕ) (rows : List PowerRow) → names_of (numbered_from line rows) ≡ names_of rows
unfolding numbered_from
names_numbered line [] = refl
names_numbered line (row ∷ rows) = ap (λ names. row.name ∷ names) (names_numbered (suc line) rows)

-- ## Whether a name is there

one_last : (a b : Bool) → (a || (b || false)) ≡ (b || a)
one_last true true = refl
one_last true false = refl
one_last false true = refl
one_last false false = refl

pub among_more : (names : List (List ℕ)) (name other : List ℕ) → is_among (names ++ name ∷ []) other ≡ (bytes_eq other name || is_among names other)
among_more names name other = list_any-append (bytes_eq other) names (name ∷ []) ∙ one_last (is_among names other) (bytes_eq other name)

among_with : (names : List (List ℕ)) (name other : List ℕ) → is_among (with_name names name) other ≡ (bytes_eq other name || is_among names other)
among_with names name other = by (is_among names name) refl
  where
    by : (b : Bool) → is_among names name ≡ b → is_among (if b then names else names ++ name ∷ []) other ≡ (bytes_eq other name || is_among names other)
    by false e = among_more names name other
    by true e = also (bytes_eq other name) refl
      where
        also : (b : Bool) → bytes_eq other name ≡ b → is_among names other ≡ (b || is_among names other)
        also false i = refl
        also true i = ap (is_among names) ((bytes_decides other name).0 i) ∙ e

has_set : (rows : List PowerRow) (name : List ℕ) (low high : ℤ) (other : List ℕ) → has_row (set_row rows name low high) other ≡ (bytes_eq other name || has_row rows other)
has_set rows name low high other = ap (λ names. is_among names other) (names_set rows name low high) ∙ among_with (names_of rows) name other

has_unset : (rows : List PowerRow) (name other : List ℕ) → has_row (unset_row rows name) other ≡ (not (bytes_eq other name) && has_row rows other)
has_unset rows name other =
    ap (λ names. is_among names other) (names_numbered 1 (filter (has_other_name name) rows))
    ∙ any_map (bytes_eq other) name_of (filter (has_other_name name) rows)
    ∙ any-filter_same (λ (row : PowerRow). bytes_eq other row.name) (has_other_name name) (not (bytes_eq other name)) one rows
    ∙ ap (λ b. not (bytes_eq other name) && b) (sym (any_map (bytes_eq other) name_of rows))
  where
    one : (row : PowerRow) → bytes_eq other row.name ≡ true → has_other_name name row ≡ not (bytes_eq other name)
    one row is = ap (λ text. not (bytes_eq name text)) (sym ((bytes_decides other row.name).0 is)) ∙ ap not (nat_list_eq_equiv.symm name other)

-- ## A set of names that goes with the rows

module _ (names next : NameSet) (rows : List PowerRow) (left : AreLeft names rows) (edit : Edit) (name text : List ℕ) (same : text ≡ name) where
  pub set_left : (low high : ℤ) → edit ≡ Set name low high → ((other : List ℕ) → has_name next other ≡ (bytes_eq other text || has_name names other)) → AreLeft next (after rows edit)
  set_left low high is put other =
      put other ∙ (λ i. bytes_eq other (same i) || left other i) ∙ sym (has_set rows name low high other) ∙ ap (λ e. has_row (after rows e) other) (sym is)

  module _ (is : edit ≡ Unset name) where
    pub unset_left : ((other : List ℕ) → has_name next other ≡ (not (bytes_eq other text) && has_name names other)) → AreLeft next (after rows edit)
    unset_left taken other =
        taken other ∙ (λ i. not (bytes_eq other (same i)) && left other i) ∙ sym (has_unset rows name other) ∙ ap (λ e. has_row (after rows e) other) (sym is)

    pub unset_verdict : (was : Bool) → was ≡ has_name names text → (b : Bool) → was ≡ b → if_there rows edit ≡ (if b then Ok tt else Err NotThere)
    unset_verdict was told b e =
        ap (if_there rows) is ∙ ap (λ (t : Bool). if t then Ok tt else Err NotThere) (sym (left name) ∙ ap (has_name names) (sym same) ∙ sym told ∙ e)

pub after_all_push : (rows : List PowerRow) (edits : List Edit) (edit : Edit) → after_all rows (edits ++ edit ∷ []) ≡ after (after_all rows edits) edit
unfolding after_all
after_all_push rows [] edit = refl
after_all_push rows (first ∷ edits) edit = after_all_push (after rows first) edits edit

-- the names of one row more
pub one_row_more : (rows : List PowerRow) (i : ℕ) (row d : PowerRow) → i < length rows → row ≡ get_or rows i d → (text other : List ℕ) → text ≡ row.name
    → is_among (names_of (take (i + 1) rows)) other ≡ (bytes_eq other text || is_among (names_of (take i rows)) other)
one_row_more rows i row d below at text other same =
    ap (λ names. is_among names other) (map_more name_of rows i d below ∙ ap (λ (r : PowerRow). names_of (take i rows) ++ r.name ∷ []) (sym at) ∙ ap (λ t. names_of (take i rows) ++ t ∷ []) (sym same))
    ∙ among_more (names_of (take i rows)) text other
