-- How the counts of a shelf in memory move: at a failure, and where a file is added.
use Rattle.std.proofs.Common.{◌≡◌, ℕ, ◌<◌, List, [], ◌∷◌, ◌++◌, map, length, Option, Some, None, Bool, true, false, cond, not, ◌&&◌, refl, sym, ap, subst, ◌∙◌, inl, inr, arith}
use Rattle.std.specs.Prelude.{slice_index, slice_set, is_some, IfSome, Vec}
use Rattle.std.specs.Option.{ForSome, option_map}
use Rattle.std.specs.Str.{bytes_eq}
use Rattle.std.proofs.lemmas.Slice.Eq.{bytes_eq-Decides}
use Rattle.std.proofs.lemmas.Bool.{cases_eq}
use Rattle.std.proofs.lemmas.List.{get_or-set_same, get_or-set_other, get_or_append_left, get_or_push, length-set, with_items_is}
use Rattle.std.specs.Vec.{with_items}
use Rattle.std.specs.declared.alloc.Global.{Global}
use Rattle.cvc_io.specs.Causes.{bump}
use Rattle.cvc_io.specs.MemFiles.{file_of, file_at, place_of, count_at, standing_at, IsOpenFile}
use Rattle.cvc_io.specs.Memory.{is_held, count_after, count_added}
use Rattle.cvc_io.specs.declared.held.MemFile.{MemFile}
use Rattle.cvc_io.specs.declared.held.OpenFile.{OpenFile}
use Rattle.cvc_io.proofs.Places.{missing, found, place_of-push}

not_true : (b : Bool) → (b ≡ true → ⊥) → b ≡ false
not_true true h = absurd (h refl)
not_true false h = refl

-- a name is held where it has a place
pub held_at : (files : List MemFile) (name : List ℕ) (o : Option ℕ) → place_of files name ≡ o → is_held (map file_of files) name ≡ is_some o
held_at files name None e = ap is_some (missing files name e)
held_at files name (Some k) e = ap is_some ((found files name k e).bytes)

-- two names at one place are one
same_name : (files : List MemFile) (m n : List ℕ) (k : ℕ) → place_of files m ≡ Some k → place_of files n ≡ Some k → bytes_eq m n ≡ true
same_name files m n k e f = (bytes_eq-Decides m n).1 (sym (found files m k e).named ∙ (found files n k f).named)

places_apart : (files : List MemFile) (m n : List ℕ) (o p : Option ℕ) → place_of files m ≡ o → place_of files n ≡ p → (o ≡ p → ⊥) → bytes_eq m n ≡ false
places_apart files m n o p e f apart =
    not_true (bytes_eq m n) (λ same. apart (sym e ∙ ap (place_of files) ((bytes_eq-Decides m n).0 same) ∙ f))

-- ## A failure

abbrev counts : List MemFile → List ℕ → ℕ → List ℕ → ℕ
counts files failures all name = count_at failures all (place_of files name)

at_called : (failures : List ℕ) (j k : ℕ) → k < length failures → j ≡ k → slice_index (slice_set failures k (bump (slice_index failures k))) j ≡ bump (slice_index failures j)
at_called failures j k lt e = rw e (get_or-set_same failures k (bump (slice_index failures k)) 0 lt)

failed_by_place : (files : List MemFile) (failures : List ℕ) (all : ℕ) (called other : List ℕ) (k : ℕ) (o : Option ℕ) → place_of files called ≡ Some k → place_of files other ≡ o → k < length failures
    → count_at (slice_set failures k (bump (slice_index failures k))) (bump all) o ≡ cond (is_some o && not (bytes_eq other called)) (count_at failures all o) (bump (count_at failures all o))
failed_by_place files failures all called other k None e f lt = refl
failed_by_place files failures all called other k (Some j) e f lt =
    elim (cases_eq j k) [
      | inl same ↦ rw (same_name files other called k (f ∙ ap Some same) e) (at_called failures j k lt same)
      | inr apart ↦ rw (places_apart files other called (Some j) (Some k) f e (λ same. apart cc)) (get_or-set_other failures k j (bump (slice_index failures k)) 0 apart)
    ]

missed_by_place : (files : List MemFile) (failures : List ℕ) (all : ℕ) (called other : List ℕ) (o : Option ℕ) → place_of files called ≡ None → place_of files other ≡ o
    → count_at failures (bump all) o ≡ cond (is_some o && not (bytes_eq other called)) (count_at failures all o) (bump (count_at failures all o))
missed_by_place files failures all called other None e f = refl
missed_by_place files failures all called other (Some j) e f =
    rw (places_apart files other called (Some j) None f e (λ same. cc)) refl

-- a failure on a name that is held
pub failed : (files : List MemFile) (failures : List ℕ) (all : ℕ) (called : List ℕ) (k : ℕ) → place_of files called ≡ Some k → k < length failures
    → (other : List ℕ) → count_at (slice_set failures k (bump (slice_index failures k))) (bump all) (place_of files other) ≡ count_after (map file_of files) called false (counts files failures all) other
failed files failures all called k e lt other =
    rw (held_at files other (place_of files other) refl) (failed_by_place files failures all called other k (place_of files other) e refl lt)

-- a failure on a name that the shelf lacks
pub missed : (files : List MemFile) (failures : List ℕ) (all : ℕ) (called : List ℕ) → place_of files called ≡ None
    → (other : List ℕ) → count_at failures (bump all) (place_of files other) ≡ count_after (map file_of files) called false (counts files failures all) other
missed files failures all called e other =
    rw (held_at files other (place_of files other) refl) (missed_by_place files failures all called other (place_of files other) e refl)

-- ## A file is added

-- the failures of a name, and none where the shelf lacks it
abbrev pub own_count : List ℕ → Option ℕ → ℕ
own_count failures (Some k) = slice_index failures k
own_count failures None = 0

abbrev added_count : Bool → Bool → ℕ → ℕ
added_count same held n = cond (true && same && not held) 0 n

added_by_place : (failures : List ℕ) (all n len : ℕ) (same : Bool) (o : Option ℕ) → length failures ≡ len → n ≡ (cond same (own_count failures o) n) → ((k : ℕ) → o ≡ Some k → k < len)
    → count_at (failures ++ n ∷ []) all (cond same (Some len) o) ≡ added_count same (is_some o) (count_at failures all o)
added_by_place failures all n len true None e own inside = get_or_push failures n 0 len e ∙ own
added_by_place failures all n len true (Some k) e own inside = get_or_push failures n 0 len e ∙ own
added_by_place failures all n len false None e own inside = refl
added_by_place failures all n len false (Some k) e own inside = get_or_append_left failures (n ∷ []) 0 k (omega (arith, inside k refl))

own_if : (files : List MemFile) (failures : List ℕ) (n : ℕ) (added other : List ℕ) (same : Bool) → bytes_eq added other ≡ same → n ≡ own_count failures (place_of files added) → n ≡ cond same (own_count failures (place_of files other)) n
own_if files failures n added other true e own = own ∙ ap (λ name. own_count failures (place_of files name)) ((bytes_eq-Decides added other).0 e)
own_if files failures n added other false e own = refl

-- a name that is added again keeps its count
pub added : (files : List MemFile) (failures : List ℕ) (all n : ℕ) (file : MemFile) → length failures ≡ length files → n ≡ own_count failures (place_of files file.name)
    → (other : List ℕ) → count_at (failures ++ n ∷ []) all (place_of (files ++ file ∷ []) other) ≡ count_added (map file_of files) file.name true (counts files failures all) other
added files failures all n file e own other =
    rw (place_of-push files file other, held_at files other (place_of files other) refl)
    (added_by_place failures all n (length files) (bytes_eq file.name other) (place_of files other) e (own_if files failures n file.name other (bytes_eq file.name other) refl own) (λ k is. (found files other k is).inside))

-- ## What the calls leave

-- what stands in the vector of counts after a write of one of them
pub written : (v : Vec ℕ Global) (seen new : List ℕ) (k : ℕ) → seen ≡ v.items → new ≡ slice_set seen k (bump (slice_index seen k))
    → (with_items v new).items ≡ slice_set v.items k (bump (slice_index v.items k))
written v seen new k old own =
    let is : new ≡ slice_set v.items k (bump (slice_index v.items k)) = rw (← old) own in
    with_items_is v new (omega (arith, ap length is, length-set v.items k (bump (slice_index v.items k)), v.ok.0)) ∙ is

pub failed_with : (files : List MemFile) (failures : List ℕ) (all : ℕ) (called : List ℕ) (k : ℕ) (failures' : List ℕ) (all' : ℕ) → place_of files called ≡ Some k → k < length failures
    → failures' ≡ slice_set failures k (bump (slice_index failures k)) → all' ≡ bump all
    → (other : List ℕ) → count_at failures' all' (place_of files other) ≡ count_after (map file_of files) called false (counts files failures all) other
failed_with files failures all called k failures' all' e lt own whole other = rw (own, whole) (failed files failures all called k e lt other)

pub missed_with : (files : List MemFile) (failures : List ℕ) (all : ℕ) (called : List ℕ) (all' : ℕ) → place_of files called ≡ None → all' ≡ bump all
    → (other : List ℕ) → count_at failures all' (place_of files other) ≡ count_after (map file_of files) called false (counts files failures all) other
missed_with files failures all called all' e whole other = rw whole (missed files failures all called e other)

pub read_failed : (files : List MemFile) (failures : List ℕ) (all : ℕ) (reading : Option OpenFile) (o : OpenFile) (failures' : List ℕ) (all' : ℕ) → reading ≡ Some o → ForSome reading (IsOpenFile files) → length failures ≡ length files
    → failures' ≡ slice_set failures o.place (bump (slice_index failures o.place)) → all' ≡ bump all
    → IfSome (option_map (standing_at files) reading) (λ s. IfSome s.name (λ name. (other : List ℕ) → count_at failures' all' (place_of files other) ≡ count_after (map file_of files) name false (counts files failures all) other))
read_failed files failures all None o failures' all' e h len own whole = tt
read_failed files failures all (Some x) o failures' all' e h len own whole =
    let same : x ≡ o = cc in
    let stands : IsOpenFile files x = h x refl in
    let own_x : failures' ≡ slice_set failures x.place (bump (slice_index failures x.place)) = subst (λ (y : OpenFile). failures' ≡ slice_set failures y.place (bump (slice_index failures y.place))) (sym same) own in
    failed_with files failures all (file_at files x.place).name x.place failures' all' stands.last (omega (arith, stands.inside)) own_x whole

pub added_with : (files : List MemFile) (failures : List ℕ) (all n : ℕ) (file : MemFile) (name : List ℕ) (files' : List MemFile) (failures' : List ℕ) → length failures ≡ length files → n ≡ own_count failures (place_of files name)
    → file.name ≡ name → files' ≡ files ++ file ∷ [] → failures' ≡ failures ++ n ∷ []
    → (other : List ℕ) → count_at failures' all (place_of files' other) ≡ count_added (map file_of files) name true (counts files failures all) other
added_with files failures all n file name files' failures' len own named put counted other =
    let own' : n ≡ own_count failures (place_of files file.name) = own ∙ ap (λ m. own_count failures (place_of files m)) (sym named) in
    rw (put, counted, ← named) (added files failures all n file len own' other)
