-- The last file of a name, and what failures do to the counts.
use Rattle.std.proofs.Common.{◌≡◌, ℕ, suc, ◌+◌, ◌-◌, ◌<◌, ◌≤◌, ◌⊎◌, inl, inr, List, [], ◌∷◌, ◌++◌, map, length, take, drop, get_or, Option, Some, None, Bool, true, false, cond, refl, sym, ap, subst, ◌∙◌, arith}
use Rattle.std.specs.Prelude.{slice_index, slice_set, IfSome, IsSomeAnd}
use Rattle.std.specs.Option.{option_map}
use Rattle.std.specs.Str.{bytes_eq}
use Rattle.std.proofs.lemmas.Slice.Eq.{bytes_eq-Decides}
use Rattle.std.proofs.lemmas.Bool.{cases_eq}
use Rattle.std.proofs.lemmas.List.{take_more, take-append-drop, drop-drop, take_all, take_at, length-drop, length-take-le, length-take, get_or-set_same, get_or-set_other}
use Rattle.cvc_io.specs.Files.{bytes_of, IsOpened}
use Rattle.cvc_io.specs.MemFiles.{file_of, place_of, later_place, standing_at, count_at, IsFound, IsOpenFile}
use Rattle.cvc_io.specs.SureFiles.{rest_of, standing_with}
use Rattle.cvc_io.specs.declared.held.MemFile.{MemFile}
use Rattle.cvc_io.specs.declared.held.OpenFile.{OpenFile}

pushed_step : (o : Option ℕ) (x same : Bool) (n : ℕ) → later_place (cond x (Some n) o) same ≡ cond x (Some (suc n)) (later_place o same)
pushed_step o true same n = refl
pushed_step o false same n = refl

-- a file that is added is the last of its name
pub place_of-push : (xs : List MemFile) (x : MemFile) (name : List ℕ) → place_of (xs ++ x ∷ []) name ≡ cond (bytes_eq x.name name) (Some (length xs)) (place_of xs name)
place_of-push [] x name = refl
place_of-push (f ∷ fs) x name = rw (place_of-push fs x name) (pushed_step (place_of fs name) (bytes_eq x.name name) (bytes_eq f.name name) (length fs))

pub found_more : (files : List MemFile) (name : List ℕ) (i : ℕ) (x : MemFile) (place new : Option ℕ) → i < length files → x ≡ get_or files i x → place ≡ place_of (take i files) name → new ≡ cond (bytes_eq x.name name) (Some i) place → new ≡ place_of (take (i + 1) files) name
found_more files name i x place new lt is so_far e =
    let more : take (i + 1) files ≡ take i files ++ x ∷ [] = take_more files i x lt ∙ ap (λ (y : MemFile). take i files ++ y ∷ []) (sym is) in
    let long : length (take i files) ≡ i = omega (arith, length-take i files) in
    e ∙ rw (more, place_of-push (take i files) x name, long, so_far) refl

found_step : (o : Option ℕ) (same : Bool) (k : ℕ) → later_place o same ≡ Some k → ((j : ℕ) × (o ≡ Some j) × (k ≡ suc j)) ⊎ ((o ≡ None) × (same ≡ true) × (k ≡ 0))
found_step (Some j) same k e = inl (j, refl, cc)
found_step None true k e = inr (refl, refl, cc)
found_step None false k e = absurd cc

missing_step : (o : Option ℕ) (same : Bool) → later_place o same ≡ None → (o ≡ None) × (same ≡ false)
missing_step (Some j) same e = absurd cc
missing_step None true e = absurd cc
missing_step None false e = (refl, refl)

pub missing : (files : List MemFile) (name : List ℕ) → place_of files name ≡ None → bytes_of (map file_of files) name ≡ None
missing [] name e = refl
missing (f ∷ fs) name e =
    let s = missing_step (place_of fs name) (bytes_eq f.name name) e in
    rw (missing fs name s.0, s.1) refl

pub found : (files : List MemFile) (name : List ℕ) (k : ℕ) → place_of files name ≡ Some k → IsFound files name k
found [] name k e = absurd cc
found (f ∷ fs) name k e =
    elim (found_step (place_of fs name) (bytes_eq f.name name) k e) [
      | inl h ↦ let ih = found fs name h.0 h.1 in rw h.2 record { inside = omega (arith, ih.inside); named = ih.named; bytes = rw ih.bytes refl }
      | inr h ↦ rw h.2 record { inside = omega arith; named = (bytes_eq-Decides f.name name).0 h.1; bytes = rw (missing fs name h.0, h.1) refl }
    ]

pub opens : (files : List MemFile) (name : List ℕ) (k : ℕ) → IsFound files name k → IsOpened (Some (map file_of files)) name (standing_at files record { place = k; at = 0 })
opens files name k h = record { named = h.named; whole = rw h.bytes refl }

-- no count falls where one rises
pub counts_rise : (failures : List ℕ) (all all' place x : ℕ) (o : Option ℕ) → slice_index failures place ≤ x → all ≤ all' → place < length failures → count_at failures all o ≤ count_at (slice_set failures place x) all' o
counts_rise failures all all' place x None le le' lt = le'
counts_rise failures all all' place x (Some k) le le' lt =
    elim (cases_eq k place) [
      | inl same ↦ subst (λ (n : ℕ). slice_index failures n ≤ slice_index (slice_set failures place x) n) (sym same) (rw (get_or-set_same failures place x 0 lt) le)
      | inr other ↦ rw (get_or-set_other failures place k x 0 other) (omega arith)
    ]

pub starts_open : (files : List MemFile) (name : List ℕ) (k : ℕ) (x : OpenFile) → place_of files name ≡ Some k → IsFound files name k → Some record { place = k; at = 0 } ≡ Some x → IsOpenFile files x
starts_open files name k x e h is =
    let P : OpenFile → Type 0 = λ o. IsOpenFile files o in
    let same : record { place = k; at = 0 } ≡ x = cc in
    subst P same record { inside = h.inside; read = omega arith; last = rw h.named e }

pub if_found : (files : List MemFile) (name : List ℕ) (o : Option ℕ) → o ≡ place_of files name → IfSome o (IsFound files name)
if_found files name None e = tt
if_found files name (Some k) e = found files name k (sym e)

-- the bytes that are left, where some more were taken
pub drop_split : (s : List ℕ) (at n : ℕ) → drop at s ≡ take n (drop at s) ++ drop (at + n) s
drop_split s at n = sym (take-append-drop n (drop at s)) ∙ ap (λ (t : List ℕ). take n (drop at s) ++ t) (drop-drop n at s)

-- the front of the buffer after the copy
pub copied : (s buf got : List ℕ) (at n : ℕ) → at ≤ length s → n ≤ length (take (length s - at) (drop at s)) → got ≡ take n (take (length s - at) (drop at s)) → drop at s ≡ take n (got ++ drop n buf) ++ drop (at + n) s
copied s buf got at n le fits after =
    let whole : take (length s - at) (drop at s) ≡ drop at s = take_all (length s - at) (drop at s) (omega (arith, length-drop at s)) in
    let few : n ≤ length (drop at s) = rw whole at fits in
    let is : got ≡ take n (drop at s) = after ∙ ap (take n) whole in
    let long : length got ≡ n = ap length is ∙ length-take-le n (drop at s) few in
    drop_split s at n ∙ ap (λ (t : List ℕ). t ++ drop (at + n) s) (sym is ∙ sym (take_at got (drop n buf) n long))

-- what a name has on a shelf where a name that is lacking has no bytes
pub opens_surely : (files : List MemFile) (name : List ℕ) (o : Option ℕ) → place_of files name ≡ o
    → IsSomeAnd (standing_with true (rest_of files (option_map (λ k. record { place = k; at = 0 }) o))) (IsOpened (Some (map file_of files)) name)
opens_surely files name None e = record { named = tt; whole = rw (missing files name e) refl }
opens_surely files name (Some k) e = record { named = tt; whole = rw ((found files name k e).bytes) refl }
