-- What an index has after one row more, from the last row on.
use Rattle.std.proofs.Common.{◌≡◌, ℕ, zero, suc, ◌+◌, ◌<◌, ◌≤◌, Bool, true, false, cond, List, [], ◌∷◌, length, set, slice_get, Option, Some, Vec, if◌then◌else◌, refl, sym, ap, ◌∙◌, arith, true≢false, length-set, ◌⊎◌, inl, inr, ◌-◌, get_or, subst}
use Rattle.std.proofs.lemmas.Option.{slice_get_within, slice_get_read}
use Rattle.std.proofs.lemmas.Slice.Eq.{bytes_eq-Decides}
use Rattle.std.specs.declared.alloc.Global.{Global}
use Rattle.std.specs.Map.{lookup}
use Rattle.std.specs.Str.{bytes_eq}
use Rattle.indexmap.specs.IndexMap.{insert_entry}
use Rattle.cvc_model.specs.declared.row.ModelRow.{ModelRow}
use Rattle.cvc_model.specs.Indexed.{is_key}
use Rattle.cvc_model.specs.Chosen.{next_place}
use Rattle.cvc_model.proofs.Places.{next_place-at, next_place-end}

abbrev pub same_key : Vec ℕ Global → Vec ℕ Global → Bool
same_key x y = bytes_eq x.items y.items

-- the value at any bytes, after an insertion
pub lookup-insert_entry : (name : List ℕ) (key : Vec ℕ Global) (v : ℕ) (es : List (Vec ℕ Global × ℕ))
    → lookup (is_key name) (insert_entry same_key es key v) ≡ (if bytes_eq name key.items then Some v else lookup (is_key name) es)
lookup-insert_entry name key v [] = refl
lookup-insert_entry name key v (e ∷ es) = by (bytes_eq key.items e.0.items) refl (lookup-insert_entry name key v es)
  where
    twice : (a : Bool) (o : Option ℕ) → cond a (Some v) o ≡ cond a (Some v) (cond a (Some e.1) o)
    twice true o = refl
    twice false o = refl

    apart : (a b : Bool) → bytes_eq name e.0.items ≡ a → bytes_eq name key.items ≡ b → bytes_eq key.items e.0.items ≡ false → (o : Option ℕ)
        → cond a (Some e.1) (cond b (Some v) o) ≡ cond b (Some v) (cond a (Some e.1) o)
    apart true true p q r o =
        let same : key.items ≡ e.0.items = sym ((bytes_eq-Decides name key.items).0 q) ∙ (bytes_eq-Decides name e.0.items).0 p in
        absurd (true≢false (sym ((bytes_eq-Decides key.items e.0.items).1 same) ∙ r))
    apart true false p q r o = refl
    apart false true p q r o = refl
    apart false false p q r o = refl

    by : (b : Bool) → bytes_eq key.items e.0.items ≡ b → lookup (is_key name) (insert_entry same_key es key v) ≡ (if bytes_eq name key.items then Some v else lookup (is_key name) es)
        → lookup (is_key name) (insert_entry same_key (e ∷ es) key v) ≡ (if bytes_eq name key.items then Some v else lookup (is_key name) (e ∷ es))
    by true q rest =
        let same = (bytes_eq-Decides key.items e.0.items).0 q in
        ap (λ b. lookup (is_key name) (if b then (e.0, v) ∷ es else e ∷ insert_entry same_key es key v)) q
        ∙ ap (λ t. cond (bytes_eq name t) (Some v) (lookup (is_key name) es)) (sym same)
        ∙ twice (bytes_eq name key.items) (lookup (is_key name) es)
        ∙ ap (λ t. cond (bytes_eq name key.items) (Some v) (cond (bytes_eq name t) (Some e.1) (lookup (is_key name) es))) same
    by false q rest =
        ap (λ b. lookup (is_key name) (if b then (e.0, v) ∷ es else e ∷ insert_entry same_key es key v)) q
        ∙ ap (cond (bytes_eq name e.0.items) (Some e.1)) rest
        ∙ apart (bytes_eq name e.0.items) (bytes_eq name key.items) refl refl q (lookup (is_key name) es)

slice_get-set_same : {A : Type 0} (xs : List A) (i : ℕ) (v : A) → i < length xs → slice_get (set xs i v) i ≡ Some v
slice_get-set_same [] i v h = absurd (omega arith)
slice_get-set_same (x ∷ xs) zero v h = refl
slice_get-set_same (x ∷ xs) (suc i) v h = slice_get-set_same xs i v (omega arith)

slice_get-set_other : {A : Type 0} (xs : List A) (i j : ℕ) (v : A) → i < j → slice_get (set xs i v) j ≡ slice_get xs j
slice_get-set_other [] i j v h = refl
slice_get-set_other (x ∷ xs) i zero v h = absurd (omega arith)
slice_get-set_other (x ∷ xs) zero (suc j) v h = refl
slice_get-set_other (x ∷ xs) (suc i) (suc j) v h = slice_get-set_other xs i j v (omega arith)

eq_or_less : (a b : ℕ) → a ≤ b → (a ≡ b) ⊎ (a < b)
eq_or_less zero zero h = inl refl
eq_or_less zero (suc b) h = inr (omega arith)
eq_or_less (suc a) zero h = absurd (omega arith)
eq_or_less (suc a) (suc b) h = elim (eq_or_less a b (omega arith)) [ inl e ↦ inl (ap suc e) | inr lt ↦ inr (omega arith) ]

-- the rows from a place on stand in the index
pub record IsIndexFrom (rows : List ModelRow) (place : ℕ) (es : List (Vec ℕ Global × ℕ)) (links : List (Option ℕ)) : Type 0 where
  pub count : length links ≡ length rows
  pub first : (name : List ℕ) → lookup (is_key name) es ≡ next_place rows name place
  pub next : (other : ℕ) (row : ModelRow) → place ≤ other → slice_get rows other ≡ Some row → slice_get links other ≡ Some (next_place rows row.name (other + 1))

-- one row more, in front
pub IsIndexFrom-earlier : (rows : List ModelRow) (place : ℕ) (es : List (Vec ℕ Global × ℕ)) (links : List (Option ℕ)) (row : ModelRow) (key : Vec ℕ Global)
    → slice_get rows place ≡ Some row → place < length rows → key.items ≡ row.name
    → IsIndexFrom rows (place + 1) es links → IsIndexFrom rows place (insert_entry same_key es key place) (set links place (lookup (same_key key) es))
IsIndexFrom-earlier rows place es links row key at within same h = record {
  count = simp length-set h.count;
  first = λ name. lookup-insert_entry name key place es ∙ (λ i. if bytes_eq name (same i) then Some place else h.first name i) ∙ sym (next_place-at rows name place row at);
  next = λ other later from e. by other later e (eq_or_less place other from);
}
  where
    here : slice_get (set links place (lookup (same_key key) es)) place ≡ Some (next_place rows row.name (place + 1))
    here = slice_get-set_same links place (lookup (same_key key) es) (omega (arith, h.count)) ∙ ap Some (h.first key.items ∙ ap (λ n. next_place rows n (place + 1)) same)

    by : (other : ℕ) (later : ModelRow) → slice_get rows other ≡ Some later → (place ≡ other) ⊎ (place < other)
        → slice_get (set links place (lookup (same_key key) es)) other ≡ Some (next_place rows later.name (other + 1))
    by other later e (inl p) =
        let both : Some row ≡ Some later = sym at ∙ ap (slice_get rows) p ∙ e in
        let r : row ≡ later = cc in
        ap (slice_get (set links place (lookup (same_key key) es))) (sym p) ∙ here ∙ (λ i. Some (next_place rows (r i).name (p i + 1)))
    by other later e (inr lt) = slice_get-set_other links place other (lookup (same_key key) es) lt ∙ h.next other later (omega arith) e

pub IsIndexFrom-end : (rows : List ModelRow) (es : List (Vec ℕ Global × ℕ)) (links : List (Option ℕ)) → es ≡ [] → length links ≡ length rows → IsIndexFrom rows (length rows) es links
IsIndexFrom-end rows es links none count = record {
  count = count;
  first = λ name. ap (lookup (is_key name)) none ∙ sym (next_place-end rows name);
  next = λ other row from e. absurd (omega (arith, slice_get_within rows other row e, from));
}

-- one row more, as the loop counts
pub IsIndexFrom-before : (rows : List ModelRow) (place : ℕ) (es : List (Vec ℕ Global × ℕ)) (links : List (Option ℕ)) (row : ModelRow) (key : Vec ℕ Global)
    → 0 < place → place - 1 < length rows → row ≡ get_or rows (place - 1) row → key.items ≡ row.name → IsIndexFrom rows place es links
    → (more : List (Vec ℕ Global × ℕ)) → more ≡ insert_entry same_key es key (place - 1) → (old : Option ℕ) → old ≡ lookup (same_key key) es
    → IsIndexFrom rows (place - 1) more (set links (place - 1) old)
IsIndexFrom-before rows place es links row key some within at same h more e old f =
    let up : place ≡ place - 1 + 1 = omega arith in
    let next = IsIndexFrom-earlier rows (place - 1) es links row key (slice_get_read rows (length rows) (place - 1) row refl within at) within same (subst (λ (n : ℕ). IsIndexFrom rows n es links) up h) in
    subst (λ (es' : List (Vec ℕ Global × ℕ)). IsIndexFrom rows (place - 1) es' (set links (place - 1) old)) (sym e)
    (subst (λ (o : Option ℕ). IsIndexFrom rows (place - 1) (insert_entry same_key es key (place - 1)) (set links (place - 1) o)) (sym f) next)
