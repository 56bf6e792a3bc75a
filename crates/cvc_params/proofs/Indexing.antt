-- An index of pairs with one pair more.
use Rattle.std.proofs.Common.{◌≡◌, ℕ, ◌+◌, ◌<◌, Bool, true, false, cond, List, [], ◌∷◌, ◌++◌, length, take, get_or, slice_get, Option, Some, None, Vec, if◌then◌else◌, refl, sym, ap, ◌∙◌, subst, arith, true≢false}
use Rattle.std.specs.Prelude.{IfSome, filter}
use Rattle.std.specs.Option.{option_and_then, option_map}
use Rattle.std.specs.declared.alloc.Global.{Global}
use Rattle.std.specs.Map.{lookup}
use Rattle.std.specs.Str.{bytes_eq, str_to_ascii_lowercase}
use Rattle.std.specs.Cmp.Lexicographic.{bytes_decides}
use Rattle.std.proofs.lemmas.List.{append-nil, get_or_append_left, get_or_at, length-append, take_more}
use Rattle.std.proofs.lemmas.List.Elements.{filter-append}
use Rattle.std.proofs.lemmas.Option.{slice_get_read}
use Rattle.indexmap.specs.IndexMap.{insert_entry}
use Rattle.cvc_base.specs.declared.param.Pair.{Pair}
use Rattle.cvc_card.specs.Parts.{last_of}
use Rattle.cvc_params.specs.declared.pair_index.PairIndex.{PairIndex}
use Rattle.cvc_params.specs.declared.pair_index.PairIndexes.{PairIndexes}
use Rattle.cvc_params.specs.PairIndexes.{IsIndexOf, IsListed, is_key, last_low}

abbrev pub Entries : Type 0
Entries = List (Vec ℕ Global × ℕ)

abbrev pub same_key : Vec ℕ Global → Vec ℕ Global → Bool
same_key x y = bytes_eq x.items y.items

-- the value at any bytes, after an insertion
pub lookup-insert : {X : Type 0} (name : List ℕ) (key : Vec ℕ Global) (v : X) (es : List (Vec ℕ Global × X))
    → lookup (is_key name) (insert_entry same_key es key v) ≡ (if bytes_eq name key.items then Some v else lookup (is_key name) es)
lookup-insert {X} name key v [] = refl
lookup-insert {X} name key v (e ∷ es) = by (bytes_eq key.items e.0.items) refl (lookup-insert name key v es)
  where
    twice : (a : Bool) (o : Option X) → cond a (Some v) o ≡ cond a (Some v) (cond a (Some e.1) o)
    twice true o = refl
    twice false o = refl

    apart : (a b : Bool) → bytes_eq name e.0.items ≡ a → bytes_eq name key.items ≡ b → bytes_eq key.items e.0.items ≡ false → (o : Option X)
        → cond a (Some e.1) (cond b (Some v) o) ≡ cond b (Some v) (cond a (Some e.1) o)
    apart true true p q r o =
        let same : key.items ≡ e.0.items = sym ((bytes_decides name key.items).0 q) ∙ (bytes_decides name e.0.items).0 p in
        absurd (true≢false (sym ((bytes_decides key.items e.0.items).1 same) ∙ r))
    apart true false p q r o = refl
    apart false true p q r o = refl
    apart false false p q r o = refl

    by : (b : Bool) → bytes_eq key.items e.0.items ≡ b → lookup (is_key name) (insert_entry same_key es key v) ≡ (if bytes_eq name key.items then Some v else lookup (is_key name) es)
        → lookup (is_key name) (insert_entry same_key (e ∷ es) key v) ≡ (if bytes_eq name key.items then Some v else lookup (is_key name) (e ∷ es))
    by true q rest =
        let same = (bytes_decides key.items e.0.items).0 q in
        ap (λ b. lookup (is_key name) (if b then (e.0, v) ∷ es else e ∷ insert_entry same_key es key v)) q
        ∙ ap (λ t. cond (bytes_eq name t) (Some v) (lookup (is_key name) es)) (sym same)
        ∙ twice (bytes_eq name key.items) (lookup (is_key name) es)
        ∙ ap (λ t. cond (bytes_eq name key.items) (Some v) (cond (bytes_eq name t) (Some e.1) (lookup (is_key name) es))) same
    by false q rest =
        ap (λ b. lookup (is_key name) (if b then (e.0, v) ∷ es else e ∷ insert_entry same_key es key v)) q
        ∙ ap (cond (bytes_eq name e.0.items) (Some e.1)) rest
        ∙ apart (bytes_eq name e.0.items) (bytes_eq name key.items) refl refl q (lookup (is_key name) es)

pub mapped-insert : {X Y : Type 0} (f : X → Y) (name : List ℕ) (key : Vec ℕ Global) (v : X) (es : List (Vec ℕ Global × X))
    → option_map f (lookup (is_key name) (insert_entry same_key es key v)) ≡ (if bytes_eq name key.items then Some (f v) else option_map f (lookup (is_key name) es))
mapped-insert {X} {Y} f name key v es = ap (option_map f) (lookup-insert name key v es) ∙ by (bytes_eq name key.items)
  where
    by : (b : Bool) → option_map f (cond b (Some v) (lookup (is_key name) es)) ≡ cond b (Some (f v)) (option_map f (lookup (is_key name) es))
    by true = refl
    by false = refl

last_push : {X : Type 0} (xs : List X) (x : X) → last_of (xs ++ x ∷ []) ≡ Some x
last_push [] x = refl
last_push (y ∷ []) x = refl
last_push (y ∷ z ∷ xs) x = last_push (z ∷ xs) x

abbrev has_name : List ℕ → Pair → Bool
has_name low p = bytes_eq low (str_to_ascii_lowercase p.name)

low_push : (xs : List Pair) (p : Pair) (low : List ℕ) → last_low (xs ++ p ∷ []) low ≡ (if has_name low p then Some p else last_low xs low)
low_push xs p low = ap last_of (filter-append (has_name low) xs (p ∷ [])) ∙ by (has_name low p)
  where
    by : (b : Bool) → last_of (filter (has_name low) xs ++ cond b (p ∷ []) []) ≡ cond b (Some p) (last_of (filter (has_name low) xs))
    by true = last_push (filter (has_name low) xs) p
    by false = ap last_of (append-nil (filter (has_name low) xs))

-- the first pairs stand in the index
pub record IsIndexUpTo (pairs : List Pair) (k : ℕ) (es : Entries) : Type 0 where
  pub inside : (low : List ℕ) → IfSome (lookup (is_key low) es) (λ i. i < k)
  pub last : (low : List ℕ) → option_and_then (slice_get pairs) (lookup (is_key low) es) ≡ last_low (take k pairs) low

pub index_none : (pairs : List Pair) (es : Entries) → es ≡ [] → IsIndexUpTo pairs 0 es
index_none pairs es none = record {
  inside = λ low. subst (λ (l : Entries). IfSome (lookup (is_key low) l) (λ i. i < 0)) (sym none) tt;
  last = λ low. ap (λ (l : Entries). option_and_then (slice_get pairs) (lookup (is_key low) l)) none;
}

pub index_more : (pairs : List Pair) (k : ℕ) (es : Entries) (p : Pair) (key : Vec ℕ Global) (more : Entries)
    → k < length pairs → p ≡ get_or pairs k p → key.items ≡ str_to_ascii_lowercase p.name → more ≡ insert_entry same_key es key k
    → IsIndexUpTo pairs k es → IsIndexUpTo pairs (k + 1) more
index_more pairs k es p key more within here low_key e h = record { inside = inside; last = last }
  where
    looked : (low : List ℕ) → lookup (is_key low) more ≡ (if has_name low p then Some k else lookup (is_key low) es)
    looked low = ap (λ (l : Entries). lookup (is_key low) l) e ∙ lookup-insert low key k es ∙ ap (λ (n : List ℕ). if bytes_eq low n then Some k else lookup (is_key low) es) low_key

    wider : (o : Option ℕ) → IfSome o (λ i. i < k) → IfSome o (λ i. i < k + 1)
    wider None i = tt
    wider (Some j) i = omega arith

    within_by : (b : Bool) (o : Option ℕ) → IfSome o (λ i. i < k) → IfSome (cond b (Some k) o) (λ i. i < k + 1)
    within_by true o i = omega arith
    within_by false o i = wider o i

    inside : (low : List ℕ) → IfSome (lookup (is_key low) more) (λ i. i < k + 1)
    inside low = subst (λ (o : Option ℕ). IfSome o (λ i. i < k + 1)) (sym (looked low)) (within_by (has_name low p) (lookup (is_key low) es) (h.inside low))

    one : slice_get pairs k ≡ Some p
    one = slice_get_read pairs (length pairs) k p refl within here

    last_by : (low : List ℕ) (b : Bool) → option_and_then (slice_get pairs) (cond b (Some k) (lookup (is_key low) es)) ≡ cond b (Some p) (last_low (take k pairs) low)
    last_by low true = one
    last_by low false = h.last low

    last : (low : List ℕ) → option_and_then (slice_get pairs) (lookup (is_key low) more) ≡ last_low (take (k + 1) pairs) low
    last low =
        ap (option_and_then (slice_get pairs)) (looked low)
        ∙ last_by low (has_name low p)
        ∙ sym (low_push (take k pairs) p low)
        ∙ ap (λ (l : List Pair). last_low l low) (ap (λ q. take k pairs ++ q ∷ []) here ∙ sym (take_more pairs k p within))

-- ## Lists by number

pub listed_last : (old new : PairIndexes) (index : PairIndex) (pairs : List Pair) (k : ℕ) → IsIndexOf index pairs → new.lists.items ≡ old.lists.items ++ index ∷ [] → k ≡ length old.lists.items
    → IsListed new k pairs
listed_last old new index pairs k is e at = record {
  inside = omega (arith, ap length e, length-append old.lists.items (index ∷ []), at);
  is = λ d. subst (λ (i : PairIndex). IsIndexOf i pairs) (sym (ap (λ (l : List PairIndex). get_or l k d) e ∙ get_or_at old.lists.items index [] d k (sym at))) is;
}

pub listed_before : (old new : PairIndexes) (index : PairIndex) (pairs : List Pair) (k : ℕ) → new.lists.items ≡ old.lists.items ++ index ∷ [] → IsListed old k pairs → IsListed new k pairs
listed_before old new index pairs k e h = record {
  inside = omega (arith, ap length e, length-append old.lists.items (index ∷ []), h.inside);
  is = λ d. subst (λ (i : PairIndex). IsIndexOf i pairs) (sym (ap (λ (l : List PairIndex). get_or l k d) e ∙ get_or_append_left old.lists.items (index ∷ []) d k h.inside)) (h.is d);
}
