-- Laws of words, trails and lists of views.
use Rattle.std.proofs.Common.{◌≡◌, ℕ, zero, suc, ◌+◌, ◌%◌, ◌<◌, Bool, true, false, ◌||◌, List, [], ◌∷◌, ◌++◌, length, slice_index, set, le_trans, arith, ap, refl, sym, subst, ◌∙◌, ◌⊎◌, inl, inr, eq-eqb, ne_eqb, true≢false, cond, ◌==◌, ◌≢◌}
use mathlib.Core.Option.{some, some-injective, some-ne-none}
use mathlib.Core.Logic.{dite}
use native.Mathlib.Decide.{ℕ_discrete}
use lib.ListN.{get_elem?}
use Rattle.atomic_table.proofs.Lists.{set_here, set_else}
use Rattle.cvc_law.specs.Network.{Network, devices}
use Rattle.cvc_law.specs.Reach.{width}
use Rattle.cvc_law.specs.ReachWord.{IsInMillion}
use Rattle.cvc_law.specs.ReachLeast.{IsReachWithin}
use Rattle.cvc_law.proofs.ReachWords.{reach_in_word}
use Rattle.cvc_core.specs.State.{Machine, Place, CountWord, BoundWord, MarkWord, found}
use Rattle.cvc_core.specs.Sound.{Sound}
use Rattle.cvc_field.specs.declared.view.View.{View}
use Rattle.cvc_field.specs.declared.view.Entry.{Entry}
use Rattle.cvc_field.specs.declared.view.Entry.TheVariants.{Loaded, Gave, Added, Queued, Took, Dropped, Subtracted, Counted, Looked}
use Rattle.cvc_field.specs.Words.{word_index, word_at, value_in}
use Rattle.cvc_field.specs.Trail.{Covers, CoversEach, counted_zero, is_quiet, gives_it, gave}
use Rattle.cvc_field.specs.Words.{IsPlace}
use Rattle.cvc_field.specs.Field.{Somewhere}

-- the value of a word is what the word stands for
pub value_in-word_at : (c : Network) (m : Machine) → IsInMillion c → Sound c m → (p : Place) → value_in c p (word_at c p (found m p)) ≡ found m p
value_in-word_at c m range ok CountWord = refl
value_in-word_at c m range ok (BoundWord b) = reach_in_word c range (b % 2) (slice_index m.bounds b) (omega arith) (ok.in_range.bounds.in_range b)
value_in-word_at c m range ok (MarkWord d) = refl

-- where two places have one word they are one place
pub same_place : (c : Network) (p q : Place) → IsPlace c p → IsPlace c q → word_index c p ≡ word_index c q → p ≡ q
same_place c CountWord CountWord hp hq e = refl
same_place c CountWord (BoundWord b) hp hq e = absurd (omega arith)
same_place c CountWord (MarkWord d) hp hq e = absurd (omega arith)
same_place c (BoundWord b) CountWord hp hq e = absurd (omega arith)
same_place c (BoundWord b) (BoundWord d) hp hq e = let is : b ≡ d = omega arith in ap BoundWord is
same_place c (BoundWord b) (MarkWord d) hp hq e = absurd (omega arith)
same_place c (MarkWord b) CountWord hp hq e = absurd (omega arith)
same_place c (MarkWord b) (BoundWord d) hp hq e = absurd (omega arith)
same_place c (MarkWord b) (MarkWord d) hp hq e = let is : b ≡ d = omega arith in ap MarkWord is

pub index_within : (c : Network) (p : Place) → IsPlace c p → word_index c p < 1 + width c + devices c
index_within c CountWord h = omega arith
index_within c (BoundWord b) h = omega arith
index_within c (MarkWord d) h = omega arith

covers_more : (c : Network) (f g : List ℕ) → IsReachWithin f g → (e : Entry) → Covers c f e → Covers c g e
covers_more c f g more (Loaded b r) h = le_trans h (more b)
covers_more c f g more (Gave b x r) h = (le_trans h.0 (more b), le_trans h.1 (more b))
covers_more c f g more (Added r) h = tt
covers_more c f g more (Queued d r) h = tt
covers_more c f g more (Took d r) h = tt
covers_more c f g more (Dropped d r) h = tt
covers_more c f g more (Subtracted r) h = tt
covers_more c f g more (Counted r) h = tt
covers_more c f g more (Looked d r) h = tt

pub covers_each_more : (c : Network) (f g : List ℕ) → IsReachWithin f g → (es : List Entry) → CoversEach c f es → CoversEach c g es
covers_each_more c f g more [] h = tt
covers_each_more c f g more (e ∷ es) h = (covers_more c f g more e h.0, covers_each_more c f g more es h.1)

pub covers-append : (c : Network) (f : List ℕ) (es ds : List Entry) → CoversEach c f es → CoversEach c f ds → CoversEach c f (es ++ ds)
covers-append c f [] ds h k = k
covers-append c f (e ∷ es) ds h k = (h.0, covers-append c f es ds h.1 k)

quiet_either : (a b x y : Bool) → (a || b) ≡ true → (b ≡ true → (x ≡ true) ⊎ (y ≡ true)) → ((a || x) ≡ true) ⊎ (y ≡ true)
quiet_either true b x y h k = inl refl
quiet_either false b x y h k = k h

or_either : (a x y : Bool) → (x ≡ true → y ≡ true) → (a || x) ≡ true → (a || y) ≡ true
or_either true x y k h = refl
or_either false x y k h = k h

or-true : (a : Bool) → (a || true) ≡ true
or-true true = refl
or-true false = refl

pub quiet-append : (es ds : List Entry) → is_quiet (es ++ ds) ≡ true → (is_quiet es ≡ true) ⊎ (is_quiet ds ≡ true)
quiet-append [] ds h = inr h
quiet-append (e ∷ es) ds h = quiet_either (counted_zero e) (is_quiet (es ++ ds)) (is_quiet es) (is_quiet ds) h (quiet-append es ds)

or_assoc : (a b c : Bool) → (a || (b || c)) ≡ ((a || b) || c)
or_assoc true b c = refl
or_assoc false b c = refl

pub is_quiet-append : (es ds : List Entry) → is_quiet (es ++ ds) ≡ (is_quiet es || is_quiet ds)
is_quiet-append [] ds = refl
is_quiet-append (e ∷ es) ds = ap (λ (b : Bool). counted_zero e || b) (is_quiet-append es ds) ∙ or_assoc (counted_zero e) (is_quiet es) (is_quiet ds)

pub gave-append_left : (b x : ℕ) (es ds : List Entry) → gave b x es ≡ true → gave b x (es ++ ds) ≡ true
gave-append_left b x [] ds h = absurd (true≢false (sym h))
gave-append_left b x (e ∷ es) ds h = or_either (gives_it b x e) (gave b x es) (gave b x (es ++ ds)) (gave-append_left b x es ds) h

pub gave-append_right : (b x : ℕ) (es ds : List Entry) → gave b x ds ≡ true → gave b x (es ++ ds) ≡ true
gave-append_right b x [] ds h = h
gave-append_right b x (e ∷ es) ds h = rw (gave-append_right b x es ds h) (or-true (gives_it b x e))

pub gave_one : (b x r : ℕ) → gave b x (Gave b x r ∷ []) ≡ true
gave_one b x r = rw (eq-eqb b b refl, eq-eqb x x refl) refl

module _ {A : Type 0} where
  pub same_number : (k : ℕ) (x y : A) → cond (k == k) x y ≡ x
  same_number k x y = rw (eq-eqb k k refl) refl

  pub other_number : (j k : ℕ) (x y : A) → j ≢ k → cond (j == k) x y ≡ y
  other_number j k x y apart = rw (ne_eqb j k apart) refl

pub elem_within : {A : Type 0} (l : List A) (i : ℕ) (a : A) → get_elem? l i ≡ some a → i < length l
elem_within [] i a e = absurd (some-ne-none a (sym e))
elem_within (x ∷ xs) zero a e = omega arith
elem_within (x ∷ xs) (suc i) a e = let r = elem_within xs i a e in omega arith

module _ (P Q : View → Type 0) (views : List View) (id : ℕ) (v w : View) (at : get_elem? views id ≡ some v) (live : w.spent ≡ false) where
  -- what some view tells is still told after the view v became w
  pub somewhere_set : (P v → Q w) → ((u : View) → P u → Q u) → Somewhere views P → Somewhere (set views id w) Q
  somewhere_set mine others t = dite (ℕ_discrete t.0 id)
      (λ same. let is : v ≡ t.1 = some-injective v t.1 (sym at ∙ subst (λ (z : ℕ). get_elem? views z ≡ some t.1) same t.2) in
      (id, w, set_here views id w (elem_within views id v at), live, mine (subst P (sym is) t.4)))
      (λ other. (t.0, t.1, set_else views id t.0 w other ∙ t.2, t.3, others t.1 t.4))
