-- Edits of a session that are done one behind another, and what their checks find.
use Rattle.std.proofs.Common.{◌≡◌, ℕ, suc, ◌+◌, ◌<◌, List, [], ◌∷◌, ◌++◌, length, take, get_or, refl, sym, ap, subst, ◌∙◌, arith}
use Rattle.std.proofs.Math.Seq.{take-suc}
use Rattle.cvc_delta.specs.declared.edit.Edit.{Edit}
use Rattle.cvc_delta.specs.declared.edit.Edit.TheVariants as edits
use Rattle.cvc_delta.specs.Edits.{after, after_all}
use Rattle.cvc_delta.specs.Session.{SessionView}
use Rattle.cvc_flat.specs.Flat.{FlatList}
use Rattle.cvc_model.specs.declared.row.ModelRow.{ModelRow}
use Rattle.cvc_power.specs.declared.row.PowerRow.{PowerRow}
use Rattle.cvc_top.specs.declared.rechecks.Recheck.{Recheck}
use Rattle.cvc_top.specs.Rechecks.{AreRechecks, IsDone}

-- ## Rows

after_more : (done : List Edit) (rows : List PowerRow) (e : Edit) → after_all rows (done ++ e ∷ []) ≡ after (after_all rows done) e
unfolding after_all
after_more [] rows e = refl
after_more (x ∷ done) rows e = after_more done (after rows x) e

-- ## Rechecks

module _ (f : FlatList) (models : List ModelRow) where
  first : (e : Edit) (rows : List PowerRow) (k : ℕ) (found new : List Recheck) → found ≡ [] → IsDone f models rows (k + length found) e found new → AreRechecks f models rows (e ∷ []) k new
  first edits.Recheck rows k found new none (r, is, at, fits) =
      let whole : r ∷ [] ≡ new = sym (is ∙ ap (λ (l : List Recheck). l ++ r ∷ []) none) in
      let same : length found ≡ 0 = ap length none in
      let number : r.number ≡ k = omega (arith, at, same) in
      subst (AreRechecks f models rows (edits.Recheck ∷ []) k) whole (number, fits, refl)
  first (edits.Set name low high) rows k found new none is = is ∙ none
  first (edits.Unset name) rows k found new none is = is ∙ none

  -- what is added behind the first one
  split : (e : Edit) (rows : List PowerRow) (n m : ℕ) (r : Recheck) (found new : List Recheck) → n ≡ m → IsDone f models rows n e (r ∷ found) new
      → (rest : List Recheck) × (r ∷ rest ≡ new) × IsDone f models rows m e found rest
  split edits.Recheck rows n m r found new same (s, is, at, fits) = (found ++ s ∷ [], sym is, (s, refl, at ∙ same, fits))
  split (edits.Set name low high) rows n m r found new same is = (found, sym is, refl)
  split (edits.Unset name) rows n m r found new same is = (found, sym is, refl)

  more : (done : List Edit) (rows : List PowerRow) (k : ℕ) (found new : List Recheck) (e : Edit) → AreRechecks f models rows done k found
      → IsDone f models (after_all rows done) (k + length found) e found new → AreRechecks f models rows (done ++ e ∷ []) k new
  unfolding after_all
  more [] rows k found new e are added = first e rows k found new are added
  more (edits.Recheck ∷ done) rows k [] new e are added = absurd are
  more (edits.Recheck ∷ done) rows k (r ∷ found) new e (at, fits, are) added =
      let s = split e (after_all rows done) (k + length (r ∷ found)) (suc k + length found) r found new (omega arith) added in
      subst (AreRechecks f models rows (edits.Recheck ∷ done ++ e ∷ []) k) s.1 (at, fits, more done rows (suc k) found s.0 e are s.2)
  more (edits.Set name low high ∷ done) rows k found new e are added = more done (after rows (edits.Set name low high)) k found new e are added
  more (edits.Unset name ∷ done) rows k found new e are added = more done (after rows (edits.Unset name)) k found new e are added

-- ## The edits of a list, one after another

-- the first so many edits are done in a session
pub record AreDone (s : SessionView) (done : List Edit) (now : SessionView) (found : List Recheck) : Type 0 where
  pub flat : now.flat ≡ s.flat
  pub models : now.models ≡ s.models
  pub rows : now.rows ≡ after_all s.rows done
  pub rechecks : AreRechecks s.flat s.models s.rows done 1 found

pub none_done : (s : SessionView) → AreDone s [] s []
unfolding after_all
none_done s = record { flat = refl; models = refl; rows = refl; rechecks = refl }

module _ (s : SessionView) (list : List Edit) (i : ℕ) (e : Edit) (is : e ≡ get_or list i e) (below : i < length list) where
  one_more : take (i + 1) list ≡ take i list ++ e ∷ []
  one_more =
      ap (λ (n : ℕ). take n list) (let next : i + 1 ≡ suc i = omega arith in next) ∙ take-suc list i e below ∙ ap (λ (y : Edit). take i list ++ y ∷ []) (sym is)

  pub next_done : (now next : SessionView) (found new : List Recheck) → AreDone s (take i list) now found → next.flat ≡ now.flat → next.models ≡ now.models → next.rows ≡ after now.rows e
      → IsDone now.flat now.models now.rows (suc (length found)) e found new → AreDone s (take (i + 1) list) next new
  next_done now next found new done flat models rows added =
      let at : IsDone s.flat s.models (after_all s.rows (take i list)) (1 + length found) e found new =
      subst (λ (n : ℕ). IsDone s.flat s.models (after_all s.rows (take i list)) n e found new) (let one : suc (length found) ≡ 1 + length found = omega arith in one)
      (subst (λ (f : FlatList). IsDone f s.models (after_all s.rows (take i list)) (suc (length found)) e found new) done.flat
      (subst (λ (m : List ModelRow). IsDone now.flat m (after_all s.rows (take i list)) (suc (length found)) e found new) done.models
      (subst (λ (r : List PowerRow). IsDone now.flat now.models r (suc (length found)) e found new) done.rows added))) in
      record {
        flat = flat ∙ done.flat;
        models = models ∙ done.models;
        rows = rows ∙ ap (λ (r : List PowerRow). after r e) done.rows ∙ sym (after_more (take i list) s.rows e) ∙ ap (after_all s.rows) (sym one_more);
        rechecks = subst (λ (l : List Edit). AreRechecks s.flat s.models s.rows l 1 new) (sym one_more) (more s.flat s.models (take i list) s.rows 1 found new e done.rechecks at);
      }
