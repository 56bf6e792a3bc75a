-- A sight as it is made, with a list more, a level more and a level less.
use Rattle.std.proofs.Common.{◌≡◌, ℕ, ◌+◌, ◌<◌, ◌≤◌, List, [], ◌∷◌, ◌++◌, length, take, get_or, refl, sym, ap, subst, ◌∙◌, arith, inl, inr}
use Rattle.std.specs.Prelude.{Result, Ok, Err, IfOk, OnOk}
use Rattle.std.proofs.lemmas.Bool.{cases_eq}
use Rattle.std.proofs.lemmas.List.{get_or_append_left, get_or_at, get_or-take, length-append, length-take-le}
use Rattle.cvc_base.specs.declared.param.Pair.{Pair}
use Rattle.cvc_cdl.specs.declared.netlist.Netlist.{Netlist}
use Rattle.cvc_cdl.specs.Instances.{cell_at, cell_for}
use Rattle.cvc_params.specs.declared.level.Level.{Level}
use Rattle.cvc_params.specs.declared.params.Lists.{Lists}
use Rattle.cvc_params.specs.declared.params.Sight.{Sight}
use Rattle.cvc_params.specs.Levels.{AreLevels}
use Rattle.cvc_params.specs.PairIndexes.{IsIndexOf, IsListed}
use Rattle.cvc_params.specs.Seen.{HasLists}

-- what two facts of an answer give
pub on_both : {T E A B C : Type 0} (r : Result T E) → IfOk r (λ _. A) → IfOk r (λ _. B) → (A → B → C) → IfOk r (λ _. C)
on_both (Ok x) a b f = f a b
on_both (Err e) a b f = tt

pub on_one : {T E A B : Type 0} (r : Result T E) → OnOk r A → (A → B) → OnOk r B
on_one (Ok x) a f = f a
on_one (Err e) a f = tt

pub sight_new : (s : Sight) → IsIndexOf s.indexes.main s.netlist.now.params → s.top.now ≡ cell_at s.netlist.now [] → IsListed s.indexes 0 s.top.now.pairs
    → s.levels.items ≡ [] → s.lists.items ≡ [] → HasLists s
sight_new s main top list levels lists =
    let few : length s.levels.items ≡ 0 = ap length levels in
    record {
      main = main;
      top = top;
      top_list = list;
      levels = λ k d h. absurd (omega (arith, few, h));
      count = ap length lists ∙ sym few;
      cards = λ k d e h. absurd (omega (arith, few, h));
      cells = λ k d e h. absurd (omega (arith, few, h));
    }

pub sight_kept : (old new : Sight) → HasLists old → new.netlist.now ≡ old.netlist.now → new.top.now ≡ old.top.now → new.levels.items ≡ old.levels.items → new.lists.items ≡ old.lists.items
    → new.indexes.main ≡ old.indexes.main → ((k : ℕ) (pairs : List Pair) → IsListed old.indexes k pairs → IsListed new.indexes k pairs) → HasLists new
sight_kept old new is n t levels lists main kept = record {
  main = subst (λ (m : Netlist). IsIndexOf new.indexes.main m.params) (sym n) (subst (λ i. IsIndexOf i old.netlist.now.params) (sym main) is.main);
  top = t ∙ is.top ∙ ap (λ (m : Netlist). cell_at m []) (sym n);
  top_list = subst (λ c. IsListed new.indexes 0 c.pairs) (sym t) (kept 0 old.top.now.pairs is.top_list);
  levels = subst (λ (m : Netlist). AreLevels m new.levels.items) (sym n) (subst (AreLevels old.netlist.now) (sym levels) is.levels);
  count = ap length lists ∙ is.count ∙ ap length (sym levels);
  cards = λ k d e h. subst (λ (ls : List Lists). IsListed new.indexes (get_or ls k d).card (get_or new.levels.items k e).card.now.pairs) (sym lists)
      (subst (λ (es : List Level). IsListed new.indexes (get_or old.lists.items k d).card (get_or es k e).card.now.pairs) (sym levels)
      (kept (get_or old.lists.items k d).card (get_or old.levels.items k e).card.now.pairs (is.cards k d e (omega (arith, ap length levels, h)))));
  cells = λ k d e h. subst (λ (ls : List Lists). IsListed new.indexes (get_or ls k d).cell (get_or new.levels.items k e).cell.now.pairs) (sym lists)
      (subst (λ (es : List Level). IsListed new.indexes (get_or old.lists.items k d).cell (get_or es k e).cell.now.pairs) (sym levels)
      (kept (get_or old.lists.items k d).cell (get_or old.levels.items k e).cell.now.pairs (is.cells k d e (omega (arith, ap length levels, h)))));
}

-- what holds of each pair of items of two lists, with one more
more_pairs : {A B : Type 0} (P : A → B → Type 0) (xs : List A) (ys : List B) (x : A) (y : B) → length xs ≡ length ys → P x y
    → ((k : ℕ) (d : A) (e : B) → k < length ys → P (get_or xs k d) (get_or ys k e))
    → (k : ℕ) (d : A) (e : B) → k < length (ys ++ y ∷ []) → P (get_or (xs ++ x ∷ []) k d) (get_or (ys ++ y ∷ []) k e)
more_pairs {A} {B} P xs ys x y same here all k d e h = elim (cases_eq k (length ys)) [
  | inl at ↦
      subst (λ (b : B). P (get_or (xs ++ x ∷ []) k d) b) (sym (get_or_at ys y [] e k (sym at)))
      (subst (λ (a : A). P a y) (sym (get_or_at xs x [] d k (same ∙ sym at))) here)
  | inr other ↦
      let below : k < length ys = omega (arith, length-append ys (y ∷ []), h, other) in
      subst (λ (b : B). P (get_or (xs ++ x ∷ []) k d) b) (sym (get_or_append_left ys (y ∷ []) e k below))
      (subst (λ (a : A). P a (get_or ys k e)) (sym (get_or_append_left xs (x ∷ []) d k (omega arith))) (all k d e below))
]

fewer_pairs : {A B : Type 0} (P : A → B → Type 0) (xs : List A) (ys : List B) (m : ℕ) → m ≤ length ys
    → ((k : ℕ) (d : A) (e : B) → k < length ys → P (get_or xs k d) (get_or ys k e))
    → (k : ℕ) (d : A) (e : B) → k < length (take m ys) → P (get_or (take m xs) k d) (get_or (take m ys) k e)
fewer_pairs {A} {B} P xs ys m fits all k d e h =
    let below : k < m = omega (arith, length-take-le m ys fits, h) in
    subst (λ (b : B). P (get_or (take m xs) k d) b) (sym (get_or-take m ys k e below))
    (subst (λ (a : A). P a (get_or ys k e)) (sym (get_or-take m xs k d below)) (all k d e (omega arith)))

pub sight_more : (old new : Sight) (level : Level) (lists : Lists) → HasLists old → level.cell.now ≡ cell_for old.netlist.now level.card.now.cell
    → IsListed old.indexes lists.card level.card.now.pairs → IsListed old.indexes lists.cell level.cell.now.pairs
    → new.netlist.now ≡ old.netlist.now → new.top.now ≡ old.top.now → new.indexes ≡ old.indexes
    → new.levels.items ≡ old.levels.items ++ level ∷ [] → new.lists.items ≡ old.lists.items ++ lists ∷ [] → HasLists new
sight_more old new level lists is cell card_list cell_list n t i levels listed = record {
  main = subst (λ (m : Netlist). IsIndexOf new.indexes.main m.params) (sym n) (subst (λ j. IsIndexOf j.main old.netlist.now.params) (sym i) is.main);
  top = t ∙ is.top ∙ ap (λ (m : Netlist). cell_at m []) (sym n);
  top_list = subst (λ c. IsListed new.indexes 0 c.pairs) (sym t) (subst (λ j. IsListed j 0 old.top.now.pairs) (sym i) is.top_list);
  levels = subst (λ (m : Netlist). AreLevels m new.levels.items) (sym n) (subst (AreLevels old.netlist.now) (sym levels)
      (λ k e h. more_pairs (λ (a : Level) (b : Level). b.cell.now ≡ cell_for old.netlist.now b.card.now.cell) old.levels.items old.levels.items level level refl cell (λ j d f b. is.levels j f b) k e e h));
  count = ap length listed ∙ length-append old.lists.items (lists ∷ []) ∙ ap (λ m. m + 1) is.count ∙ sym (length-append old.levels.items (level ∷ [])) ∙ ap length (sym levels);
  cards = subst (λ (ls : List Lists). (k : ℕ) (d : Lists) (e : Level) → k < length new.levels.items → IsListed new.indexes (get_or ls k d).card (get_or new.levels.items k e).card.now.pairs) (sym listed)
      (subst (λ (es : List Level). (k : ℕ) (d : Lists) (e : Level) → k < length es → IsListed new.indexes (get_or (old.lists.items ++ lists ∷ []) k d).card (get_or es k e).card.now.pairs) (sym levels)
      (subst (λ j. (k : ℕ) (d : Lists) (e : Level) → k < length (old.levels.items ++ level ∷ []) → IsListed j (get_or (old.lists.items ++ lists ∷ []) k d).card (get_or (old.levels.items ++ level ∷ []) k e).card.now.pairs) (sym i)
      (more_pairs (λ (a : Lists) (b : Level). IsListed old.indexes a.card b.card.now.pairs) old.lists.items old.levels.items lists level is.count card_list is.cards)));
  cells = subst (λ (ls : List Lists). (k : ℕ) (d : Lists) (e : Level) → k < length new.levels.items → IsListed new.indexes (get_or ls k d).cell (get_or new.levels.items k e).cell.now.pairs) (sym listed)
      (subst (λ (es : List Level). (k : ℕ) (d : Lists) (e : Level) → k < length es → IsListed new.indexes (get_or (old.lists.items ++ lists ∷ []) k d).cell (get_or es k e).cell.now.pairs) (sym levels)
      (subst (λ j. (k : ℕ) (d : Lists) (e : Level) → k < length (old.levels.items ++ level ∷ []) → IsListed j (get_or (old.lists.items ++ lists ∷ []) k d).cell (get_or (old.levels.items ++ level ∷ []) k e).cell.now.pairs) (sym i)
      (more_pairs (λ (a : Lists) (b : Level). IsListed old.indexes a.cell b.cell.now.pairs) old.lists.items old.levels.items lists level is.count cell_list is.cells)));
}

pub sight_less : (old new : Sight) (m : ℕ) → m ≤ length old.levels.items → HasLists old → new.netlist.now ≡ old.netlist.now → new.top.now ≡ old.top.now → new.indexes ≡ old.indexes
    → new.levels.items ≡ take m old.levels.items → new.lists.items ≡ take m old.lists.items → HasLists new
sight_less old new m fits is n t i levels listed = record {
  main = subst (λ (k : Netlist). IsIndexOf new.indexes.main k.params) (sym n) (subst (λ j. IsIndexOf j.main old.netlist.now.params) (sym i) is.main);
  top = t ∙ is.top ∙ ap (λ (k : Netlist). cell_at k []) (sym n);
  top_list = subst (λ c. IsListed new.indexes 0 c.pairs) (sym t) (subst (λ j. IsListed j 0 old.top.now.pairs) (sym i) is.top_list);
  levels = subst (λ (k : Netlist). AreLevels k new.levels.items) (sym n) (subst (AreLevels old.netlist.now) (sym levels)
      (λ k e h. fewer_pairs (λ (a : Level) (b : Level). b.cell.now ≡ cell_for old.netlist.now b.card.now.cell) old.levels.items old.levels.items m fits (λ j d f b. is.levels j f b) k e e h));
  count = ap length listed ∙ length-take-le m old.lists.items (omega (arith, is.count, fits)) ∙ sym (length-take-le m old.levels.items fits) ∙ ap length (sym levels);
  cards = subst (λ (ls : List Lists). (k : ℕ) (d : Lists) (e : Level) → k < length new.levels.items → IsListed new.indexes (get_or ls k d).card (get_or new.levels.items k e).card.now.pairs) (sym listed)
      (subst (λ (es : List Level). (k : ℕ) (d : Lists) (e : Level) → k < length es → IsListed new.indexes (get_or (take m old.lists.items) k d).card (get_or es k e).card.now.pairs) (sym levels)
      (subst (λ j. (k : ℕ) (d : Lists) (e : Level) → k < length (take m old.levels.items) → IsListed j (get_or (take m old.lists.items) k d).card (get_or (take m old.levels.items) k e).card.now.pairs) (sym i)
      (fewer_pairs (λ (a : Lists) (b : Level). IsListed old.indexes a.card b.card.now.pairs) old.lists.items old.levels.items m fits is.cards)));
  cells = subst (λ (ls : List Lists). (k : ℕ) (d : Lists) (e : Level) → k < length new.levels.items → IsListed new.indexes (get_or ls k d).cell (get_or new.levels.items k e).cell.now.pairs) (sym listed)
      (subst (λ (es : List Level). (k : ℕ) (d : Lists) (e : Level) → k < length es → IsListed new.indexes (get_or (take m old.lists.items) k d).cell (get_or es k e).cell.now.pairs) (sym levels)
      (subst (λ j. (k : ℕ) (d : Lists) (e : Level) → k < length (take m old.levels.items) → IsListed j (get_or (take m old.lists.items) k d).cell (get_or (take m old.levels.items) k e).cell.now.pairs) (sym i)
      (fewer_pairs (λ (a : Lists) (b : Level). IsListed old.indexes a.cell b.cell.now.pairs) old.lists.items old.levels.items m fits is.cells)));
}
