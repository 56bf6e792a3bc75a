-- Cutting a seat's numbers in two, and joining two seats' numbers, keeps the rule.
use Rattle.std.proofs.Common.{◌≡◌, ◌≢◌, ℕ, zero, suc, ◌+◌, ◌<◌, ◌≤◌, true, false, cond, ◌&&◌, nat_le, nat_lt, List, [], ◌∷◌, ◌++◌, length, slice_index, set, arith, ap, refl, sym, subst, ◌∙◌, ◌⊎◌, inl, inr, ⊎_elim, length-set, get_or-set_same, get_or-set_other, true≢false}
use Rattle.std.proofs.lemmas.Bool.Decides.{nat_tests}
use mathlib.Core.Option.{some, some-injective, some-ne-none}
use mathlib.Core.Logic.{dite}
use native.Mathlib.Decide.{ℕ_discrete, dec_lt}
use lib.ListN.{get_elem?}
use Rattle.atomic_table.specs.Table.{Splits, Joins}
use Rattle.atomic_table.proofs.Lists.{at_set, set_here, set_else, at_longer, at_last}
use Rattle.cvc_law.specs.Network.{Network}
use Rattle.cvc_core.specs.declared.actor.Actor.{Actor}
use Rattle.cvc_core.specs.declared.actor.Actor.TheVariants.{Absent, Idle, Running}
use Rattle.cvc_core.specs.State.{Machine, actor_at, put_actor}
use Rattle.cvc_core.specs.Steps.{IsPresent}
use Rattle.cvc_core.specs.Events.{IsEnabled}
use Rattle.cvc_core.specs.declared.event.Event.TheVariants.{Split, Join}
use Rattle.cvc_core.proofs.Moving.{found-put_actor}
use Rattle.cvc_core.proofs.EachStep.{split_keeps, join_keeps}
use Rattle.cvc_field.specs.declared.view.View.{View}
use Rattle.cvc_field.specs.Words.{word_at}
use Rattle.cvc_field.specs.declared.view.Entry.{Entry}
use Rattle.cvc_field.specs.History.{Happening, WasCut, TookIn, trail_in}
use Rattle.cvc_field.specs.Trail.{gave}
use Rattle.cvc_field.specs.Views.{left_of, right_of, both_of, spent_view}
use Rattle.cvc_field.specs.Field.{ViewFits, HasNumber, IsSoundField, Somewhere}
use Rattle.cvc_field.proofs.Trails.{covers-append, quiet-append, gave-append_left, gave-append_right, same_number, other_number, elem_within, somewhere_set}

-- the seat `new` has the numbers from lo up to hi
abbrev dealt : ℕ → ℕ → ℕ → (ℕ → ℕ) → ℕ → ℕ
dealt lo hi new owner k = cond (nat_le lo k && nat_lt k hi) new (owner k)

dealt_in : (lo hi new : ℕ) (owner : ℕ → ℕ) (k : ℕ) → lo ≤ k → k < hi → dealt lo hi new owner k ≡ new
dealt_in lo hi new owner k l h = grind (arith, nat_tests)

dealt_out : (lo hi new : ℕ) (owner : ℕ → ℕ) (k : ℕ) → (lo ≤ k → k < hi → ⊥) → dealt lo hi new owner k ≡ owner k
dealt_out lo hi new owner k out = grind (arith, nat_tests)

module _ {A : Type 0} where
  at_end : (l : List A) (a b : A) (j : ℕ) → get_elem? (l ++ a ∷ []) j ≡ some b → (get_elem? l j ≡ some b) ⊎ ((j ≡ length l) × (a ≡ b))
  at_end [] a b zero e = inr (refl, some-injective a b e)
  at_end [] a b (suc j) e = absurd (some-ne-none b (sym e))
  at_end (x ∷ xs) a b zero e = inl e
  at_end (x ∷ xs) a b (suc j) e = ⊎_elim inl (λ (t : (j ≡ length xs) × (a ≡ b)). inr (ap suc t.0, t.1)) (at_end xs a b j e)

module _ (P : View → Type 0) (l : List View) (w : View) where
  somewhere_longer : Somewhere l P → Somewhere (l ++ w ∷ []) P
  somewhere_longer t = (t.0, t.1, at_longer l (w ∷ []) t.0 t.1 t.2, t.3, t.4)

absent_or_present : (a : Actor) → (a ≡ Absent) ⊎ IsPresent a
absent_or_present Absent = inl refl
absent_or_present (Idle n) = inr tt
absent_or_present (Running r) = inr tt

-- two seats that have a number in common are one
one_seat : (c : Network) (hands : ℕ) (m : Machine) (trails : ℕ → List Entry) (owner : ℕ → ℕ) (i j : ℕ) (v w : View) → ViewFits c hands m trails owner i v → ViewFits c hands m trails owner j w → (k : ℕ) → v.first ≤ k → k < v.first + v.numbers → w.first ≤ k → k < w.first + w.numbers → i ≡ j
one_seat c hands m trails owner i j v w fv fw k a b d e = sym (fv.owns k a b) ∙ fw.owns k d e

pub splits : (hands id : ℕ) (v : View) (at : ℕ) → v.spent ≡ false → v.actor ≡ Idle 0 → 0 < at → at < v.numbers → Splits (IsSoundField v.circuit hands) id v (left_of at v) (right_of at v)
splits hands id v at live idle many less s h there =
    let c : Network = v.circuit in let m : Machine = h.machine in let trails : ℕ → List Entry = trail_in c hands h.history in let fit = h.each id v there live in let l : View = left_of at v in let r : View = right_of at v in let cut : ℕ = v.first + at in
    let views : List View = set s.views id l in let new : ℕ = length views in let owner : ℕ → ℕ = dealt cut (v.first + v.numbers) new h.owner in
    let within_views : id < length s.views = elem_within s.views id v there in let long : new ≡ length s.views = length-set s.views id l in
    let bound = fit.within in let count = h.actors in let here : cut < length m.actors = omega arith in
    let none : actor_at m cut ≡ Absent = ⊎_elim (λ z. z)
    (λ (p : IsPresent (actor_at m cut)). let t = h.dealt cut (omega arith) in let first : t.1.first ≡ cut = t.4.only_first p in
    let same : t.0 ≡ id = one_seat c hands m trails h.owner t.0 id t.1 v (h.each t.0 t.1 t.2 t.3) fit cut t.4.above t.4.below (omega arith) (omega arith) in
    let is : t.1 ≡ v = some-injective t.1 v (sym t.2 ∙ (ap (get_elem? s.views) same ∙ there)) in let firsts : t.1.first ≡ v.first = ap (λ (z : View). z.first) is in absurd (omega arith))
    (absent_or_present (actor_at m cut)) in
    let m' : Machine = put_actor m cut (Idle 0) in let hs : List Happening = WasCut v.first cut ∷ h.history in
    let elsewhere : (P : View → Type 0) → (P v → P l) → Somewhere s.views P → Somewhere (views ++ r ∷ []) P = λ P mine t. somewhere_longer P views r (somewhere_set P P s.views id v l there live mine (λ u z. z) t) in
    record {
      history = hs;
      happened = (h.happened, subst (λ (z : Machine). IsEnabled c z (Split v.first cut)) h.replayed (fit.actor ∙ idle, here, none));
      machine = m';
      replayed = ap (λ (z : Machine). put_actor z cut (Idle 0)) h.replayed;
      sound = split_keeps c m cut h.sound here none;
      range = h.range;
      actors = length-set m.actors cut (Idle 0) ∙ h.actors;
      words = h.words;
      word_is = λ p is. h.word_is p is ∙ ap (word_at c p) (sym (found-put_actor m cut (Idle 0) p));
      owner = owner;
      each = λ j u e live_u. ⊎_elim
          (λ (old : get_elem? views j ≡ some u). ⊎_elim
          (λ (t : (j ≡ id) × (l ≡ u)). subst (λ (z : ℕ × View). ViewFits c hands m' (trail_in c hands hs) owner z.0 z.1) (λ k. (sym t.0 k, t.1 k)) record {
            some_number = many;
            within = omega arith;
            owns = λ k a b. dealt_out cut (v.first + v.numbers) new h.owner k (λ x y. omega arith) ∙ fit.owns k a (omega arith);
            actor = get_or-set_other m.actors cut v.first (Idle 0) Absent (λ x. omega arith) ∙ fit.actor;
            told = fit.told ∙ sym (other_number v.first cut (trails v.first) (trails v.first) (λ x. omega arith));
            covers = fit.covers;
            quiet = fit.quiet;
          })
          (λ (t : (j ≢ id) × (get_elem? s.views j ≡ some u)). let old_u = h.each j u t.1 live_u in let some_u = old_u.some_number in record {
            some_number = old_u.some_number;
            within = old_u.within;
            owns = λ k a b. dealt_out cut (v.first + v.numbers) new h.owner k (λ x y. t.0 (one_seat c hands m trails h.owner j id u v old_u fit k a b (omega arith) y)) ∙ old_u.owns k a b;
            actor = get_or-set_other m.actors cut u.first (Idle 0) Absent (λ x. t.0 (one_seat c hands m trails h.owner j id u v old_u fit cut (omega arith) (omega arith) (omega arith) (omega arith))) ∙ old_u.actor;
            told = old_u.told ∙ sym (other_number u.first cut (trails v.first) (trails u.first) (λ x. t.0 (one_seat c hands m trails h.owner j id u v old_u fit cut (omega arith) (omega arith) (omega arith) (omega arith))));
            covers = old_u.covers;
            quiet = old_u.quiet;
          })
          (at_set s.views id j l u old))
          (λ (t : (j ≡ new) × (r ≡ u)). subst (λ (z : ℕ × View). ViewFits c hands m' (trail_in c hands hs) owner z.0 z.1) (λ k. (sym t.0 k, t.1 k)) record {
            some_number = omega arith;
            within = omega arith;
            owns = λ k a b. dealt_in cut (v.first + v.numbers) new h.owner k a (omega arith);
            actor = get_or-set_same m.actors cut (Idle 0) Absent here;
            told = fit.told ∙ sym (same_number cut (trails v.first) (trails cut));
            covers = fit.covers;
            quiet = fit.quiet;
          })
          (at_end views r u j e);
      dealt = λ k lt. dite (ℕ_discrete k cut)
          (λ same. (new, r, at_last views r new refl, live, record { above = omega arith; below = omega arith; only_first = λ p. sym same }))
          (λ apart. let t = h.dealt k lt in let z = t.4 in
          let first : IsPresent (actor_at m' k) → t.1.first ≡ k = (λ p. z.only_first (subst IsPresent (get_or-set_other m.actors cut k (Idle 0) Absent apart) p)) in dite (ℕ_discrete t.0 id)
          (λ same. let is : t.1 ≡ v = some-injective t.1 v (sym t.2 ∙ (ap (get_elem? s.views) same ∙ there)) in let mine : HasNumber m k v = subst (HasNumber m k) is z in let low = mine.above in let high = mine.below in
          let first_v : IsPresent (actor_at m' k) → v.first ≡ k = (λ p. ap (λ (u : View). u.first) (sym is) ∙ first p) in dite (dec_lt k cut)
          (λ lower. (id, l, at_longer views (r ∷ []) id l (set_here s.views id l within_views), live, record { above = low; below = lower; only_first = first_v }))
          (λ upper. (new, r, at_last views r new refl, live, record { above = omega arith; below = omega arith; only_first = λ p. let e : v.first ≡ k = first_v p in absurd (omega arith) })))
          (λ other. (t.0, t.1, at_longer views (r ∷ []) t.0 t.1 (set_else s.views id t.0 l other ∙ t.2), t.3, record { above = z.above; below = z.below; only_first = first })));
      given = λ b free known. elsewhere (λ u. gave b (slice_index m.bounds b) u.trail ≡ true) (λ z. z) (h.given b free known);
    }

pub joins : (hands id : ℕ) (v : View) (other : ℕ) (w : View) → v.spent ≡ false → w.spent ≡ false → v.actor ≡ Idle 0 → w.actor ≡ Idle 0 → w.first ≡ v.first + v.numbers
    → Joins (IsSoundField v.circuit hands) id v other w (both_of v w) spent_view
joins hands id v other w live_v live_w idle_v idle_w next s h there apart there' =
    let c : Network = v.circuit in let m : Machine = h.machine in let trails : ℕ → List Entry = trail_in c hands h.history in let b : View = both_of v w in let views : List View = set s.views id b in
    let at_w : get_elem? s.views other ≡ some w = sym (set_else s.views id other b apart) ∙ there' in
    let fv = h.each id v there live_v in let fw = h.each other w at_w live_w in let bound_v = fv.within in let bound_w = fw.within in let many_v = fv.some_number in let many_w = fw.some_number in let count = h.actors in
    let here : w.first < length m.actors = omega arith in
    let m' : Machine = put_actor m w.first Absent in let hs : List Happening = TookIn v.first w.first ∷ h.history in let owner : ℕ → ℕ = dealt w.first (w.first + w.numbers) id h.owner in
    let gone : actor_at m' w.first ≡ Absent = get_or-set_same m.actors w.first Absent Absent here in let within_v = elem_within s.views id v there in let within_w = elem_within views other w there' in
    let there_b : get_elem? (set views other spent_view) id ≡ some b = set_else views other id spent_view (λ e. apart (sym e)) ∙ set_here s.views id b within_v in
    let elsewhere : (P : View → Type 0) → (P v → P b) → (P w → P b) → Somewhere s.views P → Somewhere (set views other spent_view) P = λ P left right t. dite (ℕ_discrete t.0 id)
    (λ same. let is : t.1 ≡ v = some-injective t.1 v (sym t.2 ∙ (ap (get_elem? s.views) same ∙ there)) in (id, b, there_b, live_v, left (subst P is t.4)))
    (λ not_id. dite (ℕ_discrete t.0 other)
    (λ same. let is : t.1 ≡ w = some-injective t.1 w (sym t.2 ∙ (ap (get_elem? s.views) same ∙ at_w)) in (id, b, there_b, live_v, right (subst P is t.4)))
    (λ not_other. (t.0, t.1, set_else views other t.0 spent_view not_other ∙ (set_else s.views id t.0 b not_id ∙ t.2), t.3, t.4))) in
    record {
      history = hs;
      happened = (h.happened, subst (λ (z : Machine). IsEnabled c z (Join v.first w.first)) h.replayed ((λ x. omega arith), fv.actor ∙ idle_v, fw.actor ∙ idle_w));
      machine = m';
      replayed = ap (λ (z : Machine). put_actor z w.first Absent) h.replayed;
      sound = join_keeps c m w.first h.sound (fw.actor ∙ idle_w);
      range = h.range;
      actors = length-set m.actors w.first Absent ∙ h.actors;
      words = h.words;
      word_is = λ p is. h.word_is p is ∙ ap (word_at c p) (sym (found-put_actor m w.first Absent p));
      owner = owner;
      each = λ j u e live_u. ⊎_elim
          (λ (t : (j ≡ other) × (spent_view ≡ u)). absurd (true≢false (ap (λ (z : View). z.spent) t.1 ∙ live_u)))
          (λ (t : (j ≢ other) × (get_elem? views j ≡ some u)). ⊎_elim
          (λ (z : (j ≡ id) × (b ≡ u)). subst (λ (y : ℕ × View). ViewFits c hands m' (trail_in c hands hs) owner y.0 y.1) (λ k. (sym z.0 k, z.1 k)) record {
            some_number = omega arith;
            within = omega arith;
            owns = λ k x y. dite (dec_lt k w.first)
                (λ before. dealt_out w.first (w.first + w.numbers) id h.owner k (λ p q. omega arith) ∙ fv.owns k x (omega arith))
                (λ after. dealt_in w.first (w.first + w.numbers) id h.owner k (omega arith) (omega arith));
            actor = get_or-set_other m.actors w.first v.first Absent Absent (λ x. omega arith) ∙ fv.actor;
            told = (λ k. fv.told k ++ fw.told k) ∙ sym (same_number v.first (trails v.first ++ trails w.first) (trails v.first));
            covers = covers-append c m.bounds v.trail w.trail fv.covers fw.covers;
            quiet = λ x. ⊎_elim fv.quiet fw.quiet (quiet-append v.trail w.trail x);
          })
          (λ (z : (j ≢ id) × (get_elem? s.views j ≡ some u)). let fu = h.each j u z.1 live_u in let many_u = fu.some_number in record {
            some_number = fu.some_number;
            within = fu.within;
            owns = λ k x y. dealt_out w.first (w.first + w.numbers) id h.owner k (λ p q. t.0 (one_seat c hands m trails h.owner j other u w fu fw k x y p q)) ∙ fu.owns k x y;
            actor = get_or-set_other m.actors w.first u.first Absent Absent (λ x. t.0 (one_seat c hands m trails h.owner j other u w fu fw w.first (omega arith) (omega arith) (omega arith) (omega arith))) ∙ fu.actor;
            told = fu.told ∙ sym (other_number u.first v.first (trails v.first ++ trails w.first) (trails u.first) (λ x. z.0 (one_seat c hands m trails h.owner j id u v fu fv v.first (omega arith) (omega arith) (omega arith) (omega arith))));
            covers = fu.covers;
            quiet = fu.quiet;
          })
          (at_set s.views id j b u t.1))
          (at_set views other j spent_view u e);
      dealt = λ k lt. let stays : (u : View) → HasNumber m k u → HasNumber m' k u = (λ u z. record {
        above = z.above;
        below = z.below;
        only_first = λ p. dite (ℕ_discrete k w.first) (λ same. absurd (subst IsPresent (ap (actor_at m') same ∙ gone) p)) (λ apart. z.only_first (subst IsPresent (get_or-set_other m.actors w.first k Absent Absent apart) p));
      }) in let t = h.dealt k lt in
          elsewhere (HasNumber m' k) (λ z. let high = z.below in record { above = z.above; below = omega arith; only_first = z.only_first })
          (λ z. let low = z.above in let high = z.below in record { above = omega arith; below = omega arith; only_first = λ p. absurd (subst IsPresent (ap (actor_at m') (sym (z.only_first p)) ∙ gone) p) }) (t.0, t.1, t.2, t.3, stays t.1 t.4);
      given = λ q free known. elsewhere (λ u. gave q (slice_index m.bounds q) u.trail ≡ true) (gave-append_left q (slice_index m.bounds q) v.trail w.trail) (gave-append_right q (slice_index m.bounds q) v.trail w.trail) (h.given q free known);
    }
