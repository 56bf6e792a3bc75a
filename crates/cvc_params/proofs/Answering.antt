-- Last texts that are known: as levels come and go, with a name more, and along a chain.
use Rattle.std.proofs.Common.{◌≡◌, ℕ, zero, suc, ◌<◌, ◌≤◌, Bool, true, false, cond, List, [], ◌∷◌, ◌++◌, length, map, take, drop, get_or, set, refl, sym, ap, subst, ◌∙◌, arith, inl, inr}
use Rattle.std.specs.Prelude.{Option, Some, None, IfSome, All, if◌then◌else◌, reverse}
use Rattle.std.specs.Str.{bytes_eq, str_to_ascii_lowercase}
use Rattle.std.specs.Cmp.Lexicographic.{bytes_decides}
use Rattle.std.proofs.lemmas.Bool.{cases_eq}
use Rattle.std.proofs.lemmas.List.{get_or_append_left, get_or_at, get_or-set_other, get_or-set_same, get_or-take, length-append, length-set, length-take-le, map-append, reverse-append, take-append-drop, take-append-le, take-take}
use Rattle.std.proofs.lemmas.List.Elements.{All-push}
use Rattle.cvc_base.specs.declared.param.Pair.{Pair}
use Rattle.cvc_cdl.specs.declared.netlist.Netlist.{Netlist}
use Rattle.cvc_cdl.specs.Instances.{Instance}
use Rattle.cvc_params.specs.declared.known.Known.{Known}
use Rattle.cvc_params.specs.declared.level.Level.{Level}
use Rattle.cvc_params.specs.declared.params.Sight.{Sight}
use Rattle.cvc_params.specs.declared.params.Site.{Site}
use Rattle.cvc_params.specs.declared.params.Site.TheVariants as sites
use Rattle.cvc_params.specs.declared.params.Spot.{Spot}
use Rattle.cvc_params.specs.Sights.{AreAnswers, Ends, IsAnswer, IsAnsweredBy, IsSight, LeadsTo, SeesTheSame, end_of}
use Rattle.cvc_params.specs.Levels.{card_of, instance_of}
use Rattle.cvc_params.specs.PairIndexes.{IsListed}
use Rattle.cvc_params.specs.Params.{Scope, Inside, Main, Use, last_text, next, pairs_above, param_in}
use Rattle.cvc_params.specs.Seen.{HasLists, IsOnWay, scope_in, use_in, way_to}
use Rattle.cvc_params.proofs.Chains.{Sees, endless_twice, last_after, last_here, some_more, twice_endless}
use Rattle.cvc_params.proofs.Sighted.{sight_kept}

-- ## Ends

pub ends_here : (n : Netlist) (u : Use) → next n u ≡ None → Ends n u u.text
ends_here n u none = record { steps = 1; ends = last_here n 0 u none }

pub ends_after : (n : Netlist) (u v : Use) (t : List ℕ) → next n u ≡ Some v → Ends n v t → Ends n u t
ends_after n u v t some h = record { steps = suc h.steps; ends = last_after n h.steps u v some ∙ h.ends }

-- a text that ends does so within as many steps as there are pairs to pass
pub ends_enough : (n : Netlist) (p : Instance) (u : Use) (t : List ℕ) → Sees p u.scope → Ends n u t → Some t ≡ last_text n (suc (pairs_above n p)) u
ends_enough n p u t h e = by (last_text n (suc (pairs_above n p)) u) refl
  where
    by : (o : Option (List ℕ)) → last_text n (suc (pairs_above n p)) u ≡ o → Some t ≡ o
    by None q = absurd (twice_endless n p (suc (pairs_above n p)) u e.steps t h (endless_twice n p u h q) e.ends)
    by (Some r) q =
        sym (some_more n e.steps (suc (pairs_above n p)) u t e.ends)
        ∙ ap (λ (m : ℕ). last_text n m u) (omega arith)
        ∙ some_more n (suc (pairs_above n p)) e.steps u r q

-- ## What is known

pub none_known : (n : Netlist) (s : Scope) (known : Known) → ((low : List ℕ) → end_of known low ≡ None) → AreAnswers n s known
none_known n s known none = λ low. subst (λ (o : Option (List ℕ)). IfSome o (IsAnswer n s low)) (sym (none low)) tt

pub one_known : (n : Netlist) (s : Scope) (old new : Known) (key t : List ℕ)
    → ((low : List ℕ) → end_of new low ≡ (if bytes_eq low key then Some t else end_of old low)) → IsAnswer n s key t → AreAnswers n s old → AreAnswers n s new
one_known n s old new key t is answer before = λ low.
    subst (λ (o : Option (List ℕ)). IfSome o (IsAnswer n s low)) (sym (is low)) (by low (bytes_eq low key) refl)
  where
    by : (low : List ℕ) (b : Bool) → bytes_eq low key ≡ b → IfSome (cond b (Some t) (end_of old low)) (IsAnswer n s low)
    by low true same = subst (λ (k : List ℕ). IsAnswer n s k t) (sym ((bytes_decides low key).0 same)) answer
    by low false other = before low

pub known_found : (n : Netlist) (s : Scope) (known : Known) (low t : List ℕ) → AreAnswers n s known → Some t ≡ end_of known low → IsAnswer n s low t
known_found n s known low t are e = subst (λ (o : Option (List ℕ)). IfSome o (IsAnswer n s low)) (sym e) (are low)

abbrev pub AllKnown : Netlist → List Level → List Known → Type 0
AllKnown n levels ways = (k : ℕ) (d : Known) → k < length ways → AreAnswers n (Inside (way_to levels k)) (get_or ways k d)

way_front : (levels more : List Level) (k : ℕ) → k ≤ length levels → way_to (levels ++ more) k ≡ way_to levels k
way_front levels more k h = ap instance_of (take-append-le k levels more h)

pub ways_more : (n : Netlist) (levels : List Level) (level : Level) (ways : List Known) (new : Known) → length ways ≡ suc (length levels)
    → ((low : List ℕ) → end_of new low ≡ None) → AllKnown n levels ways → AllKnown n (levels ++ level ∷ []) (ways ++ new ∷ [])
ways_more n levels level ways new count none all k d h = elim (cases_eq k (length ways)) [
  | inl at ↦
      subst (AreAnswers n (Inside (way_to (levels ++ level ∷ []) k))) (sym (get_or_at ways new [] d k (sym at)))
      (none_known n (Inside (way_to (levels ++ level ∷ []) k)) new none)
  | inr other ↦
      let below : k < length ways = omega (arith, length-append ways (new ∷ []), h, other) in
      subst (AreAnswers n (Inside (way_to (levels ++ level ∷ []) k))) (sym (get_or_append_left ways (new ∷ []) d k below))
      (subst (λ (p : Instance). AreAnswers n (Inside p) (get_or ways k d)) (sym (way_front levels (level ∷ []) k (omega arith))) (all k d below))
]

pub ways_less : (n : Netlist) (levels : List Level) (ways : List Known) (m : ℕ) → suc m ≤ length ways
    → AllKnown n levels ways → AllKnown n (take m levels) (take (suc m) ways)
ways_less n levels ways m fits all k d h =
    let below : k < suc m = omega (arith, length-take-le (suc m) ways fits, h) in
    subst (AreAnswers n (Inside (way_to (take m levels) k))) (sym (get_or-take (suc m) ways k d below))
    (subst (λ (p : Instance). AreAnswers n (Inside p) (get_or ways k d)) (sym (ap instance_of (take-take k m levels (omega arith)))) (all k d (omega arith)))

pub ways_kept : (n : Netlist) (levels : List Level) (ways : List Known) (j : ℕ) (new : Known) → AllKnown n levels ways → AreAnswers n (Inside (way_to levels j)) new
    → AllKnown n levels (set ways j new)
ways_kept n levels ways j new all right k d h =
    let inside : k < length ways = omega (arith, length-set ways j new, h) in
    elim (cases_eq k j) [
      | inl at ↦
          subst (λ (i : ℕ). AreAnswers n (Inside (way_to levels i)) (get_or (set ways j new) i d)) (sym at)
          (subst (AreAnswers n (Inside (way_to levels j))) (sym (get_or-set_same ways j new d (omega arith))) right)
      | inr other ↦ subst (AreAnswers n (Inside (way_to levels k))) (sym (get_or-set_other ways j k new d other)) (all k d inside)
    ]

-- ## Along a chain

-- what is asked is answered by the last text of that text
pub record IsAskedFor (n : Netlist) (levels : List Level) (u : Use) (asked : Spot) : Type 0 where
  pub inside : IsOnWay levels asked.site
  pub answer : (t : List ℕ) → Ends n u t → IsAnswer n (scope_in levels asked.site) (str_to_ascii_lowercase asked.text.now) t

pub asked_on : (n : Netlist) (levels : List Level) (spot seen : Spot) (trail : List Spot) → LeadsTo n levels spot seen → IsOnWay levels spot.site
    → All (IsAskedFor n levels (use_in levels spot)) trail → All (IsAskedFor n levels (use_in levels seen)) (trail ++ spot ∷ [])
asked_on n levels spot seen trail leads inside all =
    All-push (IsAskedFor n levels (use_in levels seen)) trail spot
    (λ k d h. let b = all k d h in record { inside = b.inside; answer = λ t e. b.answer t (ends_after n (use_in levels spot) (use_in levels seen) t leads.step e) })
    record { inside = inside; answer = λ t e. record { to = use_in levels seen; seen = leads.name; ends = e } }

pub asked_answered : (n : Netlist) (levels : List Level) (u : Use) (t : List ℕ) (trail : List Spot) → Ends n u t → All (IsAskedFor n levels u) trail → All (IsAnsweredBy n levels t) trail
asked_answered n levels u t trail e all = λ k d h. let b = all k d h in record { inside = b.inside; answer = b.answer t e }

-- ## Ways as they are seen

pub sees_way : (levels : List Level) (site : Site) → IsOnWay levels site → Sees (instance_of levels) (scope_in levels site)
sees_way levels sites.Main h = tt
sees_way levels (sites.Below d) h = record {
  front = reverse (map card_of (drop d levels));
  split = ap (λ (l : List Level). reverse (map card_of l)) (sym (take-append-drop d levels))
      ∙ ap reverse (map-append card_of (take d levels) (drop d levels))
      ∙ reverse-append (map card_of (take d levels)) (map card_of (drop d levels));
}

-- ## Sights

pub same_itself : (s : Sight) → SeesTheSame s s
same_itself s = record { netlist = refl; indexes = refl; top = refl; levels = refl; lists = refl }

pub same_twice : (r s t : Sight) → SeesTheSame r s → SeesTheSame s t → SeesTheSame r t
same_twice r s t a b = record {
  netlist = b.netlist ∙ a.netlist;
  indexes = b.indexes ∙ a.indexes;
  top = b.top ∙ a.top;
  levels = b.levels ∙ a.levels;
  lists = b.lists ∙ a.lists;
}

pub same_param : (old new : Sight) (pair : Pair) → SeesTheSame old new
    → param_in new.netlist.now (instance_of new.levels.items) pair ≡ param_in old.netlist.now (instance_of old.levels.items) pair
same_param old new pair h = λ i. param_in (h.netlist i) (instance_of (h.levels i)) pair

pub same_answered : (old new : Sight) (t : List ℕ) (trail : List Spot) → SeesTheSame old new → All (IsAnsweredBy old.netlist.now old.levels.items t) trail
    → All (IsAnsweredBy new.netlist.now new.levels.items t) trail
same_answered old new t trail h all =
    subst (λ (n : Netlist). All (IsAnsweredBy n new.levels.items t) trail) (sym h.netlist)
    (subst (λ (ls : List Level). All (IsAnsweredBy old.netlist.now ls t) trail) (sym h.levels) all)

-- the lists stay those of the levels
pub same_lists_of : (old new : Sight) → SeesTheSame old new → HasLists old → HasLists new
same_lists_of old new h is =
    sight_kept old new is h.netlist h.top h.levels h.lists (ap (λ x. x.main) h.indexes) (λ k pairs l. subst (λ x. IsListed x k pairs) (sym h.indexes) l)

pub knowing_new : (l : Sight) (first : Known) → HasLists l → l.levels.items ≡ [] → ((low : List ℕ) → end_of l.main_known low ≡ None) → l.known.items ≡ first ∷ []
    → ((low : List ℕ) → end_of first low ≡ None) → IsSight l
knowing_new l first sight levels main ways none = record {
  lists = sight;
  main = none_known l.netlist.now Main l.main_known main;
  count = ap length ways ∙ sym (ap (λ (ls : List Level). suc (length ls)) levels);
  known = λ k d h. subst (λ (ks : List Known). AreAnswers l.netlist.now (Inside (way_to l.levels.items k)) (get_or ks k d)) (sym ways)
      (by k d (omega (arith, ap length ways, h)));
}
  where
    by : (k : ℕ) (d : Known) → k < 1 → AreAnswers l.netlist.now (Inside (way_to l.levels.items k)) (get_or (first ∷ []) k d)
    by zero d h = none_known l.netlist.now (Inside (way_to l.levels.items zero)) first none
    by (suc k) d h = absurd (omega arith)

-- with the same levels
pub knowing_kept : (old new : Sight) → IsSight old → HasLists new → new.netlist.now ≡ old.netlist.now → new.levels.items ≡ old.levels.items
    → AreAnswers old.netlist.now Main new.main_known → length new.known.items ≡ length old.known.items → AllKnown old.netlist.now old.levels.items new.known.items → IsSight new
knowing_kept old new is sight n levels main count ways = record {
  lists = sight;
  main = subst (λ (m : Netlist). AreAnswers m Main new.main_known) (sym n) main;
  count = count ∙ is.count ∙ ap (λ (ls : List Level). suc (length ls)) (sym levels);
  known = λ k d h. subst (λ (m : Netlist). AreAnswers m (Inside (way_to new.levels.items k)) (get_or new.known.items k d)) (sym n)
      (subst (λ (ls : List Level). AreAnswers old.netlist.now (Inside (way_to ls k)) (get_or new.known.items k d)) (sym levels) (ways k d h));
}

pub knowing_more : (old new : Sight) (level : Level) (known : Known) → IsSight old → HasLists new → new.netlist.now ≡ old.netlist.now
    → new.levels.items ≡ old.levels.items ++ level ∷ [] → new.main_known ≡ old.main_known → new.known.items ≡ old.known.items ++ known ∷ [] → ((low : List ℕ) → end_of known low ≡ None)
    → IsSight new
knowing_more old new level known is sight n levels main ways none = record {
  lists = sight;
  main = subst (λ (m : Netlist). AreAnswers m Main new.main_known) (sym n) (subst (AreAnswers old.netlist.now Main) (sym main) is.main);
  count = omega (arith, ap length ways, length-append old.known.items (known ∷ []), is.count, ap length levels, length-append old.levels.items (level ∷ []));
  known = λ k d h. subst (λ (m : Netlist). AreAnswers m (Inside (way_to new.levels.items k)) (get_or new.known.items k d)) (sym n)
      (subst (λ (ls : List Level). AreAnswers old.netlist.now (Inside (way_to ls k)) (get_or new.known.items k d)) (sym levels)
      (subst (λ (ks : List Known). AreAnswers old.netlist.now (Inside (way_to (old.levels.items ++ level ∷ []) k)) (get_or ks k d)) (sym ways)
      (ways_more old.netlist.now old.levels.items level old.known.items known is.count none is.known k d (omega (arith, ap length ways, h)))));
}

pub knowing_less : (old new : Sight) (m : ℕ) → suc m ≡ length old.levels.items → IsSight old → HasLists new → new.netlist.now ≡ old.netlist.now
    → new.levels.items ≡ take m old.levels.items → new.main_known ≡ old.main_known → new.known.items ≡ take (suc m) old.known.items → IsSight new
knowing_less old new m one is sight n levels main ways = record {
  lists = sight;
  main = subst (λ (k : Netlist). AreAnswers k Main new.main_known) (sym n) (subst (AreAnswers old.netlist.now Main) (sym main) is.main);
  count = omega (arith, ap length ways, length-take-le (suc m) old.known.items (omega (arith, is.count, one)), ap length levels, length-take-le m old.levels.items (omega (arith, one)));
  known = λ k d h. subst (λ (j : Netlist). AreAnswers j (Inside (way_to new.levels.items k)) (get_or new.known.items k d)) (sym n)
      (subst (λ (ls : List Level). AreAnswers old.netlist.now (Inside (way_to ls k)) (get_or new.known.items k d)) (sym levels)
      (subst (λ (ks : List Known). AreAnswers old.netlist.now (Inside (way_to (take m old.levels.items) k)) (get_or ks k d)) (sym ways)
      (ways_less old.netlist.now old.levels.items old.known.items m (omega (arith, is.count, one)) is.known k d (omega (arith, ap length ways, h)))));
}
