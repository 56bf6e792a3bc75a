-- Each step of a seat keeps the rule.
use Rattle.std.proofs.Common.{◌≡◌, ◌≢◌, ℕ, ◌%◌, ◌<◌, ◌≤◌, max, Bool, true, false, ◌||◌, List, [], ◌∷◌, ◌++◌, length, slice_index, set, arith, ap, refl, sym, subst, ◌∙◌, ⊎_elim, length-set, get_or-set_same, get_or-set_other, true≢false, eqb-true}
use mathlib.Core.Option.{some}
use mathlib.Core.Logic.{dite}
use native.Mathlib.Decide.{ℕ_discrete}
use lib.ListN.{get_elem?}
use Rattle.atomic_table.specs.Table.{State, Me, keeps, stepped, Allows}
use Rattle.atomic_table.proofs.Lists.{at_set, set_here}
use Rattle.cvc_law.specs.Network.{Network, devices}
use Rattle.cvc_law.specs.Reach.{width, widest, read_place, target_place}
use Rattle.cvc_law.specs.ReachWord.{word_of, reach_in, IsInMillion}
use Rattle.cvc_law.proofs.ReachWords.{reach_in_word}
use Rattle.cvc_core.specs.declared.actor.Actor.{Actor}
use Rattle.cvc_core.specs.declared.actor.Actor.TheVariants.{Absent}
use Rattle.cvc_core.specs.declared.actor.Intent.{Intent}
use Rattle.cvc_core.specs.declared.actor.Intent.TheVariants.{Read, Widen, TakeCredit, Queue, Claim, Release, GiveCredit, AskCount, LookAt, Peek}
use Rattle.cvc_core.specs.State.{Machine, Place, CountWord, BoundWord, MarkWord, actor_at, found, device_of, run_of, offer, credits_of}
use Rattle.cvc_core.specs.Steps.{place_of, new_word, new_actor, IsAllowed, IsPresent, step_by}
use Rattle.cvc_core.specs.Sound.{Sound}
use Rattle.cvc_core.proofs.EachStep.{step_keeps as core_keeps}
use Rattle.cvc_core.proofs.Keeping.{credits-le-count}
use Rattle.cvc_core.proofs.Quiet.{count-le, step_stays}
use Rattle.cvc_core.proofs.Moving.{found-put_same, found-put_other, bound_moves, bounds_widen}
use Rattle.atomic_table.specs.declared.shared.Seat.{Seat}
use Rattle.cvc_field.specs.declared.field.Field.{Field}
use Rattle.cvc_field.specs.Seats.{IsSeatOf, MayMove}
use Rattle.cvc_field.specs.declared.view.View.{View}
use Rattle.cvc_field.specs.declared.view.Entry.{Entry}
use Rattle.cvc_field.specs.declared.view.Entry.TheVariants.{Loaded, Gave, Added, Queued, Took, Dropped, Subtracted, Counted, Looked}
use Rattle.cvc_field.specs.Words.{word_index, word_at, value_in}
use Rattle.cvc_field.specs.History.{Happening, Stepped, replay, trail_in}
use Rattle.cvc_field.specs.Trail.{entry_of, Covers, CoversEach, SawAtMost, EachAtMost, WithinClosed, counted_zero, is_quiet, gave}
use Rattle.cvc_field.specs.Views.{advance, IsBoundWord, Told, Tells}
use Rattle.cvc_field.specs.Words.{IsPlace}
use Rattle.cvc_field.specs.Field.{ViewFits, HasNumber, IsSoundField, Known, Moves}
use Rattle.cvc_field.proofs.Trails.{value_in-word_at, same_place, index_within, covers_each_more, covers-append, quiet-append, gave-append_left, gave-append_right, gave_one, same_number, other_number, elem_within, somewhere_set}

-- what the step saw and gave is covered afterwards
entry_covers : (c : Network) (m : Machine) (k : ℕ) (i : Intent) (a : Actor) (r : ℕ) → length m.bounds ≡ width c → IsPlace c (place_of c i a) → value_in c (place_of c i a) r ≡ found m (place_of c i a)
    → Covers c (step_by c m k i a).bounds (entry_of c i a r)
entry_covers c m k (Read j) a r long inside back = let b : ℕ = read_place (device_of c (run_of a)) j in let more = bounds_widen c m k (Read j) a b in omega (arith, back)
entry_covers c m k (Widen j) a r long inside back = let b : ℕ = target_place (device_of c (run_of a)) j in let x : ℕ = slice_index m.bounds b in let y : ℕ = offer c (run_of a) j in
    let in_list : b < length m.bounds = omega arith in let now : slice_index (set m.bounds b (max x y)) b ≡ max x y = get_or-set_same m.bounds b (max x y) 0 in_list in (omega (arith, back), omega arith)
entry_covers c m k (Peek b) a r long inside back = let more = bounds_widen c m k (Peek b) a b in omega (arith, back)
entry_covers c m k TakeCredit a r long inside back = tt
entry_covers c m k Queue a r long inside back = tt
entry_covers c m k (Claim d) a r long inside back = tt
entry_covers c m k Release a r long inside back = tt
entry_covers c m k GiveCredit a r long inside back = tt
entry_covers c m k AskCount a r long inside back = tt
entry_covers c m k (LookAt d) a r long inside back = tt

-- a step that read a count of 0 found it so
entry_quiet : (c : Network) (m : Machine) (i : Intent) (a : Actor) (r : ℕ) → value_in c (place_of c i a) r ≡ found m (place_of c i a) → counted_zero (entry_of c i a r) ≡ true → m.count ≡ 0
entry_quiet c m (Read j) a r back z = absurd (true≢false (sym z))
entry_quiet c m (Widen j) a r back z = absurd (true≢false (sym z))
entry_quiet c m TakeCredit a r back z = absurd (true≢false (sym z))
entry_quiet c m Queue a r back z = absurd (true≢false (sym z))
entry_quiet c m (Claim d) a r back z = absurd (true≢false (sym z))
entry_quiet c m Release a r back z = absurd (true≢false (sym z))
entry_quiet c m GiveCredit a r back z = absurd (true≢false (sym z))
entry_quiet c m AskCount a r back z = sym back ∙ eqb-true r 0 z
entry_quiet c m (LookAt d) a r back z = absurd (true≢false (sym z))
entry_quiet c m (Peek b) a r back z = absurd (true≢false (sym z))

or-false : (b : Bool) → (b || false) ≡ true → b ≡ true
or-false true h = refl
or-false false h = h

module _ (hands : ℕ) (s : State (Unit {0}) View) (id : ℕ) (v : View) (i : Intent) (r : ℕ) (h : IsSoundField v.circuit hands s) (at : get_elem? s.views id ≡ some v) (live : v.spent ≡ false)
    (inside : IsPlace v.circuit (place_of v.circuit i v.actor)) (r_is : r ≡ word_at v.circuit (place_of v.circuit i v.actor) (found h.machine (place_of v.circuit i v.actor)))
    (al : IsAllowed v.circuit i v.actor (found h.machine (place_of v.circuit i v.actor))) where
  abbrev c : Network
  c = v.circuit

  abbrev m : Machine
  m = h.machine

  abbrev q : Place
  q = place_of c i v.actor

  abbrev x : ℕ
  x = found m q

  abbrev n : ℕ
  n = new_word c i v.actor x

  abbrev m' : Machine
  m' = step_by c m v.first i v.actor

  abbrev w : View
  w = advance i v r

  abbrev hs : List Happening
  hs = Stepped v.first i r ∷ h.history

  abbrev trails : ℕ → List Entry
  trails = trail_in c hands h.history

  abbrev trails' : ℕ → List Entry
  trails' = trail_in c hands hs

  fit : ViewFits c hands m trails h.owner id v
  fit = h.each id v at live

  at_replay : actor_at (replay c hands h.history) v.first ≡ v.actor
  at_replay = ap (λ (z : Machine). actor_at z v.first) (sym h.replayed) ∙ fit.actor

  here : v.first < length m.actors
  here = let f = fit in let a = f.within in let b = f.some_number in let d = h.actors in omega arith

  back : value_in c q r ≡ x
  back = ap (value_in c q) r_is ∙ value_in-word_at c m h.range h.sound q

  stays : m.count ≡ 0 → m'.count ≡ 0
  stays = λ none. (step_stays c m h.sound none v.first i v.actor fit.actor al).2 ∙ none

  mine : ViewFits c hands m' trails' h.owner id w
  unfolding advance
  mine = let f = fit in record {
    some_number = f.some_number;
    within = f.within;
    owns = f.owns;
    actor = get_or-set_same m.actors v.first (new_actor c i v.actor x) Absent here ∙ ap (new_actor c i v.actor) (sym back);
    told = (λ k. f.told k ++ entry_of c i (sym at_replay k) r ∷ []) ∙ sym (same_number v.first (trails v.first ++ entry_of c i (actor_at (replay c hands h.history) v.first) r ∷ []) (trails v.first));
    covers = covers-append c m'.bounds v.trail (entry_of c i v.actor r ∷ []) (covers_each_more c m.bounds m'.bounds (bounds_widen c m v.first i v.actor) v.trail f.covers)
        (entry_covers c m v.first i v.actor r h.sound.in_range.bounds.every_bound inside back, tt);
    quiet = λ z. stays (⊎_elim f.quiet (λ (t : is_quiet (entry_of c i v.actor r ∷ []) ≡ true). entry_quiet c m i v.actor r back (or-false (counted_zero (entry_of c i v.actor r)) t)) (quiet-append v.trail (entry_of c i v.actor r ∷ []) z));
  }

  others : (j : ℕ) (u : View) → j ≢ id → ViewFits c hands m trails h.owner j u → ViewFits c hands m' trails' h.owner j u
  others j u apart old = let f = fit in
      let first_is : h.owner v.first ≡ id = (let p = f.some_number in f.owns v.first (omega arith) (omega arith)) in
      let other_is : h.owner u.first ≡ j = (let p = old.some_number in old.owns u.first (omega arith) (omega arith)) in
      let elsewhere : u.first ≢ v.first = (λ e. apart (sym other_is ∙ (ap h.owner e ∙ first_is))) in record {
        some_number = old.some_number;
        within = old.within;
        owns = old.owns;
        actor = get_or-set_other m.actors v.first u.first (new_actor c i v.actor x) Absent elsewhere ∙ old.actor;
        told = old.told ∙ sym (other_number u.first v.first (trails v.first ++ entry_of c i (actor_at (replay c hands h.history) v.first) r ∷ []) (trails u.first) elsewhere);
        covers = covers_each_more c m.bounds m'.bounds (bounds_widen c m v.first i v.actor) u.trail old.covers;
        quiet = λ z. stays (old.quiet z);
      }

  numbered : (k : ℕ) → k ≢ v.first → (u : View) → HasNumber m k u → HasNumber m' k u
  numbered k other u z = record {
    above = z.above;
    below = z.below;
    only_first = λ p. z.only_first (subst IsPresent (get_or-set_other m.actors v.first k (new_actor c i v.actor x) Absent other) p);
  }

  there : get_elem? (set s.views id w) id ≡ some w
  there = set_here s.views id w (elem_within s.views id v at)

  widened : (b j : ℕ) → i ≡ Widen j → b ≡ target_place (device_of c (run_of v.actor)) j → slice_index m'.bounds b ≡ offer c (run_of v.actor) j → gave b (slice_index m'.bounds b) (entry_of c i v.actor r ∷ []) ≡ true
  widened b j is to value = subst (λ (z : Intent). gave b (slice_index m'.bounds b) (entry_of c z v.actor r ∷ []) ≡ true) (sym is)
      (subst (λ (y : ℕ × ℕ). gave y.0 y.1 (Gave (target_place (device_of c (run_of v.actor)) j) (offer c (run_of v.actor) j) r ∷ []) ≡ true) (λ k. (sym to k, sym value k))
      (gave_one (target_place (device_of c (run_of v.actor)) j) (offer c (run_of v.actor) j) r))

  pub moved_keeps : (cs : List (ℕ × Unit {0})) → IsSoundField c hands (stepped s (word_index c q) (word_at c q n) id cs w keeps)
  unfolding advance
  moved_keeps cs = let a' : Actor = new_actor c i v.actor x in record {
    history = hs;
    happened = (h.happened, subst (λ (t : Machine × Actor). IsAllowed c i t.1 (found t.0 (place_of c i t.1)) × (r ≡ word_at c (place_of c i t.1) (found t.0 (place_of c i t.1)))) (λ k. (h.replayed k, sym at_replay k)) (al, r_is));
    machine = m';
    replayed = λ k. step_by c (h.replayed k) v.first i (sym at_replay k);
    range = h.range;
    sound = core_keeps c m v.first i v.actor h.sound here fit.actor al;
    actors = length-set m.actors v.first a' ∙ h.actors;
    words = length-set s.words (word_index c q) (word_at c q n) ∙ h.words;
    word_is = λ p isp. dite (ℕ_discrete (word_index c p) (word_index c q))
        (λ e. let same : p ≡ q = same_place c p q isp inside e in
        subst (λ (z : Place). slice_index (set s.words (word_index c q) (word_at c q n)) (word_index c z) ≡ word_at c z (found m' z)) (sym same)
        (get_or-set_same s.words (word_index c q) (word_at c q n) 0 (let l = h.words in let k = index_within c q inside in omega arith)
        ∙ ap (word_at c q) (sym (found-put_same m q n v.first a'
        (λ b is. let t : b < width c = subst (IsPlace c) is inside in let l = h.sound.in_range.bounds.every_bound in omega arith)
        (λ d is. let t : d < devices c = subst (IsPlace c) is inside in let l = h.sound.form.every_device in omega arith)))))
        (λ ne. get_or-set_other s.words (word_index c q) (word_index c p) (word_at c q n) 0 ne ∙ (h.word_is p isp ∙ ap (word_at c p) (sym (found-put_other m q p n v.first a' (λ e. ne (ap (word_index c) e))))));
    owner = h.owner;
    each = λ j u e l. ⊎_elim (λ (t : (j ≡ id) × (w ≡ u)). subst (λ (z : ℕ × View). ViewFits c hands m' trails' h.owner z.0 z.1) (λ k. (sym t.0 k, t.1 k)) mine)
        (λ (t : (j ≢ id) × (get_elem? s.views j ≡ some u)). others j u t.0 (h.each j u t.1 l)) (at_set s.views id j w u e);
    dealt = λ k lt. dite (ℕ_discrete k v.first)
        (λ same. (id, w, there, live, let n = fit.some_number in record { above = omega arith; below = omega arith; only_first = λ p. sym same }))
        (λ other. somewhere_set (HasNumber m k) (HasNumber m' k) s.views id v w at live (λ z. let y = numbered k other v z in record { above = y.above; below = y.below; only_first = y.only_first }) (numbered k other) (h.dealt k lt));
    given = λ b free known. ⊎_elim
        (λ (same : slice_index m'.bounds b ≡ slice_index m.bounds b).
        somewhere_set (λ u. gave b (slice_index m.bounds b) u.trail ≡ true) (λ u. gave b (slice_index m'.bounds b) u.trail ≡ true) s.views id v w at live
        (λ z. subst (λ (y : ℕ). gave b y (v.trail ++ entry_of c i v.actor r ∷ []) ≡ true) (sym same) (gave-append_left b (slice_index m.bounds b) v.trail (entry_of c i v.actor r ∷ []) z))
        (λ u z. subst (λ (y : ℕ). gave b y u.trail ≡ true) (sym same) z)
        (h.given b free (omega arith)))
        (λ (t : (j : ℕ) × (i ≡ Widen j) × (b ≡ target_place (device_of c (run_of v.actor)) j) × (slice_index m'.bounds b ≡ offer c (run_of v.actor) j) × (slice_index m.bounds b ≤ slice_index m'.bounds b)).
        (id, w, there, live, gave-append_right b (slice_index m'.bounds b) v.trail (entry_of c i v.actor r ∷ []) (widened b t.0 t.1 t.2 t.3)))
        (bound_moves c m v.first i v.actor b);
  }

-- the word of a bound of a sound state
pub bound_word : (c : Network) (m : Machine) → IsInMillion c → Sound c m → (b : ℕ) → IsBoundWord c (b % 2) (word_of c (b % 2) (slice_index m.bounds b))
bound_word c m range ok b = let most : slice_index m.bounds b ≤ widest c = ok.in_range.bounds.in_range b in
    let back : reach_in c (b % 2) (word_of c (b % 2) (slice_index m.bounds b)) ≡ slice_index m.bounds b = reach_in_word c range (b % 2) (slice_index m.bounds b) (omega arith) most in
    record { range = range; reach = omega arith; back = ap (word_of c (b % 2)) back }

-- what a step may know of the word that it finds
is_known : (c : Network) (hands : ℕ) (m : Machine) (k : ℕ) (a : Actor) → IsInMillion c → Sound c m → length m.actors ≡ hands → k < length m.actors → actor_at m k ≡ a → (p : Place) → Known c hands a p (word_at c p (found m p))
is_known c hands m k a range ok long here e CountWord = let most = count-le c m ok in let least = credits-le-count c m k ok here in let same : credits_of (actor_at m k) ≡ credits_of a = ap credits_of e in (omega arith, omega arith)
is_known c hands m k a range ok long here e (BoundWord b) = bound_word c m range ok b
is_known c hands m k a range ok long here e (MarkWord d) = ok.form.each_mark d

saw_at_most : (c : Network) (f : List ℕ) (b : ℕ) (e : Entry) → Covers c f e → SawAtMost c b (slice_index f b) e
saw_at_most c f b (Loaded d r) h = λ same. subst (λ (z : ℕ). reach_in c (d % 2) r ≤ slice_index f z) same h
saw_at_most c f b (Gave d y r) h = λ same. subst (λ (z : ℕ). (reach_in c (d % 2) r ≤ slice_index f z) × (y ≤ slice_index f z)) same h
saw_at_most c f b (Added r) h = tt
saw_at_most c f b (Queued d r) h = tt
saw_at_most c f b (Took d r) h = tt
saw_at_most c f b (Dropped d r) h = tt
saw_at_most c f b (Subtracted r) h = tt
saw_at_most c f b (Counted r) h = tt
saw_at_most c f b (Looked d r) h = tt

each_at_most : (c : Network) (f : List ℕ) (b : ℕ) (es : List Entry) → CoversEach c f es → EachAtMost c b (slice_index f b) es
each_at_most c f b [] h = tt
each_at_most c f b (e ∷ es) h = (saw_at_most c f b e h.0, each_at_most c f b es h.1)

is_told : (c : Network) (m : Machine) (es : List Entry) → IsInMillion c → Sound c m → CoversEach c m.bounds es → (is_quiet es ≡ true → m.count ≡ 0) → (q : Place) → Told c es q (word_at c q (found m q))
is_told c m es range ok covers quiet CountWord = quiet
is_told c m es range ok covers quiet (BoundWord b) =
    let back : reach_in c (b % 2) (word_of c (b % 2) (slice_index m.bounds b)) ≡ slice_index m.bounds b = reach_in_word c range (b % 2) (slice_index m.bounds b) (omega arith) (ok.in_range.bounds.in_range b) in (
      bound_word c m range ok b,
      subst (λ (x : ℕ). EachAtMost c b x es) (sym back) (each_at_most c m.bounds b es covers),
      subst (λ (x : ℕ). WithinClosed c b x) (sym back) (λ g is closed. ok.within g is closed b),
    )
is_told c m es range ok covers quiet (MarkWord d) = tt

pub step_keeps : (hands slots id : ℕ) (me : Me (Unit {0}) View) (word : ℕ) (f : ℕ → ℕ) (means : ℕ → Intent) → me.0.spent ≡ false → Moves me.0.circuit hands me.0 word f means
    → Allows (IsSoundField me.0.circuit hands) slots id me word f (λ r after. (after ≡ (advance (means r) me.0 r, me.1)) × Tells (means r) me.0 r)
step_keeps hands slots id me word f means live moves s h homes at small =
    let v : View = me.0 in let c : Network = v.circuit in let q : Place = moves.place in let r : ℕ = slice_index s.words word in let i : Intent = means r in
    let e : place_of c i v.actor ≡ q = moves.same_place r in
    let r_is : r ≡ word_at c q (found h.machine q) = ap (slice_index s.words) moves.at ∙ h.word_is q moves.is_place in
    let fit : ViewFits c hands h.machine (trail_in c hands h.history) h.owner id v = h.each id v at live in
    let here : v.first < length h.machine.actors = (let a = fit.within in let b = fit.some_number in let d = h.actors in omega arith) in
    let known : Known c hands v.actor q r = subst (Known c hands v.actor q) (sym r_is) (is_known c hands h.machine v.first v.actor h.range h.sound h.actors here fit.actor q) in
    let value : value_in c q r ≡ found h.machine q = ap (value_in c q) r_is ∙ value_in-word_at c h.machine h.range h.sound q in
    let al : IsAllowed c i v.actor (found h.machine (place_of c i v.actor)) = subst (λ (z : ℕ). IsAllowed c i v.actor z) (value ∙ ap (found h.machine) (sym e)) (moves.allowed r known) in
    let becomes : f r ≡ word_at c q (new_word c i v.actor (found h.machine q)) = moves.becomes r known ∙ ap (λ (z : ℕ). word_at c q (new_word c i v.actor z)) value in
    let done : IsSoundField c hands (stepped s (word_index c (place_of c i v.actor)) (word_at c (place_of c i v.actor) (new_word c i v.actor (found h.machine (place_of c i v.actor)))) id me.1 (advance i v r) keeps) =
    moved_keeps hands s id v i r h at live (subst (IsPlace c) (sym e) moves.is_place) (subst (λ (p : Place). r ≡ word_at c p (found h.machine p)) (sym e) r_is) al me.1 in (
      advance i v r,
      keeps,
      tt,
      subst (λ (z : ℕ × ℕ). IsSoundField c hands (stepped s z.0 z.1 id me.1 (advance i v r) keeps))
          (λ k. ((ap (word_index c) e ∙ sym moves.at) k, (ap (λ (p : Place). word_at c p (new_word c i v.actor (found h.machine p))) e ∙ sym becomes) k)) done,
      (refl, subst (λ (p : Place). Told c v.trail p r) (sym e) (subst (Told c v.trail q) (sym r_is) (is_told c h.machine v.trail h.range h.sound fit.covers fit.quiet q))),
    )

-- the rule allows each step that is meant
pub asks : (f : Field) (t : Seat (Unit {0}) View) → IsSeatOf f t → (word : ℕ) (change : ℕ → ℕ) (means : ℕ → Intent) → Moves f.circuit.now f.table.shared.key.hands t.me.0 word change means → MayMove f t word change means
asks f t seat word change means moves = let c : Network = f.circuit.now in let hands : ℕ = f.table.shared.key.hands in let inside = index_within c moves.place moves.is_place in let at = moves.at in let sized = f.sized in (
  omega arith,
  subst (λ (z : Network). Allows (IsSoundField z hands) f.table.shared.table_id.slots t.id t.me word change (λ r after. (after ≡ (advance (means r) t.me.0 r, t.me.1)) × Tells (means r) t.me.0 r)) (seat.2 ∙ sym f.about)
      (step_keeps hands f.table.shared.table_id.slots t.id t.me word change means seat.3 (subst (λ (z : Network). Moves z hands t.me.0 word change means) (sym seat.2) moves)),
)

-- the seat is the field's after a step
pub still_seated : (f : Field) (t u : Seat (Unit {0}) View) (i : Intent) (r : ℕ) → IsSeatOf f t → u.table_id ≡ t.table_id → u.me ≡ (advance i t.me.0 r, t.me.1) → IsSeatOf f u
unfolding advance
still_seated f t u i r seat id is = (id ∙ seat.0, ap (λ (z : Me (Unit {0}) View). z.1) is ∙ seat.1, ap (λ (z : Me (Unit {0}) View). z.0.circuit) is ∙ seat.2, ap (λ (z : Me (Unit {0}) View). z.0.spent) is ∙ seat.3)
