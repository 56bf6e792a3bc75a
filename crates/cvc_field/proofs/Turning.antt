-- What turns add to the trail of a hand.
use Rattle.std.proofs.Common.{◌≡◌, ◌≢◌, ℕ, ◌+◌, ◌<◌, ◌≤◌, min, max, Bool, true, false, cond, ◌||◌, ◌==◌, MatchBool, List, [], ◌∷◌, ◌++◌, take, arith, ap, refl, sym, subst, ◌∙◌, append_assoc, append-nil, eq-eqb, eqb-true, ne_eqb, true≢false, ◌⊎◌, inl, inr, ⊎_elim}
use mathlib.Core.Logic.{dite}
use native.Mathlib.Decide.{dec_lt}
use Rattle.cvc_base.specs.declared.ids.DevId.{DevId}
use Rattle.atomic_table.specs.declared.shared.Seat.{Seat}
use Rattle.cvc_law.specs.Network.{Network, devices}
use Rattle.cvc_core.specs.declared.actor.Actor.{Actor}
use Rattle.cvc_core.specs.declared.actor.Actor.TheVariants.{Idle, Running}
use Rattle.cvc_core.specs.declared.actor.Intent.{Intent}
use Rattle.cvc_core.specs.declared.actor.Intent.TheVariants.{Read, Widen, TakeCredit, Queue, Claim, Release, GiveCredit, AskCount, LookAt, Peek}
use Rattle.cvc_core.specs.Steps.{begun}
use Rattle.cvc_field.specs.declared.view.View.{View}
use Rattle.cvc_field.specs.declared.view.Entry.{Entry}
use Rattle.cvc_field.specs.declared.view.Entry.TheVariants.{Loaded, Gave, Added, Queued, Took, Dropped, Subtracted, Counted, Looked}
use Rattle.cvc_field.specs.declared.turn.Turn.{Turn}
use Rattle.cvc_field.specs.declared.turn.Turn.TheVariants.{Worked as TurnWorked, Idle as TurnIdle, Quiet as TurnQuiet}
use Rattle.cvc_field.specs.declared.turn.TurnOn.{TurnOn}
use Rattle.cvc_field.specs.declared.turn.TurnOn.TheVariants.{Worked, Missed}
use Rattle.cvc_field.specs.Trail.{entry_of, counted_zero, is_quiet}
use Rattle.cvc_field.specs.Views.{advance, take_or_look}
use Rattle.cvc_field.specs.Steps.{Step, next_actor, AreAllowed, actor_after, entries, IsOfRun, AreOfRun, newly_queued, went}
use Rattle.cvc_field.specs.Runs.{GoesNoting}
use Rattle.cvc_field.specs.Hands.{HandView, hand_of, idle_view, IsWithin}
use Rattle.cvc_field.specs.Turns.{IsRunOf, AreLooks, is_away, was_away, IsUpTo, IsDevice, IsTurn, IsTurnOn, IsExchange, IsScan, grown, quiet_of, tray_of}
use Rattle.cvc_field.proofs.Trails.{is_quiet-append}
use Rattle.cvc_field.proofs.Going.{newly_queued-append}
use Rattle.cvc_field.proofs.Parts.{idle_seat}

-- ---- looks
looks-append : (P : ℕ → Type 0) (es ds : List Entry) → AreLooks P es → AreLooks P ds → AreLooks P (es ++ ds)
looks-append P [] ds h k = k
looks-append P (Looked d r ∷ es) ds h k = (h.0, looks-append P es ds h.1 k)
looks-append P (Loaded b r ∷ es) ds h k = absurd h
looks-append P (Gave b x r ∷ es) ds h k = absurd h
looks-append P (Added r ∷ es) ds h k = absurd h
looks-append P (Queued d r ∷ es) ds h k = absurd h
looks-append P (Took d r ∷ es) ds h k = absurd h
looks-append P (Dropped d r ∷ es) ds h k = absurd h
looks-append P (Subtracted r ∷ es) ds h k = absurd h
looks-append P (Counted r ∷ es) ds h k = absurd h

looks_more : (P Q : ℕ → Type 0) → ((d : ℕ) → P d → Q d) → (es : List Entry) → AreLooks P es → AreLooks Q es
looks_more P Q more [] h = tt
looks_more P Q more (Looked d r ∷ es) h = (more d h.0, looks_more P Q more es h.1)
looks_more P Q more (Loaded b r ∷ es) h = absurd h
looks_more P Q more (Gave b x r ∷ es) h = absurd h
looks_more P Q more (Added r ∷ es) h = absurd h
looks_more P Q more (Queued d r ∷ es) h = absurd h
looks_more P Q more (Took d r ∷ es) h = absurd h
looks_more P Q more (Dropped d r ∷ es) h = absurd h
looks_more P Q more (Subtracted r ∷ es) h = absurd h
looks_more P Q more (Counted r ∷ es) h = absurd h

looks_news : (P : ℕ → Type 0) (es : List Entry) → AreLooks P es → newly_queued es ≡ []
looks_news P [] h = refl
looks_news P (Looked d r ∷ es) h = looks_news P es h.1
looks_news P (Loaded b r ∷ es) h = absurd h
looks_news P (Gave b x r ∷ es) h = absurd h
looks_news P (Added r ∷ es) h = absurd h
looks_news P (Queued d r ∷ es) h = absurd h
looks_news P (Took d r ∷ es) h = absurd h
looks_news P (Dropped d r ∷ es) h = absurd h
looks_news P (Subtracted r ∷ es) h = absurd h
looks_news P (Counted r ∷ es) h = absurd h

looks_quiet : (P : ℕ → Type 0) (es : List Entry) → AreLooks P es → is_quiet es ≡ false
looks_quiet P [] h = refl
looks_quiet P (Looked d r ∷ es) h = looks_quiet P es h.1
looks_quiet P (Loaded b r ∷ es) h = absurd h
looks_quiet P (Gave b x r ∷ es) h = absurd h
looks_quiet P (Added r ∷ es) h = absurd h
looks_quiet P (Queued d r ∷ es) h = absurd h
looks_quiet P (Took d r ∷ es) h = absurd h
looks_quiet P (Dropped d r ∷ es) h = absurd h
looks_quiet P (Subtracted r ∷ es) h = absurd h
looks_quiet P (Counted r ∷ es) h = absurd h

pub tray_after : (P : ℕ → Type 0) (es : List Entry) (t : List DevId) → AreLooks P es → t ≡ tray_of es → t ≡ []
tray_after P es t h e = e ∙ ap (take 32) (looks_news P es h)

-- looks before other steps leave the tray
tray_behind : (P : ℕ → Type 0) (es ds : List Entry) → AreLooks P es → tray_of (es ++ ds) ≡ tray_of ds
tray_behind P es ds h = ap (take 32) (newly_queued-append es ds ∙ ap (λ (l : List DevId). l ++ newly_queued ds) (looks_news P es h))

or_true : (b : Bool) → (b || true) ≡ true
or_true true = refl
or_true false = refl

or_assoc : (a b c : Bool) → (a || (b || c)) ≡ ((a || b) || c)
or_assoc true b c = refl
or_assoc false b c = refl

was_away-append : (d : ℕ) (es ds : List Entry) → was_away d (es ++ ds) ≡ (was_away d es || was_away d ds)
was_away-append d [] ds = refl
was_away-append d (e ∷ es) ds = ap (λ (b : Bool). is_away d e || b) (was_away-append d es ds) ∙ or_assoc (is_away d e) (was_away d es) (was_away d ds)

away_left : (d : ℕ) (es ds : List Entry) → was_away d es ≡ true → was_away d (es ++ ds) ≡ true
away_left d es ds h = was_away-append d es ds ∙ ap (λ (b : Bool). b || was_away d ds) h

away_right : (d : ℕ) (es ds : List Entry) → was_away d ds ≡ true → was_away d (es ++ ds) ≡ true
away_right d es ds h = was_away-append d es ds ∙ (ap (λ (b : Bool). was_away d es || b) h ∙ or_true (was_away d es))

pub away_here : (d r : ℕ) → r ≢ 1 → was_away d (Looked d r ∷ []) ≡ true
away_here d r ne = rw (eq-eqb d d refl, ne_eqb r 1 ne) refl

-- ---- views
grown_nothing : (v : View) → v ≡ grown v []
grown_nothing v = λ k. record { circuit = v.circuit; spent = v.spent; first = v.first; numbers = v.numbers; actor = v.actor; trail = sym (append-nil v.trail) k }

grouped : (a b d : List Entry) → (a ++ b) ++ d ≡ a ++ (b ++ d)
grouped a b d = simp append_assoc

grown_twice : (u v w : View) (es ds : List Entry) → v ≡ grown u es → w ≡ grown v ds → w ≡ grown u (es ++ ds)
grown_twice u v w es ds a b = b ∙ (ap (λ (z : View). grown z ds) a ∙ (λ k. record { circuit = u.circuit; spent = u.spent; first = u.first; numbers = u.numbers; actor = u.actor; trail = grouped u.trail es ds k }))

pub grown_idle : (v w : View) (es : List Entry) → w ≡ grown v es → v.actor ≡ Idle 0 → w.actor ≡ Idle 0
grown_idle v w es a idle = ap (λ (z : View). z.actor) a ∙ idle

-- ---- an exchange
exchanged_at : (c : Network) (d : DevId) (r : ℕ) (v w : View) (b : Bool) → (r == 1) ≡ b → v.actor ≡ Idle 0 → w ≡ advance (cond b (Claim d) (LookAt d)) v r
    → MatchBool b ((w.actor ≡ Running (begun d.0)) × (w ≡ advance (Claim d) v 1)) ((r ≢ 1) × (w ≡ grown v (Looked d.0 r ∷ [])))
unfolding advance
exchanged_at c d r v w true e idle step = (ap (λ (u : View). u.actor) step, step ∙ ap (λ (x : ℕ). advance (Claim d) v x) (eqb-true r 1 e))
exchanged_at c d r v w false e idle step = ((λ same. true≢false (sym (eq-eqb r 1 same) ∙ e)), step)

module _ (c : Network) (d : DevId) (r : ℕ) (v w : View) (idle : v.actor ≡ Idle 0) (step : w ≡ advance (take_or_look d r) v r) where
  both : MatchBool (r == 1) ((w.actor ≡ Running (begun d.0)) × (w ≡ advance (Claim d) v 1)) ((r ≢ 1) × (w ≡ grown v (Looked d.0 r ∷ [])))
  both = exchanged_at c d r v w (r == 1) refl idle step

  pub was_taken : r ≡ 1 → (w.actor ≡ Running (begun d.0)) × (w ≡ advance (Claim d) v 1)
  was_taken is = subst (λ (b : Bool). MatchBool b ((w.actor ≡ Running (begun d.0)) × (w ≡ advance (Claim d) v 1)) ((r ≢ 1) × (w ≡ grown v (Looked d.0 r ∷ [])))) (eq-eqb r 1 is) both

  pub was_missed : r ≢ 1 → (r ≢ 1) × (w ≡ grown v (Looked d.0 r ∷ []))
  was_missed apart = subst (λ (b : Bool). MatchBool b ((w.actor ≡ Running (begun d.0)) × (w ≡ advance (Claim d) v 1)) ((r ≢ 1) × (w ≡ grown v (Looked d.0 r ∷ [])))) (ne_eqb r 1 apart) both

pub looked : (d : DevId) (r : ℕ) (v w : View) → w ≡ advance (LookAt d) v r → w ≡ grown v (Looked d.0 r ∷ [])
unfolding advance
looked d r v w step = step

pub counted : (r : ℕ) (v w : View) → w ≡ advance AskCount v r → w ≡ grown v (Counted r ∷ [])
unfolding advance
counted r v w step = step

-- ---- a whole run
module _ (c : Network) (d : DevId) (v m w : View) (old new : List DevId) (own : v.circuit ≡ c) (lt : d.0 < devices c) (idle : v.actor ≡ Idle 0) (step : m ≡ advance (Claim d) v 1) (empty : old ≡ []) (ends : w.actor ≡ Idle 0) (t : GoesNoting m w old new) where
  abbrev ss : List Step
  ss = t.1.steps

  abbrev claim : Step
  claim = record { intent = Claim d; word = 1 }

  -- the view after the device was taken
  after_claim : m ≡ record { circuit = c; spent = v.spent; first = v.first; numbers = v.numbers; actor = Running (begun d.0); trail = v.trail ++ Took d.0 1 ∷ [] }
  unfolding advance
  after_claim = step ∙ (λ k. record { circuit = own k; spent = v.spent; first = v.first; numbers = v.numbers; actor = Running (begun d.0); trail = v.trail ++ Took d.0 1 ∷ [] })

  ended : w ≡ record { circuit = c; spent = v.spent; first = v.first; numbers = v.numbers; actor = actor_after c (Running (begun d.0)) ss; trail = (v.trail ++ Took d.0 1 ∷ []) ++ entries c (Running (begun d.0)) ss }
  ended = t.1.view ∙ ap (λ (z : View). went z ss) after_claim

  idle_end : actor_after c (Running (begun d.0)) ss ≡ Idle 0
  idle_end = sym (ap (λ (z : View). z.actor) ended) ∙ ends

  abbrev run : List Entry
  run = entries c (Idle 0) (claim ∷ ss)

  whole : IsRunOf c d run
  whole = record {
    steps = ss;
    only_run = t.1.of_run;
    allowed = ((lt, refl, refl), subst (λ (z : View). AreAllowed z.circuit z.actor ss) after_claim t.1.allowed);
    ends = idle_end;
    are = refl;
  }

  grew : w ≡ grown v run
  grew = ended ∙ (λ k. record { circuit = sym own k; spent = v.spent; first = v.first; numbers = v.numbers; actor = (idle_end ∙ sym idle) k; trail = grouped v.trail (Took d.0 1 ∷ []) (entries c (Running (begun d.0)) ss) k })

  noted : new ≡ tray_of run
  noted = t.2 ∙ (λ k. take 32 (empty k ++ (sym t.1.news ∙ ap (λ (z : View). newly_queued (entries z.circuit z.actor ss)) after_claim) k))

  pub was_run : (es : List Entry) × (w ≡ grown v es) × IsExchange c d true es × (new ≡ tray_of es)
  was_run = (run, grew, whole, noted)

-- ---- scans
-- the devices from one number up to another
abbrev Among : ℕ → ℕ → ℕ → Type 0
Among from to e = (from ≤ e) × (e < to)

abbrev UpTo : ℕ → ℕ → ℕ → Type 0
UpTo from d e = (from ≤ e) × (e ≤ d)

pub nothing_scanned : (c : Network) (v : View) (from to : ℕ) (t : List DevId) → to ≤ from → t ≡ [] → (es : List Entry) × (v ≡ grown v es) × IsScan c from to false es × (t ≡ tray_of es)
nothing_scanned c v from to t past e = ([], grown_nothing v, (tt, λ d a b. absurd (omega arith)), e)

abbrev Scanned : Network → ℕ → ℕ → Bool → View → View → List DevId → Type 0
Scanned c from to b v w t = (es : List Entry) × (w ≡ grown v es) × IsScan c from to b es × (t ≡ tray_of es)

pub scan_empty : (c : Network) (from to : ℕ) (v w : View) (t : List DevId) → Scanned c from to false v w t → t ≡ []
scan_empty c from to v w t s = tray_after (Among from to) s.0 t s.2.0 s.3

pub scan_idle : (c : Network) (from to : ℕ) (b : Bool) (v w : View) (t : List DevId) → Scanned c from to b v w t → v.actor ≡ Idle 0 → w.actor ≡ Idle 0
scan_idle c from to b v w t s idle = grown_idle v w s.0 s.1 idle

-- a scan that was to go on as far as `end`, and had come there
pub scan_shorter : (c : Network) (from to end : ℕ) (v w : View) (t : List DevId) → end ≤ to → to ≤ max from end → Scanned c from to false v w t → Scanned c from end false v w t
scan_shorter c from to end v w t le ge s =
    (s.0, s.1, (looks_more (Among from to) (Among from end) (λ e h. let low = h.0 in let high = h.1 in (low, omega arith)) s.0 s.2.0, λ d above below. s.2.1 d above (omega arith)), s.3)

-- the second scan begins where the first ends
pub scanned_on : (c : Network) (from mid to : ℕ) (u v w : View) (s t : List DevId) → from ≤ mid → mid ≤ to → Scanned c from mid false u v s → Scanned c mid to false v w t → Scanned c from to false u w t
scanned_on c from mid to u v w s t le more a b = let es : List Entry = a.0 in let ds : List Entry = b.0 in (
  es ++ ds,
  grown_twice u v w es ds a.1 b.1,
  (
    looks-append (Among from to) es ds (looks_more (Among from mid) (Among from to) (λ e h. let high = h.1 in (h.0, omega arith)) es a.2.0) (looks_more (Among mid to) (Among from to) (λ e h. let low = h.0 in (omega arith, h.1)) ds b.2.0),
    λ d above below. dite (dec_lt d mid) (λ lt. away_left d es ds (a.2.1 d above lt)) (λ ge. away_right d es ds (b.2.1 d (omega arith) below)),
  ),
  b.3 ∙ sym (tray_behind (Among from mid) es ds a.2.0),
)

pub scanned_run : (c : Network) (from mid to : ℕ) (u v w : View) (s t : List DevId) → from ≤ mid → mid < to → Scanned c from mid false u v s → Scanned c mid (mid + 1) true v w t → Scanned c from to true u w t
scanned_run c from mid to u v w s t le within a b = let es : List Entry = a.0 in let ds : List Entry = b.0 in let r = b.2 in let d : ℕ = r.0.0 in let low = r.7 in let high = r.8 in (
  es ++ ds,
  grown_twice u v w es ds a.1 b.1,
  (
    r.0,
    es ++ r.1,
    r.2,
    ap (λ (l : List Entry). es ++ l) r.3 ∙ sym (grouped es r.1 r.2),
    looks-append (UpTo from d) es r.1 (looks_more (Among from mid) (UpTo from d) (λ e h. let below = h.1 in (h.0, omega arith)) es a.2.0) (looks_more (UpTo mid d) (UpTo from d) (λ e h. let above = h.0 in (omega arith, h.1)) r.1 r.4),
    λ e above below. away_left e es r.1 (a.2.1 e above (omega arith)),
    r.6,
    omega arith,
    omega arith,
  ),
  b.3 ∙ sym (tray_behind (Among from mid) es ds a.2.0),
)

-- a look and, where it found plain Queued, an exchange
pub look_away : (c : Network) (d : DevId) (r : ℕ) (v w : View) (t : List DevId) → r ≢ 1 → w ≡ grown v (Looked d.0 r ∷ []) → t ≡ [] → Scanned c d.0 (d.0 + 1) false v w t
look_away c d r v w t apart grew e =
    (Looked d.0 r ∷ [], grew, (((omega arith, omega arith), tt), λ i above below. subst (λ (n : ℕ). was_away n (Looked d.0 r ∷ []) ≡ true) (let same : d.0 ≡ i = omega arith in same) (away_here d.0 r apart)), e)

pub look_then : (c : Network) (d : DevId) (r : ℕ) (u v w : View) (t : List DevId) (b : Bool) → v ≡ grown u (Looked d.0 r ∷ []) → ((es : List Entry) × (w ≡ grown v es) × IsExchange c d b es × (t ≡ tray_of es)) → Scanned c d.0 (d.0 + 1) b u w t
look_then c d r u v w t true grew h = let es : List Entry = Looked d.0 r ∷ [] in (
  es ++ h.0,
  grown_twice u v w es h.0 grew h.1,
  (d, es, h.0, refl, ((omega arith, omega arith), tt), (λ e above below. absurd (omega arith)), h.2, omega arith, omega arith),
  h.3 ∙ sym (tray_behind (UpTo d.0 d.0) es h.0 ((omega arith, omega arith), tt)),
)
look_then c d r u v w t false grew h = let es : List Entry = Looked d.0 r ∷ [] in let more : List Entry = Looked d.0 h.2.0 ∷ [] in let same : h.0 ≡ more = h.2.2 in (
  es ++ more,
  grown_twice u v w es more grew (h.1 ∙ ap (grown v) same),
  (((omega arith, omega arith), ((omega arith, omega arith), tt)), λ i above below. away_right i es more (subst (λ (n : ℕ). was_away n more ≡ true) (let at : d.0 ≡ i = omega arith in at) (away_here d.0 h.2.0 h.2.1))),
  h.3 ∙ ap tray_of same,
)

-- ---- turns
abbrev Turned : Network → ℕ → Turn → View → View → List DevId → Type 0
Turned c first t v w tray = (es : List Entry) × (w ≡ grown v es) × IsTurn c first t es × (tray ≡ tray_of es)

-- the first scan ran a device
pub turn_first : (c : Network) (first n : ℕ) (u v : View) (t : List DevId) → n ≡ devices c → Scanned c first n true u v t → Turned c first TurnWorked u v t
turn_first c first n u v t sized a = let r = a.2 in let d : ℕ = r.0.0 in let low = r.7 in let high = r.8 in (
  a.0,
  a.1,
  (
    r.0,
    r.1,
    r.2,
    r.3,
    looks_more (UpTo first d) (IsUpTo c first d) (λ e h. let above = h.0 in let below = h.1 in (omega arith, dite (dec_lt e d) (λ lt. inl (inl (h.0, lt))) (λ ge. inr (omega arith)))) r.1 r.4,
    λ e inside before. ⊎_elim (λ (x : (first ≤ e) × (e < d)). r.5 e x.0 x.1) (λ (x : (d < first) × ((first ≤ e) ⊎ (e < d))). let past = x.0 in absurd (omega arith)) before,
    r.6,
  ),
  a.3,
)

-- the second one did
pub turn_second : (c : Network) (first n stop : ℕ) (u v w : View) (s t : List DevId) → n ≡ devices c → stop ≡ min first n → Scanned c first n false u v s → Scanned c 0 stop true v w t → Turned c first TurnWorked u w t
turn_second c first n stop u v w s t sized stops a b = let es : List Entry = a.0 in let ds : List Entry = b.0 in let r = b.2 in let d : ℕ = r.0.0 in let high = r.8 in let behind : d < first = omega arith in (
  es ++ ds,
  grown_twice u v w es ds a.1 b.1,
  (
    r.0,
    es ++ r.1,
    r.2,
    ap (λ (l : List Entry). es ++ l) r.3 ∙ sym (grouped es r.1 r.2),
    looks-append (IsUpTo c first d) es r.1 (looks_more (Among first n) (IsUpTo c first d) (λ e h. let inside = h.1 in (omega arith, inl (inr (behind, inl h.0)))) es a.2.0)
        (looks_more (UpTo 0 d) (IsUpTo c first d) (λ e h. let below = h.1 in (omega arith, dite (dec_lt e d) (λ lt. inl (inr (behind, inr lt))) (λ ge. inr (omega arith)))) r.1 r.4),
    λ e inside before. ⊎_elim (λ (x : (first ≤ e) × (e < d)). let above = x.0 in let below = x.1 in absurd (omega arith))
        (λ (x : (d < first) × ((first ≤ e) ⊎ (e < d))). ⊎_elim (λ (above : first ≤ e). away_left e es r.1 (a.2.1 e above (omega arith))) (λ (below : e < d). away_right e es r.1 (r.5 e (omega arith) below)) x.1) before,
    r.6,
  ),
  b.3 ∙ sym (tray_behind (Among first n) es ds a.2.0),
)

-- each device was away, and then the count was read
module _ (c : Network) (first n stop count : ℕ) (u v w z : View) (s t : List DevId) (sized : n ≡ devices c) (stops : stop ≡ min first n) (a : Scanned c first n false u v s) (b : Scanned c 0 stop false v w t) (read : z ≡ grown w (Counted count ∷ [])) where
  abbrev both_scans : List Entry
  both_scans = a.0 ++ b.0

  looks : AreLooks (IsDevice c) both_scans
  looks = looks-append (IsDevice c) a.0 b.0 (looks_more (Among first n) (IsDevice c) (λ e h. let inside = h.1 in omega arith) a.0 a.2.0) (looks_more (Among 0 stop) (IsDevice c) (λ e h. let inside = h.1 in omega arith) b.0 b.2.0)

  each_away : (d : ℕ) → d < devices c → was_away d both_scans ≡ true
  each_away d lt = dite (dec_lt d stop)
      (λ below. away_right d a.0 b.0 (b.2.1 d (omega arith) below))
      (λ above. away_left d a.0 b.0 (a.2.1 d (omega arith) (omega arith)))

  grew_all : z ≡ grown u (both_scans ++ Counted count ∷ [])
  grew_all = grown_twice u w z both_scans (Counted count ∷ []) (grown_twice u v w a.0 b.0 a.1 b.1) read

  tray_all : t ≡ tray_of (both_scans ++ Counted count ∷ [])
  tray_all = tray_after (Among 0 stop) b.0 t b.2.0 b.3 ∙ sym (tray_behind (IsDevice c) both_scans (Counted count ∷ []) looks)

  pub turn_idle : 0 < count → Turned c first TurnIdle u z t
  turn_idle more = (both_scans ++ Counted count ∷ [], grew_all, (both_scans, count, refl, looks, each_away, more), tray_all)

  pub turn_quiet : count ≡ 0 → Turned c first TurnQuiet u z t
  turn_quiet none = (both_scans ++ Counted count ∷ [], grew_all, (both_scans, ap (λ (n : ℕ). both_scans ++ Counted n ∷ []) none, looks, each_away), tray_all)

-- ---- what a turn tells of quiet
run_quiet : (c : Network) (a : Actor) (ss : List Step) → AreOfRun ss → is_quiet (entries c a ss) ≡ false
run_quiet c a [] h = refl
run_quiet c a (s ∷ ss) h = ap (λ (b : Bool). b || is_quiet (entries c (next_actor c a s) ss)) (no_count s.intent h.0) ∙ run_quiet c (next_actor c a s) ss h.1 where
  no_count : (i : Intent) → IsOfRun i → counted_zero (entry_of c i a s.word) ≡ false
  no_count (Read j) h = refl
  no_count (Widen j) h = refl
  no_count TakeCredit h = refl
  no_count Queue h = refl
  no_count (Claim d) h = absurd h
  no_count Release h = refl
  no_count GiveCredit h = refl
  no_count AskCount h = absurd h
  no_count (LookAt d) h = absurd h
  no_count (Peek b) h = absurd h

whole_quiet : (c : Network) (d : DevId) (es : List Entry) → IsRunOf c d es → is_quiet es ≡ false
whole_quiet c d es h = ap is_quiet h.are ∙ run_quiet c (Running (begun d.0)) h.steps h.only_run

behind_quiet : (P : ℕ → Type 0) (es ds : List Entry) → AreLooks P es → is_quiet (es ++ ds) ≡ is_quiet ds
behind_quiet P es ds h = is_quiet-append es ds ∙ ap (λ (b : Bool). b || is_quiet ds) (looks_quiet P es h)

above_zero : (n : ℕ) → 0 < n → (n == 0) ≡ false
above_zero n h = ne_eqb n 0 (λ e. omega arith)

pub or_nothing : (b : Bool) → (b || false) ≡ b
or_nothing true = refl
or_nothing false = refl

pub turn_is_quiet : (c : Network) (first : ℕ) (t : Turn) (es : List Entry) → IsTurn c first t es → is_quiet es ≡ quiet_of t
turn_is_quiet c first TurnWorked es h = ap is_quiet h.3 ∙ (behind_quiet (IsUpTo c first h.0.0) h.1 h.2 h.4 ∙ whole_quiet c h.0 h.2 h.6)
turn_is_quiet c first TurnIdle es h = ap is_quiet h.2 ∙ (behind_quiet (IsDevice c) h.0 (Counted h.1 ∷ []) h.3 ∙ (or_nothing (h.1 == 0) ∙ above_zero h.1 h.5))
turn_is_quiet c first TurnQuiet es h = ap is_quiet h.1 ∙ behind_quiet (IsDevice c) h.0 (Counted 0 ∷ []) h.2

pub turn_on_is_quiet : (c : Network) (d : DevId) (t : TurnOn) (es : List Entry) → IsTurnOn c d t es → is_quiet es ≡ false
turn_on_is_quiet c d Worked es h = whole_quiet c d es h
turn_on_is_quiet c d Missed es h = ap is_quiet h.2

-- ---- the hand
pub grew_within : (h : HandView) (t u : Seat (Unit {0}) View) (n : ℕ) (q p : Bool) (es : List Entry) → IsWithin h t n q → p ≡ (q || is_quiet es) → u.table_id ≡ t.table_id → u.me.0 ≡ grown t.me.0 es → u.me.1 ≡ []
    → (hand_of u ≡ record { table = h.table; circuit = h.circuit; first = h.first; numbers = h.numbers; trail = h.trail ++ es }) × IsWithin (hand_of u) u n p
grew_within h t u n q p es a same_p same step none =
    let is : u.me.0 ≡ grown (idle_view h) es = step ∙ (λ k. grown (a.1 k).0 es) in let id : u.table_id ≡ h.table = same ∙ a.0 in (
      (λ k. record { table = id k; circuit = (is k).circuit; first = (is k).first; numbers = (is k).numbers; trail = (is k).trail }),
      (
        refl,
        idle_seat u (ap (λ (v : View). v.spent) is) (ap (λ (v : View). v.actor) is) none,
        a.2 ∙ sym (ap (λ (v : View). v.numbers) is),
        same_p ∙ (ap (λ (b : Bool). b || is_quiet es) a.3 ∙ (sym (is_quiet-append h.trail es) ∙ sym (ap (λ (v : View). is_quiet v.trail) is))),
      ),
    )
