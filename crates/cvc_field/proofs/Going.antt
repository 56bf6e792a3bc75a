-- Parts of a run, one after the other.
use Rattle.std.proofs.Common.{Bool, true, false, ◌==◌, true≢false, eq-eqb, ◌≡◌, ℕ, zero, suc, ◌≤◌, List, [], ◌∷◌, ◌++◌, length, take, arith, ap, refl, sym, subst, ◌∙◌, append_assoc, append-nil, length-append, ◌<◌}
use Rattle.std.specs.Prelude.{if◌then◌else◌}
use mathlib.Core.Logic.{dite}
use native.Mathlib.Decide.{ℕ_discrete}
use Rattle.cvc_base.specs.declared.ids.DevId.{DevId}
use Rattle.cvc_law.specs.Network.{Network}
use Rattle.cvc_core.specs.declared.actor.Actor.{Actor}
use Rattle.cvc_core.specs.declared.actor.Intent.{Intent}
use Rattle.cvc_core.specs.declared.actor.Intent.TheVariants.{Queue}
use Rattle.cvc_core.specs.State.{next_device, run_of}
use Rattle.cvc_core.specs.Steps.{IsAllowed, is_queued}
use Rattle.cvc_field.specs.declared.view.Entry.TheVariants.{Queued}
use Rattle.cvc_field.specs.declared.view.View.{View}
use Rattle.cvc_field.specs.declared.view.Entry.{Entry}
use Rattle.cvc_field.specs.Trail.{entry_of}
use Rattle.cvc_field.specs.Views.{advance, value_found}
use Rattle.cvc_field.specs.Steps.{Step, next_actor, AreAllowed, actor_after, entries, IsOfRun, AreOfRun, newly, newly_queued, went}
use Rattle.cvc_field.specs.Runs.{Goes, GoesNoting}

pub actor_after-append : (c : Network) (a : Actor) (ss ts : List Step) → actor_after c a (ss ++ ts) ≡ actor_after c (actor_after c a ss) ts
actor_after-append c a [] ts = refl
actor_after-append c a (s ∷ ss) ts = actor_after-append c (next_actor c a s) ss ts

pub entries-append : (c : Network) (a : Actor) (ss ts : List Step) → entries c a (ss ++ ts) ≡ entries c a ss ++ entries c (actor_after c a ss) ts
entries-append c a [] ts = refl
entries-append c a (s ∷ ss) ts = ap (λ (es : List Entry). entry_of c s.intent a s.word ∷ es) (entries-append c (next_actor c a s) ss ts)

pub allowed-append : (c : Network) (a : Actor) (ss ts : List Step) → AreAllowed c a ss → AreAllowed c (actor_after c a ss) ts → AreAllowed c a (ss ++ ts)
allowed-append c a [] ts h k = k
allowed-append c a (s ∷ ss) ts h k = (h.0, allowed-append c (next_actor c a s) ss ts h.1 k)

pub of_run-append : (ss ts : List Step) → AreOfRun ss → AreOfRun ts → AreOfRun (ss ++ ts)
of_run-append [] ts h k = k
of_run-append (s ∷ ss) ts h k = (h.0, of_run-append ss ts h.1 k)

pub newly_queued-append : (es ds : List Entry) → newly_queued (es ++ ds) ≡ newly_queued es ++ newly_queued ds
newly_queued-append [] ds = refl
newly_queued-append (e ∷ es) ds = ap (λ (l : List DevId). newly e ++ l) (newly_queued-append es ds) ∙ simp append_assoc

went-append : (v : View) (ss ts : List Step) → went (went v ss) ts ≡ went v (ss ++ ts)
went-append v ss ts = λ k. record {
  circuit = v.circuit;
  spent = v.spent;
  first = v.first;
  numbers = v.numbers;
  actor = sym (actor_after-append v.circuit v.actor ss ts) k;
  trail = (grouped v.trail (entries v.circuit v.actor ss) (entries v.circuit (actor_after v.circuit v.actor ss) ts) ∙ ap (λ (es : List Entry). v.trail ++ es) (sym (entries-append v.circuit v.actor ss ts))) k;
} where
  grouped : (a b d : List Entry) → (a ++ b) ++ d ≡ a ++ (b ++ d)
  grouped a b d = simp append_assoc

-- ---- composition
pub goes_on : (u v w : View) (a b : List DevId) → Goes u v a → Goes v w b → Goes u w (a ++ b)
goes_on u v w a b g h = let c : Network = u.circuit in let ss : List Step = g.steps in let ts : List Step = h.steps in record {
  steps = ss ++ ts;
  allowed = allowed-append c u.actor ss ts g.allowed (subst (λ (z : View). AreAllowed z.circuit z.actor ts) g.view h.allowed);
  of_run = of_run-append ss ts g.of_run h.of_run;
  view = h.view ∙ (ap (λ (z : View). went z ts) g.view ∙ went-append u ss ts);
  news = ap newly_queued (entries-append c u.actor ss ts) ∙ (newly_queued-append (entries c u.actor ss) (entries c (actor_after c u.actor ss) ts)
      ∙ (λ k. g.news k ++ (ap (λ (z : View). newly_queued (entries z.circuit z.actor ts)) (sym g.view) ∙ h.news) k));
}

pub goes_nowhere : (v : View) → Goes v v []
goes_nowhere v = record { steps = []; allowed = tt; of_run = tt; view = λ k. record { circuit = v.circuit; spent = v.spent; first = v.first; numbers = v.numbers; actor = v.actor; trail = sym (append-nil v.trail) k }; news = refl }

pub goes_step : (c : Network) (i : Intent) (v w : View) (r : ℕ) (news : List DevId) → v.circuit ≡ c → IsOfRun i → ((x : ℕ) → IsAllowed c i v.actor x) → w ≡ advance i v r → newly_queued (entry_of v.circuit i v.actor r ∷ []) ≡ news → Goes v w news
unfolding advance
goes_step c i v w r news own is may step new = record {
  steps = record { intent = i; word = r } ∷ [];
  allowed = (subst (λ (z : Network). IsAllowed z i v.actor (value_found v.circuit i v.actor r)) (sym own) (may (value_found v.circuit i v.actor r)), tt);
  of_run = (is, tt);
  view = step;
  news = new;
}

-- what a mark that was set newly queues
pub queued_news : (c : Network) (v : View) (d : DevId) (r : ℕ) → v.circuit ≡ c → d.0 ≡ next_device c (run_of v.actor) → newly_queued (entry_of v.circuit Queue v.actor r ∷ []) ≡ (if is_queued r then [] else d ∷ [])
queued_news c v d r own at = append-nil (newly (Queued (next_device v.circuit (run_of v.actor)) r)) ∙ ap (λ (n : ℕ). newly (Queued n r)) (ap (λ (z : Network). next_device z (run_of v.actor)) own ∙ sym at)

-- ---- trays
take_more : (n : ℕ) (a b : List DevId) → take n (take n a ++ b) ≡ take n (a ++ b)
take_more zero a b = refl
take_more (suc n) [] b = refl
take_more (suc n) (x ∷ a) b = ap (λ (l : List DevId). x ∷ l) (take_more n a b)

take_all : (n : ℕ) (a : List DevId) → length a ≤ n → take n a ≡ a
take_all zero [] h = refl
take_all zero (x ∷ a) h = absurd (omega arith)
take_all (suc n) [] h = refl
take_all (suc n) (x ∷ a) h = ap (λ (l : List DevId). x ∷ l) (take_all n a (omega arith))

pub take_few : (n : ℕ) (a : List DevId) → length (take n a) ≤ n
take_few zero a = omega arith
take_few (suc n) [] = omega arith
take_few (suc n) (x ∷ a) = let r = take_few n a in omega arith

grouped_list : (a b d : List DevId) → (a ++ b) ++ d ≡ a ++ (b ++ d)
grouped_list a b d = simp append_assoc

pub notes_on : (u v w : View) (s t r : List DevId) → GoesNoting u v s t → GoesNoting v w t r → GoesNoting u w s r
notes_on u v w s t r g h = (
  g.0 ++ h.0,
  goes_on u v w g.0 h.0 g.1 h.1,
  h.2 ∙ (ap (λ (l : List DevId). take 32 (l ++ h.0)) g.2 ∙ (take_more 32 (s ++ g.0) h.0 ∙ ap (take 32) (grouped_list s g.0 h.0))),
)

-- a part that newly queues nothing leaves the tray
pub notes_nothing : (v w : View) (s : List DevId) → length s ≤ 32 → Goes v w [] → GoesNoting v w s s
notes_nothing v w s few g = ([], g, sym (ap (take 32) (append-nil s) ∙ take_all 32 s few))

pub notes_few : (v w : View) (s t : List DevId) → GoesNoting v w s t → length t ≤ 32
notes_few v w s t g = subst (λ (l : List DevId). length l ≤ 32) (sym g.2) (take_few 32 (s ++ g.0))

-- a tray with room, and a full one
pub noted_room : (s : List DevId) (d : DevId) → length s < 32 → s ++ d ∷ [] ≡ take 32 (s ++ d ∷ [])
noted_room s d room = sym (take_all 32 (s ++ d ∷ []) (let e = length-append s (d ∷ []) in omega arith))

pub noted_full : (s : List DevId) (d : DevId) → length s ≡ 32 → s ≡ take 32 (s ++ d ∷ [])
noted_full s d full = sym (ap (λ (n : ℕ). take n (s ++ d ∷ [])) (sym full) ∙ seam s (d ∷ [])) where
  seam : (xs ys : List DevId) → take (length xs) (xs ++ ys) ≡ xs
  seam [] ys = refl
  seam (x ∷ xs) ys = ap (λ (l : List DevId). x ∷ l) (seam xs ys)

pub noted_before : (s : List DevId) (d : DevId) (was : Bool) → was ≡ true → length s ≤ 32 → s ≡ take 32 (s ++ (if was then [] else d ∷ []))
noted_before s d was e few = sym (ap (λ (b : Bool). take 32 (s ++ (if b then [] else d ∷ []))) e ∙ (ap (take 32) (append-nil s) ∙ take_all 32 s few))

pub noted_now : (s t : List DevId) (d : DevId) (was : Bool) → was ≡ false → t ≡ take 32 (s ++ d ∷ []) → t ≡ take 32 (s ++ (if was then [] else d ∷ []))
noted_now s t d was e is = is ∙ ap (λ (b : Bool). take 32 (s ++ (if b then [] else d ∷ []))) (sym e)

pub room_left : (n : ℕ) → (n == 32) ≡ false → n ≤ 32 → n < 32
room_left n e few = dite (ℕ_discrete n 32) (λ same. absurd (true≢false (sym (eq-eqb n 32 same) ∙ e))) (λ apart. omega arith)
