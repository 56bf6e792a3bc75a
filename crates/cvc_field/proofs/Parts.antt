-- Hands and their seats.
use Rattle.std.proofs.Common.{◌≡◌, ℕ, ◌+◌, ◌%◌, Option, subst, Bool, true, false, ◌||◌, ◌==◌, List, [], ◌∷◌, ◌++◌, ap, refl, sym, ◌∙◌, true≢false}
use Rattle.std.specs.Prelude.{ℤ}
use Rattle.cvc_law.specs.Network.{Network}
use Rattle.cvc_law.specs.Reach.{reach_of}
use Rattle.cvc_law.specs.ReachWord.{bound_in, reach_in}
use Rattle.cvc_field.specs.Trail.{EachAtMost}
use Rattle.atomic_table.specs.declared.shared.Seat.{Seat}
use Rattle.cvc_core.specs.declared.actor.Actor.TheVariants.{Idle}
use Rattle.cvc_field.specs.declared.view.View.{View}
use Rattle.cvc_field.specs.Views.{both_of, advance}
use Rattle.cvc_field.specs.Trail.{is_quiet}
use Rattle.cvc_field.specs.declared.view.Entry.{Entry}
use Rattle.cvc_field.specs.declared.view.Entry.TheVariants.{Loaded, Counted}
use Rattle.cvc_core.specs.declared.actor.Intent.TheVariants.{Peek, AskCount}
use Rattle.cvc_field.specs.Hands.{HandView, hand_of, idle_view, IsWithin}
use Rattle.cvc_field.proofs.Trails.{is_quiet-append}

-- a seat that is idle and not spent is its hand's
pub idle_seat : (t : Seat (Unit {0}) View) → t.me.0.spent ≡ false → t.me.0.actor ≡ Idle 0 → t.me.1 ≡ [] → t.me ≡ (idle_view (hand_of t), [])
idle_seat t live idle none k = (record { circuit = t.me.0.circuit; spent = live k; first = t.me.0.first; numbers = t.me.0.numbers; actor = idle k; trail = t.me.0.trail }, none k)

pub joined_parts : (h g : HandView) (t u r : Seat (Unit {0}) View) (n m : ℕ) (q p : Bool) → IsWithin h t n q → IsWithin g u m p → r.me.0 ≡ both_of t.me.0 u.me.0 → r.me.1 ≡ [] → IsWithin (hand_of r) r (n + m) (q || p)
joined_parts h g t u r n m q p a b both none =
    let is : r.me.0 ≡ both_of (idle_view h) (idle_view g) = both ∙ (λ k. both_of (a.1 k).0 (b.1 k).0) in (
      refl,
      idle_seat r (ap (λ (v : View). v.spent) is) (ap (λ (v : View). v.actor) is) none,
      (λ k. a.2 k + b.2 k) ∙ sym (ap (λ (v : View). v.numbers) is),
      (λ k. a.3 k || b.3 k) ∙ (sym (is_quiet-append h.trail g.trail) ∙ sym (ap (λ (v : View). is_quiet v.trail) is)),
    )

or_nothing : (b : Bool) → (b || false) ≡ b
or_nothing true = refl
or_nothing false = refl

-- a hand after a load between two runs
pub peeked : (h : HandView) (t u : Seat (Unit {0}) View) (n b r : ℕ) (q : Bool) → IsWithin h t n q → u.table_id ≡ t.table_id → u.me.0 ≡ advance (Peek b) t.me.0 r → u.me.1 ≡ []
    → (hand_of u ≡ record { table = h.table; circuit = h.circuit; first = h.first; numbers = h.numbers; trail = h.trail ++ Loaded b r ∷ [] }) × IsWithin (hand_of u) u n q
unfolding advance
peeked h t u n b r q a same step none =
    let is : u.me.0 ≡ advance (Peek b) (idle_view h) r = step ∙ (λ k. advance (Peek b) (a.1 k).0 r) in let id : u.table_id ≡ h.table = same ∙ a.0 in
    let quiet : is_quiet (h.trail ++ Loaded b r ∷ []) ≡ is_quiet h.trail = is_quiet-append h.trail (Loaded b r ∷ []) ∙ or_nothing (is_quiet h.trail) in (
      (λ k. record { table = id k; circuit = (is k).circuit; first = (is k).first; numbers = (is k).numbers; trail = (is k).trail }),
      (
        refl,
        idle_seat u (ap (λ (v : View). v.spent) is) (ap (λ (v : View). v.actor) is) none,
        a.2 ∙ sym (ap (λ (v : View). v.numbers) is),
        a.3 ∙ (sym quiet ∙ sym (ap (λ (v : View). is_quiet v.trail) is)),
      ),
    )

-- a hand after a read of the count
pub counted : (h : HandView) (t u : Seat (Unit {0}) View) (n r : ℕ) (q p : Bool) → IsWithin h t n q → p ≡ (q || (r == 0)) → u.table_id ≡ t.table_id → u.me.0 ≡ advance AskCount t.me.0 r → u.me.1 ≡ []
    → (hand_of u ≡ record { table = h.table; circuit = h.circuit; first = h.first; numbers = h.numbers; trail = h.trail ++ Counted r ∷ [] }) × IsWithin (hand_of u) u n p
unfolding advance
counted h t u n r q p a same_p same step none =
    let is : u.me.0 ≡ advance AskCount (idle_view h) r = step ∙ (λ k. advance AskCount (a.1 k).0 r) in let id : u.table_id ≡ h.table = same ∙ a.0 in
    let quiet : is_quiet (h.trail ++ Counted r ∷ []) ≡ (is_quiet h.trail || (r == 0)) = is_quiet-append h.trail (Counted r ∷ []) ∙ ap (λ (b : Bool). is_quiet h.trail || b) (or_nothing (r == 0)) in (
      (λ k. record { table = id k; circuit = (is k).circuit; first = (is k).first; numbers = (is k).numbers; trail = (is k).trail }),
      (
        refl,
        idle_seat u (ap (λ (v : View). v.spent) is) (ap (λ (v : View). v.actor) is) none,
        a.2 ∙ sym (ap (λ (v : View). v.numbers) is),
        same_p ∙ (ap (λ (b : Bool). b || (r == 0)) a.3 ∙ (sym quiet ∙ sym (ap (λ (v : View). is_quiet v.trail) is))),
      ),
    )

or_left : (a b : Bool) → a ≡ true → (a || b) ≡ true
or_left true b h = refl
or_left false b h = absurd (true≢false (sym h))

or_right : (a b : Bool) → b ≡ true → (a || b) ≡ true
or_right true b h = refl
or_right false b h = h

pub quiet_left : (es ds : List Entry) → is_quiet es ≡ true → is_quiet (es ++ ds) ≡ true
quiet_left es ds h = is_quiet-append es ds ∙ or_left (is_quiet es) (is_quiet ds) h

pub quiet_right : (es ds : List Entry) → is_quiet ds ≡ true → is_quiet (es ++ ds) ≡ true
quiet_right es ds h = is_quiet-append es ds ∙ or_right (is_quiet es) (is_quiet ds) h

pub joined_trail : (h g : HandView) (t u r : Seat (Unit {0}) View) (n m : ℕ) (q p : Bool) → IsWithin h t n q → IsWithin g u m p → r.me.0 ≡ both_of t.me.0 u.me.0 → (hand_of r).trail ≡ h.trail ++ g.trail
joined_trail h g t u r n m q p a b both = ap (λ (v : View). v.trail) (both ∙ (λ k. both_of (a.1 k).0 (b.1 k).0))

-- what a load between two runs tells of the bound that it gives
pub read_seen : (c : Network) (es : List Entry) (b n s r : ℕ) (o : Option ℤ) → b ≡ n → b % 2 ≡ s → o ≡ bound_in (b % 2) r → EachAtMost c b (reach_in c (b % 2) r) es → EachAtMost c n (reach_of c s o) es
read_seen c es b n s r o e side is t = subst (λ (z : ℕ × ℕ × Option ℤ). EachAtMost c z.0 (reach_of c z.1 z.2) es) (λ k. (e k, side k, sym is k)) t
