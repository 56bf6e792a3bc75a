-- The marks of a store as words, and what a step does to them.
use Rattle.std.proofs.Common.{◌≡◌, ℕ, ◌+◌, ◌-◌, ◌%◌, Bool, true, false, cond, List, set, map, Option, Some, ap, refl, sym, ◌∙◌}
use Rattle.std.specs.Prelude.{slice_index}
use Rattle.std.proofs.lemmas.List.{map-set}
use Rattle.cvc_law.specs.Network.{Network, fan_of}
use Rattle.cvc_core.specs.declared.actor.Debt.{Debt}
use Rattle.cvc_core.specs.declared.actor.Run.{Run}
use Rattle.cvc_core.specs.declared.actor.Actor.{Actor}
use Rattle.cvc_core.specs.declared.actor.Actor.TheVariants.{Idle, Running}
use Rattle.cvc_core.specs.declared.actor.Intent.TheVariants.{Queue, Claim, Release}
use Rattle.cvc_core.specs.declared.store.Mark.{Mark}
use Rattle.cvc_base.specs.declared.ids.DevId.{DevId}
use Rattle.cvc_core.specs.State.{Machine, debt_of, next_device}
use Rattle.cvc_core.specs.Steps.{is_queued, queued, next_debt, begun, step_by}
use Rattle.cvc_core.specs.Store.{mark_word}

abbrev word : Bool → Bool → ℕ
word q r = cond q 1 0 + cond r 2 0

word_dropped : (q r : Bool) → word q false ≡ word q r % 2
word_dropped true true = refl
word_dropped true false = refl
word_dropped false true = refl
word_dropped false false = refl

word_says : (q r : Bool) → is_queued (word q r) ≡ q
word_says true true = refl
word_says true false = refl
word_says false true = refl
word_says false false = refl

-- the parts of a state whose bounds and count stay
module _ (c : Network) (bounds : List ℕ) (marks : List Mark) (count : ℕ) (actors : List Actor) (k : ℕ) where
  abbrev words : List ℕ
  words = map mark_word marks

  abbrev before : Machine
  before = record { bounds = bounds; marks = words; count = count; actors = actors }

  abbrev to : List ℕ → Actor → Machine
  to ms a = record { bounds = bounds; marks = ms; count = count; actors = set actors k a }

  abbrev then_owing : Run → Option Debt → ℕ → Run
  then_owing r owes credits = record { device = r.device; reads = r.reads; given = r.given; owes = owes; credits = credits }

  pub queue_effect : (r : Run) (debt : Debt) (d : ℕ) (m after : Mark) (owes : Option Debt) (credits : ℕ) → r.owes ≡ Some debt → d ≡ slice_index (fan_of c debt.net.0) debt.place → mark_word m ≡ slice_index words d → mark_word after ≡ queued (mark_word m)
      → owes ≡ next_debt c debt → credits ≡ cond m.queued r.credits (r.credits - 1)
      → to (map mark_word (set marks d after)) (Running (then_owing r owes credits)) ≡ step_by c before k Queue (Running r)
  queue_effect r debt d m after owes credits is at mark after_is owes_is credits_is =
      let same : debt_of r.owes ≡ debt = ap debt_of is in
      let next : d ≡ next_device c r = at ∙ ap (λ (z : Debt). slice_index (fan_of c z.net.0) z.place) (sym same) in
      let found_is : mark_word m ≡ slice_index words (next_device c r) = mark ∙ ap (slice_index words) next in
      let new_marks : map mark_word (set marks d after) ≡ set words (next_device c r) (queued (slice_index words (next_device c r))) =
      map-set mark_word marks d after ∙ (ap (set words d) (after_is ∙ ap queued found_is) ∙ ap (λ (z : ℕ). set words z (queued (slice_index words (next_device c r)))) next) in
      let new_owes : owes ≡ next_debt c (debt_of r.owes) = owes_is ∙ ap (next_debt c) (sym same) in
      let new_credits : credits ≡ cond (is_queued (slice_index words (next_device c r))) r.credits (r.credits - 1) =
      credits_is ∙ ap (λ (b : Bool). cond b r.credits (r.credits - 1)) (sym (word_says m.queued m.running) ∙ ap is_queued found_is) in
      ap (λ (z : List ℕ). to z (Running (then_owing r owes credits))) new_marks
      ∙ (ap (λ (z : Option Debt). to (set words (next_device c r) (queued (slice_index words (next_device c r)))) (Running (then_owing r z credits))) new_owes
      ∙ ap (λ (z : ℕ). to (set words (next_device c r) (queued (slice_index words (next_device c r)))) (Running (then_owing r (next_debt c (debt_of r.owes)) z))) new_credits)

  pub claim_effect : (d : DevId) (n : ℕ) → to (map mark_word (set marks d.0 record { queued = false; running = true })) (Running (begun d.0)) ≡ step_by c before k (Claim d) (Idle n)
  claim_effect d n = ap (λ (z : List ℕ). to z (Running (begun d.0))) (map-set mark_word marks d.0 record { queued = false; running = true })

  pub release_effect : (r : Run) (m : Mark) → mark_word m ≡ slice_index words r.device.0
      → to (map mark_word (set marks r.device.0 record { queued = m.queued; running = false })) (Idle r.credits) ≡ step_by c before k Release (Running r)
  release_effect r m mark = ap (λ (z : List ℕ). to z (Idle r.credits))
      (map-set mark_word marks r.device.0 record { queued = m.queued; running = false } ∙ ap (set words r.device.0) (word_dropped m.queued m.running ∙ ap (λ (z : ℕ). z % 2) mark))
