-- Each change of a word is the step that is meant.
use Rattle.std.proofs.Common.{◌≡◌, ℕ, zero, suc, ◌+◌, ◌-◌, ◌%◌, ◌^◌, ◌<◌, ◌≤◌, min, max, Bool, true, false, cond, ◌==◌, arith, ap, refl, sym, subst, ◌∙◌, bit_and, bit_or, eqb-true}
use prog.Atomic.{either}
use Rattle.cvc_base.specs.declared.ids.DevId.{DevId}
use Rattle.cvc_law.specs.Network.{Network, devices, IsCircuit}
use Rattle.cvc_law.specs.Reach.{width, widest, device_at, read_place, target_place}
use Rattle.cvc_law.specs.ReachWord.{word_of, reach_in, IsInMillion}
use Rattle.cvc_law.proofs.ReachWords.{low_word_min, high_word_max}
use Rattle.cvc_core.specs.declared.actor.Actor.{Actor}
use Rattle.cvc_core.specs.declared.actor.Actor.TheVariants.{Absent, Idle, Running}
use Rattle.cvc_core.specs.declared.actor.Intent.TheVariants.{Read, Widen, TakeCredit, Queue, Claim, Release, GiveCredit, AskCount, LookAt, Peek}
use Rattle.cvc_core.specs.State.{CountWord, BoundWord, MarkWord, run_of, offer, device_of, credits_of}
use Rattle.cvc_core.specs.Steps.{place_of, new_word, IsAllowed, is_queued, IsPresent}
use Rattle.cvc_field.specs.declared.view.View.{View}
use Rattle.cvc_field.specs.Words.{word_index, value_in}
use Rattle.cvc_field.specs.Views.{take_or_look, IsBoundWord, Tells}
use Rattle.cvc_field.specs.Words.{IsPlace}
use Rattle.cvc_field.specs.Field.{Moves}

module _ (c : Network) (hands : ℕ) (v : View) where
  pub loads : (i word : ℕ) → word ≡ word_index c (place_of c (Read i) v.actor) → IsPlace c (place_of c (Read i) v.actor) → ((x : ℕ) → IsAllowed c (Read i) v.actor x) → Moves c hands v word (λ n. n) (λ _. Read i)
  loads i word at inside may = record {
    place = place_of c (Read i) v.actor;
    is_place = inside;
    at = at;
    same_place = λ r. refl;
    allowed = λ r known. may (value_in c (place_of c (Read i) v.actor) r);
    becomes = λ r known. sym known.back;
  }

  lowered : (side r z y : ℕ) → IsInMillion c → side ≡ 0 → reach_in c side r ≤ widest c → word_of c side (reach_in c side r) ≡ r → z ≤ widest c → y ≡ word_of c 0 z → min r y ≡ word_of c side (max (reach_in c side r) z)
  lowered zero r z y range e le back h is = (λ k. min (sym back k) (is k)) ∙ low_word_min c range (reach_in c 0 r) z le h
  lowered (suc n) r z y range e le back h is = absurd (omega arith)

  raised : (side r z y : ℕ) → IsInMillion c → side ≡ 1 → reach_in c side r ≤ widest c → word_of c side (reach_in c side r) ≡ r → z ≤ widest c → y ≡ word_of c 1 z → max r y ≡ word_of c side (max (reach_in c side r) z)
  raised zero r z y range e le back h is = absurd (omega arith)
  raised (suc zero) r z y range e le back h is = (λ k. max (sym back k) (is k)) ∙ high_word_max c range (reach_in c 1 r) z le h
  raised (suc (suc n)) r z y range e le back h is = absurd (omega arith)

  target_side : (k : ℕ) → target_place (device_of c (run_of v.actor)) k % 2 ≡ k % 2
  target_side k = omega arith

  pub lowers : (k word y : ℕ) → word ≡ word_index c (place_of c (Widen k) v.actor) → IsPlace c (place_of c (Widen k) v.actor) → k % 2 ≡ 0 → offer c (run_of v.actor) k ≤ widest c → y ≡ word_of c 0 (offer c (run_of v.actor) k) → ((x : ℕ) → IsAllowed c (Widen k) v.actor x)
      → Moves c hands v word (λ n. min n y) (λ _. Widen k)
  lowers k word y at inside low most is may = record {
    place = place_of c (Widen k) v.actor;
    is_place = inside;
    at = at;
    same_place = λ r. refl;
    allowed = λ r known. may (value_in c (place_of c (Widen k) v.actor) r);
    becomes = λ r known. lowered (target_place (device_of c (run_of v.actor)) k % 2) r (offer c (run_of v.actor) k) y known.range (target_side k ∙ low) known.reach known.back most is;
  }

  pub raises : (k word y : ℕ) → word ≡ word_index c (place_of c (Widen k) v.actor) → IsPlace c (place_of c (Widen k) v.actor) → k % 2 ≡ 1 → offer c (run_of v.actor) k ≤ widest c → y ≡ word_of c 1 (offer c (run_of v.actor) k) → ((x : ℕ) → IsAllowed c (Widen k) v.actor x)
      → Moves c hands v word (λ n. max n y) (λ _. Widen k)
  raises k word y at inside high most is may = record {
    place = place_of c (Widen k) v.actor;
    is_place = inside;
    at = at;
    same_place = λ r. refl;
    allowed = λ r known. may (value_in c (place_of c (Widen k) v.actor) r);
    becomes = λ r known. raised (target_place (device_of c (run_of v.actor)) k % 2) r (offer c (run_of v.actor) k) y known.range (target_side k ∙ high) known.reach known.back most is;
  }

  pub adds : IsCircuit c.fixed c.devices → hands ≤ 64 → ((x : ℕ) → IsAllowed c TakeCredit v.actor x) → Moves c hands v 0 (λ n. (n + 1) % 2 ^ 64) (λ _. TakeCredit)
  adds circuit few may = record {
    place = CountWord;
    is_place = tt;
    at = refl;
    same_place = λ r. refl;
    allowed = λ r known. may r;
    becomes = λ r known. let few_devices = circuit.few_devices in let most = known.1 in omega arith;
  }

  some_credit : (a : Actor) → IsAllowed c GiveCredit a 0 → 1 ≤ credits_of a
  some_credit Absent h = absurd h
  some_credit (Idle n) h = h
  some_credit (Running r) h = omega (arith, h)

  pub subtracts : IsCircuit c.fixed c.devices → hands ≤ 64 → ((x : ℕ) → IsAllowed c GiveCredit v.actor x) → Moves c hands v 0 (λ n. (n + (2 ^ 64 - 1)) % 2 ^ 64) (λ _. GiveCredit)
  subtracts circuit few may = record {
    place = CountWord;
    is_place = tt;
    at = refl;
    same_place = λ r. refl;
    allowed = λ r known. may r;
    becomes = λ r known. let few_devices = circuit.few_devices in let most = known.1 in let least = known.0 in let one = some_credit v.actor (may 0) in omega arith;
  }

  queued : (r : ℕ) → r < 4 → bit_or r 1 ≡ cond (is_queued r) r (r + 1)
  queued zero h = refl
  queued (suc zero) h = refl
  queued (suc (suc zero)) h = refl
  queued (suc (suc (suc zero))) h = refl
  queued (suc (suc (suc (suc n)))) h = absurd (omega arith)

  pub queues : (word : ℕ) → word ≡ word_index c (place_of c Queue v.actor) → IsPlace c (place_of c Queue v.actor) → ((x : ℕ) → IsAllowed c Queue v.actor x) → Moves c hands v word (λ n. bit_or n 1) (λ _. Queue)
  queues word at inside may = record {
    place = place_of c Queue v.actor;
    is_place = inside;
    at = at;
    same_place = λ r. refl;
    allowed = λ r known. may r;
    becomes = λ r known. queued r known;
  }

  running_off : (r : ℕ) → r < 4 → bit_and r 1 ≡ r % 2
  running_off zero h = refl
  running_off (suc zero) h = refl
  running_off (suc (suc zero)) h = refl
  running_off (suc (suc (suc zero))) h = refl
  running_off (suc (suc (suc (suc n)))) h = absurd (omega arith)

  pub drops : (word : ℕ) → word ≡ word_index c (place_of c Release v.actor) → IsPlace c (place_of c Release v.actor) → ((x : ℕ) → IsAllowed c Release v.actor x) → Moves c hands v word (λ n. bit_and n 1) (λ _. Release)
  drops word at inside may = record {
    place = place_of c Release v.actor;
    is_place = inside;
    at = at;
    same_place = λ r. refl;
    allowed = λ r known. may r;
    becomes = λ r known. running_off r known;
  }

  idle_present : (a : Actor) → a ≡ Idle 0 → IsPresent a
  idle_present a e = subst IsPresent (sym e) tt

  pub counts : v.actor ≡ Idle 0 → Moves c hands v 0 (λ n. n) (λ _. AskCount)
  counts idle = record {
    place = CountWord;
    is_place = tt;
    at = refl;
    same_place = λ r. refl;
    allowed = λ r known. idle_present v.actor idle;
    becomes = λ r known. refl;
  }

  pub looks : (d : DevId) (word : ℕ) → word ≡ word_index c (MarkWord d.0) → d.0 < devices c → v.actor ≡ Idle 0 → Moves c hands v word (λ n. n) (λ _. LookAt d)
  looks d word at inside idle = record {
    place = MarkWord d.0;
    is_place = inside;
    at = at;
    same_place = λ r. refl;
    allowed = λ r known. (inside, idle_present v.actor idle);
    becomes = λ r known. refl;
  }

  pub peeks : (b word : ℕ) → word ≡ word_index c (BoundWord b) → b < width c → v.actor ≡ Idle 0 → Moves c hands v word (λ n. n) (λ _. Peek b)
  peeks b word at inside idle = record {
    place = BoundWord b;
    is_place = inside;
    at = at;
    same_place = λ r. refl;
    allowed = λ r known. (inside, idle_present v.actor idle);
    becomes = λ r known. sym known.back;
  }

  -- both cases of a compare-exchange
  takes_or_looks : (d : DevId) (r : ℕ) (b : Bool) → (r == 1) ≡ b → d.0 < devices c → v.actor ≡ Idle 0
      → (place_of c (cond b (Claim d) (LookAt d)) v.actor ≡ MarkWord d.0) × IsAllowed c (cond b (Claim d) (LookAt d)) v.actor r × (either b 2 r ≡ new_word c (cond b (Claim d) (LookAt d)) v.actor r)
  takes_or_looks d r true e inside idle = (refl, subst (λ (a : Actor). IsAllowed c (Claim d) a r) (sym idle) (inside, refl, eqb-true r 1 e), refl)
  takes_or_looks d r false e inside idle = (refl, (inside, idle_present v.actor idle), refl)

  pub takes : (d : DevId) (word : ℕ) → word ≡ word_index c (MarkWord d.0) → d.0 < devices c → v.actor ≡ Idle 0 → Moves c hands v word (λ n. either (n == 1) 2 n) (take_or_look d)
  takes d word at inside idle = record {
    place = MarkWord d.0;
    is_place = inside;
    at = at;
    same_place = λ r. (takes_or_looks d r (r == 1) refl inside idle).0;
    allowed = λ r known. (takes_or_looks d r (r == 1) refl inside idle).1;
    becomes = λ r known. (takes_or_looks d r (r == 1) refl inside idle).2;
  }

-- what a load or a widening tells of the word that it found
pub told_read : (c : Network) (v : View) (i bound r : ℕ) → v.circuit ≡ c → bound ≡ read_place (device_at c (run_of v.actor).device.0) i → Tells (Read i) v r → IsBoundWord c (bound % 2) r
told_read c v i bound r own at t = subst (λ (z : Network × ℕ). IsBoundWord z.0 (z.1 % 2) r) (λ k. (own k, (ap (λ (n : Network). read_place (device_at n (run_of v.actor).device.0) i) own ∙ sym at) k)) t.0

pub told_widen : (c : Network) (v : View) (j bound r : ℕ) → v.circuit ≡ c → bound ≡ target_place (device_at c (run_of v.actor).device.0) j → Tells (Widen j) v r → IsBoundWord c (bound % 2) r
told_widen c v j bound r own at t = subst (λ (z : Network × ℕ). IsBoundWord z.0 (z.1 % 2) r) (λ k. (own k, (ap (λ (n : Network). target_place (device_at n (run_of v.actor).device.0) j) own ∙ sym at) k)) t.0
