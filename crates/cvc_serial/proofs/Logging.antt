-- A log that is kept: it begins without a line, and a widening that is noted leaves lines that derive the widened family.
use Rattle.std.proofs.Common.{◌≡◌, ℕ, ◌%◌, ◌<◌, ◌^◌, Bool, true, false, cond, Option, Some, None, List, [], ◌∷◌, ◌++◌, length, arith, refl, sym, ap, ◌∙◌, subst}
use Rattle.std.proofs.lemmas.Int.{ints, clamps}
use Rattle.std.specs.Prelude.{◌==◌, ℤ, ◌≤ℤ◌, int_le, slice_set, IfSome, IsSomeAnd, is_some}
use Rattle.cvc_law.specs.declared.interval.Interval.{Interval}
use Rattle.cvc_law.specs.Network.{Network, lesser, greater}
use Rattle.cvc_law.specs.Conduction.{target}
use Rattle.cvc_law.specs.Family.{interval_at}
use Rattle.cvc_law.specs.Least.{Covers}
use Rattle.cvc_law.specs.Reach.{device_at}
use Rattle.cvc_serial.specs.declared.log.LogLine.{LogLine}
use Rattle.cvc_serial.specs.declared.widen.Widening.{Widening}
use Rattle.cvc_serial.specs.Widening.{with_bound, IsWidening}
use Rattle.cvc_serial.specs.Derivation.{declared_family, taking_in, with_line, with_lines, IsJustified, AreJustified, Widens, AllWiden, Derives, IsLogged, IsNoted}
use Rattle.cvc_serial.proofs.Derives.{CoversIf, taking_if}
use Rattle.cvc_serial.specs.Starting.{AreStarted}
use Rattle.cvc_serial.proofs.Starting.{declared_is}
use Rattle.cvc_serial.proofs.Widens.{widened_by}

-- ---- one line more
with_last : (c : Network) (ls : List LogLine) (f : List Interval) (l : LogLine) → with_lines c f (ls ++ l ∷ []) ≡ with_line c (with_lines c f ls) l
with_last c [] f l = refl
with_last c (x ∷ ls) f l = with_last c ls (with_line c f x) l

justified_last : (c : Network) (ls : List LogLine) (f : List Interval) (l : LogLine) → AreJustified c f ls → IsJustified c (with_lines c f ls) l → AreJustified c f (ls ++ l ∷ [])
justified_last c [] f l all last = (last, tt)
justified_last c (x ∷ ls) f l all last = (all.0, justified_last c ls (with_line c f x) l all.1 last)

widen_last : (c : Network) (ls : List LogLine) (f : List Interval) (l : LogLine) → AllWiden c f ls → Widens c (with_lines c f ls) l → AllWiden c f (ls ++ l ∷ [])
widen_last c [] f l all last = (last, tt)
widen_last c (x ∷ ls) f l all last = (all.0, widen_last c ls (with_line c f x) l all.1 last)

-- ---- a bound that doesn't cover a value is set to it
abbrev set_if : Bool → Interval → ℤ → Interval
set_if b i v = cond b (record { low = Some v; high = i.high }) (record { low = i.low; high = Some v })

lesser_is : (o : Option ℤ) (v : ℤ) → (IsSomeAnd o (λ low. low ≤ℤ v) → ⊥) → Some v ≡ lesser v o
lesser_is None v off = refl
lesser_is (Some x) v off = by (int_le x v) refl where
  by : (b : Bool) → int_le x v ≡ b → Some v ≡ lesser v (Some x)
  by true e = absurd (off (omega (arith, ints)))
  by false e = ap (λ (z : ℤ). Some z) (omega (arith, ints, clamps))

greater_is : (o : Option ℤ) (v : ℤ) → (IsSomeAnd o (λ high. v ≤ℤ high) → ⊥) → Some v ≡ greater v o
greater_is None v off = refl
greater_is (Some x) v off = by (int_le v x) refl where
  by : (b : Bool) → int_le v x ≡ b → Some v ≡ greater v (Some x)
  by true e = absurd (off (omega (arith, ints)))
  by false e = ap (λ (z : ℤ). Some z) (omega (arith, ints, clamps))

set_is : (i : Interval) (v : ℤ) (b : Bool) → (CoversIf b i v → ⊥) → set_if b i v ≡ taking_if b i v
set_is i v true off = ap (λ (o : Option ℤ). record { low = o; high = i.high }) (lesser_is i.low v off)
set_is i v false off = ap (λ (o : Option ℤ). record { low = i.low; high = o }) (greater_is i.high v off)

bound_is : (i : Interval) (k : ℕ) (v : ℤ) → (Covers i k v → ⊥) → with_bound i k v ≡ taking_in i k v
bound_is i k v off = set_is i v (k % 2 == 0) off

-- ---- a widening that is noted
abbrev pub line_of : ℕ → ℕ → Widening → LogLine
line_of i k w = record { device = i; slot = k; value = w.value }

module _ (c : Network) (f : List Interval) (i k : ℕ) (w : Widening) (wide : IsWidening c f (device_at c i) k w) where
  abbrev line : LogLine
  line = line_of i k w

  pub line_widens : widened_by f w ≡ with_line c f line
  line_widens = ap (λ (n : ℕ). slice_set f n w.interval) wide.net ∙ ap (slice_set f (target (device_at c i) k)) (wide.interval ∙ bound_is (interval_at f (target (device_at c i) k)) k w.value wide.not_covered)

  pub justified_line : IsJustified c f line
  justified_line = record { free = wide.free; gives = wide.is_given }

  derives_more : (ls : List LogLine) → Derives c ls f → Derives c (ls ++ line ∷ []) (widened_by f w)
  derives_more ls d =
      let more : Widens c f line = wide.not_covered in
      record {
        justified = justified_last c ls (declared_family c) line d.justified (subst (λ (g : List Interval). IsJustified c g line) d.family justified_line);
        widen = widen_last c ls (declared_family c) line d.widen (subst (λ (g : List Interval). Widens c g line) d.family more);
        family = line_widens ∙ (ap (λ (g : List Interval). with_line c g line) d.family ∙ sym (with_last c ls (declared_family c) line));
      }

  pub logged_more : (old new : Option (List LogLine)) → IsNoted old new line → IsLogged c old f → IsLogged c new (widened_by f w)
  logged_more None new noted h = subst (λ (o : Option (List LogLine)). IsLogged c o (widened_by f w)) (sym noted) tt
  logged_more (Some ls) new noted h = subst (λ (o : Option (List LogLine)). IsLogged c o (widened_by f w)) (sym noted.0) (derives_more ls h.0, noted.1)

pub noted_same : (old new : Option (List LogLine)) (l : LogLine) → IsNoted old new l → is_some new ≡ is_some old
noted_same None new l noted = ap is_some noted
noted_same (Some ls) new l noted = ap is_some noted.0

-- ---- at the start
pub logged_start : (c : Network) (log : Option (List LogLine)) (given f : List Interval) → AreStarted c given f → IfSome log (λ lines. (lines ≡ []) × (given ≡ [])) → IsLogged c log f
logged_start c None given f are none = tt
logged_start c (Some ls) given f are none = subst (λ (x : List LogLine). Derives c x f × (length x < 2 ^ 32)) (sym none.0)
    (record { justified = tt; widen = tt; family = declared_is c f (subst (λ (g : List Interval). AreStarted c g f) none.1 are) }, omega arith)
