-- Lines that are justified stay within every closed family, so a complete log whose lines are all justified has the least family.
use Rattle.std.proofs.Common.{◌≡◌, ℕ, zero, suc, ◌<◌, Bool, true, false, cond, Option, Some, None, List, [], ◌∷◌, length, inl, inr, arith, refl, sym, ap, ◌∙◌, subst}
use Rattle.std.proofs.lemmas.Bool.{cases_lt}
use Rattle.std.proofs.lemmas.Int.{ints, clamps}
use Rattle.std.proofs.lemmas.List.{length-set, get_or-set_other, get_or-set_same, get_or_past}
use Rattle.std.specs.Bool.{MatchBool}
use Rattle.std.specs.Prelude.{ℤ, ◌≤ℤ◌, slice_set, IfSome, IsSomeAnd, is_some}
use Rattle.cvc_base.specs.declared.device.Kind.{Kind}
use Rattle.cvc_base.specs.declared.device.Kind.TheVariants.{Nmos, Pmos, Resistor, Diode, Capacitor, Inductor, Bipolar}
use Rattle.cvc_base.specs.declared.device.Volts.{Volts}
use Rattle.cvc_law.specs.declared.interval.Interval.{Interval}
use Rattle.cvc_law.specs.declared.interval.Reads.{Reads}
use Rattle.cvc_law.specs.declared.device.Device.{Device}
use Rattle.cvc_law.specs.Network.{Network, nets, devices, is_declared, floor_of, ceiling_of, end_a, end_b, gate, lesser, greater, IsCircuit}
use Rattle.cvc_law.specs.Family.{unknown, interval_at, IsInRange, IsFamily, IsWithin}
use Rattle.cvc_law.specs.Conduction.{offered, kept_within, given}
use Rattle.cvc_law.specs.Least.{reads_of, Covers, IsClosed, IsLeast}
use Rattle.cvc_law.specs.Monotone.{IsAsWide, AreAsWide, TakesIn}
use Rattle.cvc_law.specs.Reach.{device_at, no_device}
use Rattle.cvc_law.proofs.LawsMonotone.{monotone}
use Rattle.cvc_law.proofs.ReachAgree.{reads_in_range}
use Rattle.cvc_law.proofs.ReachConduct.{given_in_range}
use Rattle.cvc_law.proofs.ReachPlaces.{device_at_get, device_sound, target_within}
use Rattle.cvc_law.proofs.ReachRows.{kept_none}
use Rattle.cvc_law.proofs.ReachWidening.{dec_eq}
use Rattle.cvc_serial.specs.declared.log.LogLine.{LogLine}
use Rattle.cvc_serial.specs.Derivation.{declared_family, device_of, net_of, taking_in, with_line, with_lines, family_of, IsJustified, AreJustified, IsComplete}
use Rattle.cvc_serial.proofs.Starting.{are_declared, family_started, within_started}

-- ---- a slot that gives something is one of four, of a device that is there
no_slot : (kind : Kind) (v : Volts) (k : ℕ) (r : Reads) → offered kind v (suc (suc (suc (suc k)))) r ≡ None
no_slot Nmos v k r = refl
no_slot Pmos v k r = refl
no_slot Resistor v k r = refl
no_slot Inductor v k r = refl
no_slot Diode v k r = refl
no_slot Capacitor v k r = refl
no_slot Bipolar v k r = refl

nothing_kept : (c : Network) (d : Device) (k : ℕ) (r : Reads) (v : ℤ) → offered d.kind d.volts k r ≡ None → given c d k r ≡ Some v → ⊥
nothing_kept c d k r v none is = let no : given c d k r ≡ None = ap (kept_within (floor_of c) (ceiling_of c)) none ∙ kept_none (floor_of c) (ceiling_of c) in cc

pub slot_below : (c : Network) (d : Device) (k : ℕ) (r : Reads) (v : ℤ) → given c d k r ≡ Some v → k < 4
slot_below c d zero r v is = omega arith
slot_below c d (suc zero) r v is = omega arith
slot_below c d (suc (suc zero)) r v is = omega arith
slot_below c d (suc (suc (suc zero))) r v is = omega arith
slot_below c d (suc (suc (suc (suc k)))) r v is = absurd (nothing_kept c d (suc (suc (suc (suc k)))) r v (no_slot d.kind d.volts k r) is)

nothing_offered : (v : Volts) (k : ℕ) (r : Reads) → offered Capacitor v k r ≡ None
nothing_offered v zero r = refl
nothing_offered v (suc zero) r = refl
nothing_offered v (suc (suc zero)) r = refl
nothing_offered v (suc (suc (suc zero))) r = refl
nothing_offered v (suc (suc (suc (suc k)))) r = refl

pub device_below : (c : Network) (i k : ℕ) (r : Reads) (v : ℤ) → given c (device_at c i) k r ≡ Some v → i < devices c
device_below c i k r v is = elim (cases_lt i (devices c)) [
  | inl less ↦ less
  | inr past ↦ absurd (let none : device_at c i ≡ no_device = get_or_past c.devices i no_device past in
      nothing_kept c no_device k r v (nothing_offered no_device.volts k r) (subst (λ (d : Device). given c d k r ≡ Some v) none is))
]

-- ---- an interval that takes in a value that another covers
low_taken : (a b : Option ℤ) (v : ℤ) → IfSome a (λ x. IsSomeAnd b (λ y. y ≤ℤ x)) → IsSomeAnd b (λ y. y ≤ℤ v) → IfSome (lesser v a) (λ x. IsSomeAnd b (λ y. y ≤ℤ x))
low_taken None b v h covers = covers
low_taken (Some x) None v h covers = absurd covers
low_taken (Some x) (Some y) v h covers = omega (arith, ints, clamps)

high_taken : (a b : Option ℤ) (v : ℤ) → IfSome a (λ x. IsSomeAnd b (λ y. x ≤ℤ y)) → IsSomeAnd b (λ y. v ≤ℤ y) → IfSome (greater v a) (λ x. IsSomeAnd b (λ y. x ≤ℤ y))
high_taken None b v h covers = covers
high_taken (Some x) None v h covers = absurd covers
high_taken (Some x) (Some y) v h covers = omega (arith, ints, clamps)

abbrev pub taking_if : Bool → Interval → ℤ → Interval
taking_if b i v = cond b (record { low = lesser v i.low; high = i.high }) (record { low = i.low; high = greater v i.high })

abbrev pub CoversIf : Bool → Interval → ℤ → Type 0
CoversIf b i v = MatchBool b (IsSomeAnd i.low (λ low. low ≤ℤ v)) (IsSomeAnd i.high (λ high. v ≤ℤ high))

taken_if : (i j : Interval) (v : ℤ) (b : Bool) → IsAsWide i j → CoversIf b j v → IsAsWide (taking_if b i v) j
taken_if i j v true wide covers = (low_taken i.low j.low v wide.0 covers, wide.1)
taken_if i j v false wide covers = (wide.0, high_taken i.high j.high v wide.1 covers)

low_through : (o : Option ℤ) (v w : ℤ) → w ≤ℤ v → IsSomeAnd o (λ low. low ≤ℤ w) → IsSomeAnd o (λ low. low ≤ℤ v)
low_through None v w le h = absurd h
low_through (Some x) v w le h = omega (arith, ints)

high_through : (o : Option ℤ) (v w : ℤ) → v ≤ℤ w → IsSomeAnd o (λ high. w ≤ℤ high) → IsSomeAnd o (λ high. v ≤ℤ high)
high_through None v w le h = absurd h
high_through (Some x) v w le h = omega (arith, ints)

pub covers_through : (i : Interval) (v w : ℤ) (b : Bool) → MatchBool b (w ≤ℤ v) (v ≤ℤ w) → CoversIf b i w → CoversIf b i v
covers_through i v w true le covers = low_through i.low v w le covers
covers_through i v w false le covers = high_through i.high v w le covers

-- ---- a family with one interval changed
here : (f : List Interval) (n : ℕ) (i : Interval) → n < length f → interval_at (slice_set f n i) n ≡ i
here f n i lt = get_or-set_same f n i unknown lt

there : (f : List Interval) (n : ℕ) (i : Interval) (m : ℕ) → (m ≡ n → ⊥) → interval_at (slice_set f n i) m ≡ interval_at f m
there f n i m apart = get_or-set_other f n m i unknown apart

-- what holds of the interval of each net still does where one is changed
changed : (f : List Interval) (n : ℕ) (i : Interval) (P : ℕ → Interval → Type 0) → n < length f → P n i → ((m : ℕ) → P m (interval_at f m)) → (m : ℕ) → P m (interval_at (slice_set f n i) m)
changed f n i P inside own others m = elim (dec_eq m n) [
  | inl same ↦ subst (λ (x : ℕ). P x (interval_at (slice_set f n i) x)) (sym same) (subst (P n) (sym (here f n i inside)) own)
  | inr apart ↦ subst (P m) (sym (there f n i m apart)) (others m)
]

within_changed : (f g : List Interval) (n : ℕ) (i : Interval) → n < length f → IsAsWide i (interval_at g n) → IsWithin f g → IsWithin (slice_set f n i) g
within_changed f g n i inside wide within =
    let all : (m : ℕ) → IsAsWide (interval_at (slice_set f n i) m) (interval_at g m) = changed f n i (λ (m : ℕ) (j : Interval). IsAsWide j (interval_at g m)) inside wide (λ m. (within.low m, within.high m)) in
    record { low = λ m. (all m).0; high = λ m. (all m).1 }

range_low : (c : Network) (o : Option ℤ) (v : ℤ) → IsInRange c v → IfSome o (IsInRange c) → IfSome (lesser v o) (IsInRange c)
range_low c None v range own = range
range_low c (Some x) v range own = by (floor_of c) (ceiling_of c) range own where
  by : (fl ce : Option ℤ) → IsSomeAnd fl (λ f. f ≤ℤ v) × IsSomeAnd ce (λ h. v ≤ℤ h) → IsSomeAnd fl (λ f. f ≤ℤ x) × IsSomeAnd ce (λ h. x ≤ℤ h) → IfSome (lesser v (Some x)) (λ z. IsSomeAnd fl (λ f. f ≤ℤ z) × IsSomeAnd ce (λ h. z ≤ℤ h))
  by None ce p q = absurd p.0
  by (Some f) None p q = absurd p.1
  by (Some f) (Some h) p q = let a = p.0 in let b = p.1 in let d = q.0 in let e = q.1 in (omega (arith, ints, clamps), omega (arith, ints, clamps))

range_high : (c : Network) (o : Option ℤ) (v : ℤ) → IsInRange c v → IfSome o (IsInRange c) → IfSome (greater v o) (IsInRange c)
range_high c None v range own = range
range_high c (Some x) v range own = by (floor_of c) (ceiling_of c) range own where
  by : (fl ce : Option ℤ) → IsSomeAnd fl (λ f. f ≤ℤ v) × IsSomeAnd ce (λ h. v ≤ℤ h) → IsSomeAnd fl (λ f. f ≤ℤ x) × IsSomeAnd ce (λ h. x ≤ℤ h) → IfSome (greater v (Some x)) (λ z. IsSomeAnd fl (λ f. f ≤ℤ z) × IsSomeAnd ce (λ h. z ≤ℤ h))
  by None ce p q = absurd p.0
  by (Some f) None p q = absurd p.1
  by (Some f) (Some h) p q = let a = p.0 in let b = p.1 in let d = q.0 in let e = q.1 in (omega (arith, ints, clamps), omega (arith, ints, clamps))

taken_low_range : (c : Network) (i : Interval) (v : ℤ) (b : Bool) → IsInRange c v → IfSome i.low (IsInRange c) → IfSome (taking_if b i v).low (IsInRange c)
taken_low_range c i v true range own = range_low c i.low v range own
taken_low_range c i v false range own = own

taken_high_range : (c : Network) (i : Interval) (v : ℤ) (b : Bool) → IsInRange c v → IfSome i.high (IsInRange c) → IfSome (taking_if b i v).high (IsInRange c)
taken_high_range c i v true range own = own
taken_high_range c i v false range own = range_high c i.high v range own

-- ---- one line
module _ (c : Network) (circuit : IsCircuit c.fixed c.devices) where
  module _ (f : List Interval) (l : LogLine) (family : IsFamily c f) (just : IsJustified c f l) where
    abbrev device : Device
    device = device_of c l

    slot : l.slot < 4
    slot = slot_below c device l.slot (reads_of f device) l.value just.gives

    inside : l.device < devices c
    inside = device_below c l.device l.slot (reads_of f device) l.value just.gives

    net_inside : net_of c l < length f
    net_inside = let net : net_of c l < nets c = target_within (nets c) device (device_sound c circuit l.device inside) l.slot in omega (arith, family.every_net)

    in_range : IsInRange c l.value
    in_range = given_in_range c device l.slot (reads_of f device) l.value just.gives

    abbrev taken : Interval
    taken = taking_in (interval_at f (net_of c l)) l.slot l.value

    pub family_with : IsFamily c (with_line c f l)
    family_with = record {
      every_net = length-set f (net_of c l) taken ∙ family.every_net;
      declared = λ m w is.
          let apart : m ≡ net_of c l → ⊥ = λ same. (let yes : is_declared c (net_of c l) ≡ true = ap (is_declared c) (sym same) ∙ ap is_some is in let no : true ≡ false = sym yes ∙ just.free in cc) in
          there f (net_of c l) taken m apart ∙ family.declared m w is;
      low_in_range = changed f (net_of c l) taken (λ (m : ℕ) (j : Interval). IfSome j.low (IsInRange c)) net_inside (taken_low_range c (interval_at f (net_of c l)) l.value _ in_range (family.low_in_range (net_of c l))) family.low_in_range;
      high_in_range = changed f (net_of c l) taken (λ (m : ℕ) (j : Interval). IfSome j.high (IsInRange c)) net_inside (taken_high_range c (interval_at f (net_of c l)) l.value _ in_range (family.high_in_range (net_of c l))) family.high_in_range;
    }

    module _ (g : List Interval) (other : IsFamily c g) (closed : IsClosed c g) (within : IsWithin f g) where
      reads_wider : AreAsWide (reads_of f device) (reads_of g device)
      reads_wider = record {
        a = (within.low (end_a device), within.high (end_a device));
        b = (within.low (end_b device), within.high (end_b device));
        g = (within.low (gate device), within.high (gate device));
      }

      covered : Covers (interval_at g (net_of c l)) l.slot l.value
      covered = by (given c device l.slot (reads_of g device)) refl
          (monotone c device (reads_of f device) (reads_of g device) (device_sound c circuit l.device inside).drop (reads_in_range c f device family) (reads_in_range c g device other) reads_wider l.slot l.value just.gives)
        where
          by : (o : Option ℤ) → given c device l.slot (reads_of g device) ≡ o → IsSomeAnd o (TakesIn l.slot l.value) → Covers (interval_at g (net_of c l)) l.slot l.value
          by None is takes = absurd takes
          by (Some w) is takes = covers_through (interval_at g (net_of c l)) l.value w _ takes (closed l.device device (device_at_get c l.device inside) l.slot w slot just.free is)

      pub within_with : IsWithin (with_line c f l) g
      within_with = within_changed f g (net_of c l) taken net_inside (taken_if (interval_at f (net_of c l)) (interval_at g (net_of c l)) l.value _ (within.low (net_of c l), within.high (net_of c l)) covered) within

  -- ---- all lines
  pub family_lines : (ls : List LogLine) (f : List Interval) → IsFamily c f → AreJustified c f ls → IsFamily c (with_lines c f ls)
  family_lines [] f family just = family
  family_lines (l ∷ ls) f family just = family_lines ls (with_line c f l) (family_with f l family just.0) just.1

  pub within_lines : (ls : List LogLine) (f g : List Interval) → IsFamily c f → AreJustified c f ls → IsFamily c g → IsClosed c g → IsWithin f g → IsWithin (with_lines c f ls) g
  within_lines [] f g family just other closed within = within
  within_lines (l ∷ ls) f g family just other closed within = within_lines ls (with_line c f l) g (family_with f l family just.0) just.1 other closed (within_with f l family just.0 g other closed within)

  declared_is_family : IsFamily c (declared_family c)
  declared_is_family = family_started c circuit [] (declared_family c) (are_declared c)

  -- a complete log whose lines are all justified has the least family
  pub log_is_least : (log : List LogLine) → AreJustified c (declared_family c) log → IsComplete c log → IsLeast c (family_of c log)
  log_is_least log just complete = record {
    family = family_lines log (declared_family c) declared_is_family just;
    closed = complete;
    least = λ g other closed. within_lines log (declared_family c) g declared_is_family just other closed (within_started c circuit [] (declared_family c) (are_declared c) g other (λ n free. (tt, tt)));
  }
