-- Wider supplies give a wider least family. The wider circuit's least family, drawn in to the narrower circuit's range and declarations, is closed there: what a slot
-- gives on it, the slot covers on the wider family's bounds. So the narrower circuit's least family is within it, and it is within the wider one's.
use Rattle.std.proofs.Common.{◌≡◌, ℕ, zero, suc, Bool, true, false, Option, Some, None, List, [], ◌∷◌, length, arith, refl, sym, ap, ◌∙◌, subst}
use Rattle.std.proofs.lemmas.Int.{ints, clamps}
use Rattle.std.specs.Prelude.{ℤ, ◌≤ℤ◌, slice_get, slice_index_or, IfSome, IsSomeAnd, is_some}
use Rattle.std.specs.Int.{int_min, int_max}
use Rattle.cvc_law.specs.declared.interval.Interval.{Interval}
use Rattle.cvc_law.specs.declared.interval.Fixed.{Fixed}
use Rattle.cvc_law.specs.declared.device.Device.{Device}
use Rattle.cvc_law.specs.Network.{Network, fixed_at, is_declared, floor_of, ceiling_of, least_low, greatest_high, end_a, end_b, gate, lesser, greater, IsCircuit}
use Rattle.cvc_law.specs.Family.{unknown, interval_at, IsInRange, IsFamily, IsWithin}
use Rattle.cvc_law.specs.Conduction.{offered, kept_within, given, target}
use Rattle.cvc_law.specs.Least.{reads_of, Covers, IsClosed, IsLeast}
use Rattle.cvc_law.specs.Monotone.{IsAsWide, AreAsWide, AreInRange, TakesIn}
use Rattle.cvc_law.specs.Reach.{declared_interval}
use Rattle.cvc_law.proofs.LawsMonotone.{monotone}
use Rattle.cvc_law.proofs.ReachAgree.{reads_in_range}
use Rattle.cvc_law.proofs.ReachConduct.{given_in_range}
use Rattle.cvc_law.proofs.ReachPlaces.{declared_in_range}
use Rattle.cvc_serial.specs.Supplies.{IsWiderFixed, AreWiderSupplies}
use Rattle.cvc_serial.proofs.Derives.{covers_through, CoversIf}
use Rattle.cvc_serial.proofs.Kept.{kept_is, keeps, kept_in_range, through}

-- ---- a bound drawn in to a range
abbrev drawn_low : Option ℤ → Option ℤ → Option ℤ → Option ℤ
drawn_low fl ce None = None
drawn_low fl ce (Some x) = kept_within fl ce (greater x fl)

abbrev drawn_high : Option ℤ → Option ℤ → Option ℤ → Option ℤ
drawn_high fl ce None = None
drawn_high fl ce (Some x) = kept_within fl ce (lesser x ce)

drawn_low_range : (fl ce o : Option ℤ) → IfSome (drawn_low fl ce o) (λ v. IsSomeAnd fl (λ f. f ≤ℤ v) × IsSomeAnd ce (λ h. v ≤ℤ h))
drawn_low_range fl ce None = tt
drawn_low_range fl ce (Some x) = kept_in_range fl ce (greater x fl)

drawn_high_range : (fl ce o : Option ℤ) → IfSome (drawn_high fl ce o) (λ v. IsSomeAnd fl (λ f. f ≤ℤ v) × IsSomeAnd ce (λ h. v ≤ℤ h))
drawn_high_range fl ce None = tt
drawn_high_range fl ce (Some x) = kept_in_range fl ce (lesser x ce)

-- it is no wider
drawn_low_within : (fl ce o : Option ℤ) → IfSome (drawn_low fl ce o) (λ x. IsSomeAnd o (λ y. y ≤ℤ x))
drawn_low_within fl ce None = tt
drawn_low_within fl ce (Some y) = by (kept_within fl ce (greater y fl)) refl where
  at : (o : Option ℤ) (x : ℤ) → greater y o ≡ Some x → y ≤ℤ x
  at None x is = let same : y ≡ x = cc in omega (arith, ints)
  at (Some f) x is = let same : int_max y f ≡ x = cc in subst (λ (z : ℤ). y ≤ℤ z) same (omega (arith, ints, clamps))

  by : (k : Option ℤ) → kept_within fl ce (greater y fl) ≡ k → IfSome k (λ x. y ≤ℤ x)
  by None is = tt
  by (Some x) is = at fl x (kept_is fl ce (greater y fl) x is).0

drawn_high_within : (fl ce o : Option ℤ) → IfSome (drawn_high fl ce o) (λ x. IsSomeAnd o (λ y. x ≤ℤ y))
drawn_high_within fl ce None = tt
drawn_high_within fl ce (Some y) = by (kept_within fl ce (lesser y ce)) refl where
  at : (o : Option ℤ) (x : ℤ) → lesser y o ≡ Some x → x ≤ℤ y
  at None x is = let same : y ≡ x = cc in omega (arith, ints)
  at (Some h) x is = let same : int_min y h ≡ x = cc in subst (λ (z : ℤ). z ≤ℤ y) same (omega (arith, ints, clamps))

  by : (k : Option ℤ) → kept_within fl ce (lesser y ce) ≡ k → IfSome k (λ x. x ≤ℤ y)
  by None is = tt
  by (Some x) is = at ce x (kept_is fl ce (lesser y ce) x is).0

-- it covers what the bound covers, of the values in the range
drawn_low_covers : (fl ce o : Option ℤ) (v : ℤ) → IsSomeAnd fl (λ f. f ≤ℤ v) → IsSomeAnd ce (λ h. v ≤ℤ h) → IsSomeAnd o (λ x. x ≤ℤ v) → IsSomeAnd (drawn_low fl ce o) (λ x. x ≤ℤ v)
drawn_low_covers fl ce None v a b h = absurd h
drawn_low_covers None ce (Some x) v a b h = absurd a
drawn_low_covers (Some f) None (Some x) v a b h = absurd b
drawn_low_covers (Some f) (Some c) (Some x) v a b h =
    let low : f ≤ℤ int_max x f = omega (arith, ints, clamps) in let high : int_max x f ≤ℤ c = omega (arith, ints, clamps) in
    let under : int_max x f ≤ℤ v = omega (arith, ints, clamps) in
    subst (λ (o : Option ℤ). IsSomeAnd o (λ z. z ≤ℤ v)) (sym (keeps (Some f) (Some c) (int_max x f) low high)) under

drawn_high_covers : (fl ce o : Option ℤ) (v : ℤ) → IsSomeAnd fl (λ f. f ≤ℤ v) → IsSomeAnd ce (λ h. v ≤ℤ h) → IsSomeAnd o (λ x. v ≤ℤ x) → IsSomeAnd (drawn_high fl ce o) (λ x. v ≤ℤ x)
drawn_high_covers fl ce None v a b h = absurd h
drawn_high_covers None ce (Some x) v a b h = absurd a
drawn_high_covers (Some f) None (Some x) v a b h = absurd b
drawn_high_covers (Some f) (Some c) (Some x) v a b h =
    let low : f ≤ℤ int_min x c = omega (arith, ints, clamps) in let high : int_min x c ≤ℤ c = omega (arith, ints, clamps) in
    let over : v ≤ℤ int_min x c = omega (arith, ints, clamps) in
    subst (λ (o : Option ℤ). IsSomeAnd o (λ z. v ≤ℤ z)) (sym (keeps (Some f) (Some c) (int_min x c) low high)) over

-- ---- floors and ceilings
lesser_below : (x y : ℤ) (a b : Option ℤ) → y ≤ℤ x → IfSome a (λ p. IsSomeAnd b (λ q. q ≤ℤ p)) → IfSome (lesser x a) (λ p. IsSomeAnd (lesser y b) (λ q. q ≤ℤ p))
lesser_below x y None None le h = le
lesser_below x y None (Some q) le h = omega (arith, ints, clamps)
lesser_below x y (Some p) None le h = absurd h
lesser_below x y (Some p) (Some q) le h = omega (arith, ints, clamps)

greater_above : (x y : ℤ) (a b : Option ℤ) → x ≤ℤ y → IfSome a (λ p. IsSomeAnd b (λ q. p ≤ℤ q)) → IfSome (greater x a) (λ p. IsSomeAnd (greater y b) (λ q. p ≤ℤ q))
greater_above x y None None le h = le
greater_above x y None (Some q) le h = omega (arith, ints, clamps)
greater_above x y (Some p) None le h = absurd h
greater_above x y (Some p) (Some q) le h = omega (arith, ints, clamps)

floors : (xs ys : List (Option Fixed)) → length xs ≡ length ys → ((n : ℕ) → IsWiderFixed (slice_index_or xs n None) (slice_index_or ys n None)) → IfSome (least_low xs) (λ p. IsSomeAnd (least_low ys) (λ q. q ≤ℤ p))
floors [] [] long wider = tt
floors [] (y ∷ ys) long wider = absurd (omega arith)
floors (x ∷ xs) [] long wider = absurd (omega arith)
floors (None ∷ xs) (None ∷ ys) long wider = floors xs ys (omega arith) (λ n. wider (suc n))
floors (None ∷ xs) (Some w ∷ ys) long wider = absurd (wider 0)
floors (Some v ∷ xs) (None ∷ ys) long wider = absurd (wider 0)
floors (Some v ∷ xs) (Some w ∷ ys) long wider = lesser_below v.low w.low (least_low xs) (least_low ys) (wider 0).0 (floors xs ys (omega arith) (λ n. wider (suc n)))

ceilings : (xs ys : List (Option Fixed)) → length xs ≡ length ys → ((n : ℕ) → IsWiderFixed (slice_index_or xs n None) (slice_index_or ys n None)) → IfSome (greatest_high xs) (λ p. IsSomeAnd (greatest_high ys) (λ q. p ≤ℤ q))
ceilings [] [] long wider = tt
ceilings [] (y ∷ ys) long wider = absurd (omega arith)
ceilings (x ∷ xs) [] long wider = absurd (omega arith)
ceilings (None ∷ xs) (None ∷ ys) long wider = ceilings xs ys (omega arith) (λ n. wider (suc n))
ceilings (None ∷ xs) (Some w ∷ ys) long wider = absurd (wider 0)
ceilings (Some v ∷ xs) (None ∷ ys) long wider = absurd (wider 0)
ceilings (Some v ∷ xs) (Some w ∷ ys) long wider = greater_above v.high w.high (greatest_high xs) (greatest_high ys) (wider 0).1 (ceilings xs ys (omega arith) (λ n. wider (suc n)))

under_floor : (a b : Option ℤ) (v : ℤ) → IfSome a (λ p. IsSomeAnd b (λ q. q ≤ℤ p)) → IsSomeAnd a (λ p. p ≤ℤ v) → IsSomeAnd b (λ q. q ≤ℤ v)
under_floor None b v h k = absurd k
under_floor (Some p) None v h k = absurd h
under_floor (Some p) (Some q) v h k = omega (arith, ints)

over_ceiling : (a b : Option ℤ) (v : ℤ) → IfSome a (λ p. IsSomeAnd b (λ q. p ≤ℤ q)) → IsSomeAnd a (λ p. v ≤ℤ p) → IsSomeAnd b (λ q. v ≤ℤ q)
over_ceiling None b v h k = absurd k
over_ceiling (Some p) None v h k = absurd h
over_ceiling (Some p) (Some q) v h k = omega (arith, ints)

-- ---- a family drawn in to a circuit
module _ (fl ce : Option ℤ) where
  abbrev drawn : Option Fixed → Interval → Interval
  drawn None i = record { low = drawn_low fl ce i.low; high = drawn_high fl ce i.high }
  drawn (Some w) i = declared_interval (Some w)

  abbrev drawn_family : List (Option Fixed) → List Interval → List Interval
  drawn_family [] h = []
  drawn_family (o ∷ os) [] = drawn o unknown ∷ drawn_family os []
  drawn_family (o ∷ os) (i ∷ is) = drawn o i ∷ drawn_family os is

  drawn_length : (os : List (Option Fixed)) (h : List Interval) → length (drawn_family os h) ≡ length os
  drawn_length [] h = refl
  drawn_length (o ∷ os) [] = ap suc (drawn_length os [])
  drawn_length (o ∷ os) (i ∷ is) = ap suc (drawn_length os is)

  drawn_at : (os : List (Option Fixed)) (h : List Interval) (n : ℕ) → length h ≡ length os → interval_at (drawn_family os h) n ≡ drawn (slice_index_or os n None) (interval_at h n)
  drawn_at [] [] n long = refl
  drawn_at [] (i ∷ is) n long = absurd (omega arith)
  drawn_at (o ∷ os) [] n long = absurd (omega arith)
  drawn_at (o ∷ os) (i ∷ is) zero long = refl
  drawn_at (o ∷ os) (i ∷ is) (suc n) long = drawn_at os is n (omega arith)

module _ (c e : Network) (circuit : IsCircuit c.fixed c.devices) (second : IsCircuit e.fixed e.devices) (wider : AreWiderSupplies c e) (f h : List Interval) (least : IsLeast c f) (other : IsLeast e h) where
  range_wider : (v : ℤ) → IsInRange c v → IsInRange e v
  range_wider v range = (under_floor (floor_of c) (floor_of e) v (floors c.fixed e.fixed wider.same_nets wider.wider) range.0, over_ceiling (ceiling_of c) (ceiling_of e) v (ceilings c.fixed e.fixed wider.same_nets wider.wider) range.1)

  abbrev g : List Interval
  g = drawn_family (floor_of c) (ceiling_of c) c.fixed h

  at : (n : ℕ) → interval_at g n ≡ drawn (floor_of c) (ceiling_of c) (fixed_at c n) (interval_at h n)
  at n = drawn_at (floor_of c) (ceiling_of c) c.fixed h n (other.family.every_net ∙ sym wider.same_nets)

  drawn_low_in : (o : Option Fixed) (i : Interval) → ((w : Fixed) → o ≡ Some w → IsInRange c w.low × IsInRange c w.high) → IfSome (drawn (floor_of c) (ceiling_of c) o i).low (IsInRange c)
  drawn_low_in None i own = drawn_low_range (floor_of c) (ceiling_of c) i.low
  drawn_low_in (Some w) i own = (own w refl).0

  drawn_high_in : (o : Option Fixed) (i : Interval) → ((w : Fixed) → o ≡ Some w → IsInRange c w.low × IsInRange c w.high) → IfSome (drawn (floor_of c) (ceiling_of c) o i).high (IsInRange c)
  drawn_high_in None i own = drawn_high_range (floor_of c) (ceiling_of c) i.high
  drawn_high_in (Some w) i own = (own w refl).1

  family : IsFamily c g
  family = record {
    every_net = drawn_length (floor_of c) (ceiling_of c) c.fixed h;
    declared = λ n w is. at n ∙ ap (λ (o : Option Fixed). drawn (floor_of c) (ceiling_of c) o (interval_at h n)) is;
    low_in_range = λ n. subst (λ (j : Interval). IfSome j.low (IsInRange c)) (sym (at n)) (drawn_low_in (fixed_at c n) (interval_at h n) (declared_in_range c circuit n));
    high_in_range = λ n. subst (λ (j : Interval). IfSome j.high (IsInRange c)) (sym (at n)) (drawn_high_in (fixed_at c n) (interval_at h n) (declared_in_range c circuit n));
  }

  drawn_within : (o p : Option Fixed) (i : Interval) → IsWiderFixed o p → ((w : Fixed) → p ≡ Some w → i ≡ record { low = Some w.low; high = Some w.high }) → IsAsWide (drawn (floor_of c) (ceiling_of c) o i) i
  drawn_within None None i wide own = (drawn_low_within (floor_of c) (ceiling_of c) i.low, drawn_high_within (floor_of c) (ceiling_of c) i.high)
  drawn_within None (Some w) i wide own = absurd wide
  drawn_within (Some v) None i wide own = absurd wide
  drawn_within (Some v) (Some w) i wide own = subst (λ (j : Interval). IsAsWide (declared_interval (Some v)) j) (sym (own w refl)) (wide.0, wide.1)

  as_wide : (n : ℕ) → IsAsWide (interval_at g n) (interval_at h n)
  as_wide n = subst (λ (j : Interval). IsAsWide j (interval_at h n)) (sym (at n)) (drawn_within (fixed_at c n) (fixed_at e n) (interval_at h n) (wider.wider n) (other.family.declared n))

  undeclared : (o p : Option Fixed) → IsWiderFixed o p → is_some o ≡ false → is_some p ≡ false
  undeclared None None wide is = refl
  undeclared None (Some w) wide is = absurd wide
  undeclared (Some v) p wide is = cc

  none_of : (o : Option Fixed) → is_some o ≡ false → o ≡ None
  none_of None is = refl
  none_of (Some w) is = cc

  drawn_covers : (i : Interval) (v : ℤ) (b : Bool) → IsInRange c v → CoversIf b i v → CoversIf b (drawn (floor_of c) (ceiling_of c) None i) v
  drawn_covers i v true range covers = drawn_low_covers (floor_of c) (ceiling_of c) i.low v range.0 range.1 covers
  drawn_covers i v false range covers = drawn_high_covers (floor_of c) (ceiling_of c) i.high v range.0 range.1 covers

  interval_in : (i : Interval) → IfSome i.low (IsInRange c) × IfSome i.high (IsInRange c) → IfSome i.low (IsInRange e) × IfSome i.high (IsInRange e)
  interval_in i own = (bound i.low own.0, bound i.high own.1) where
    bound : (o : Option ℤ) → IfSome o (IsInRange c) → IfSome o (IsInRange e)
    bound None h = tt
    bound (Some v) h = range_wider v h

  -- closed in the narrower circuit
  closed : IsClosed c g
  closed i d there k v lt free is =
      let range : IsInRange c v = given_in_range c d k (reads_of g d) v is in
      let up : IsInRange e v = range_wider v range in
      let offers : offered d.kind d.volts k (reads_of g d) ≡ Some v = (kept_is (floor_of c) (ceiling_of c) (offered d.kind d.volts k (reads_of g d)) v is).0 in
      let gives : given e d k (reads_of g d) ≡ Some v = ap (kept_within (floor_of e) (ceiling_of e)) offers ∙ keeps (floor_of e) (ceiling_of e) v up.0 up.1 in
      let same : slice_get e.devices i ≡ Some d = subst (λ (ds : List Device). slice_get ds i ≡ Some d) wider.same_devices there in
      let own : AreInRange c (reads_of g d) = reads_in_range c g d family in
      let reads : AreInRange e (reads_of g d) = record { a = interval_in (interval_at g (end_a d)) own.a; b = interval_in (interval_at g (end_b d)) own.b; g = interval_in (interval_at g (gate d)) own.g } in
      let more : AreAsWide (reads_of g d) (reads_of h d) = record { a = as_wide (end_a d); b = as_wide (end_b d); g = as_wide (gate d) } in
      let off : is_declared e (target d k) ≡ false = undeclared (fixed_at c (target d k)) (fixed_at e (target d k)) (wider.wider (target d k)) free in
      let none : fixed_at c (target d k) ≡ None = none_of (fixed_at c (target d k)) free in
      let drawn_is : interval_at g (target d k) ≡ drawn (floor_of c) (ceiling_of c) None (interval_at h (target d k)) = at (target d k) ∙ ap (λ (o : Option Fixed). drawn (floor_of c) (ceiling_of c) o (interval_at h (target d k))) none in
      subst (λ (j : Interval). Covers j k v) (sym drawn_is) (drawn_covers (interval_at h (target d k)) v _ range
      (by same off (given e d k (reads_of h d)) refl (monotone e d (reads_of g d) (reads_of h d) (second.sound i d same).drop reads (reads_in_range e h d other.family) more k v gives)))
    where
      by : slice_get e.devices i ≡ Some d → is_declared e (target d k) ≡ false → (o : Option ℤ) → given e d k (reads_of h d) ≡ o → IsSomeAnd o (TakesIn k v) → Covers (interval_at h (target d k)) k v
      by same off None gave takes = absurd takes
      by same off (Some w) gave takes = covers_through (interval_at h (target d k)) v w _ takes (other.closed i d same k w lt off gave)

  pub wider_least : IsWithin f h
  wider_least =
      let inner : IsWithin f g = least.least g family closed in
      let all : (n : ℕ) → IsAsWide (interval_at f n) (interval_at h n) = λ n. through (interval_at f n) (interval_at g n) (interval_at h n) (inner.low n, inner.high n) (as_wide n) in
      record { low = λ n. (all n).0; high = λ n. (all n).1 }
