-- Rows that are widened are bound as before, to a circuit with wider supplies.
use Rattle.std.proofs.Common.{◌≡◌, ℕ, suc, ◌+◌, ◌<◌, ◌≤◌, ◌==◌, Bool, true, false, cond, List, [], ◌∷◌, ◌++◌, length, map, inl, inr, refl, sym, ap, subst, ◌∙◌, arith}
use Rattle.std.proofs.lemmas.Bool.{cases_lt}
use Rattle.std.proofs.lemmas.Int.{ints}
use Rattle.std.proofs.lemmas.List.{get_or_past}
use Rattle.std.proofs.lemmas.List.Elements.{All-head, All-tail}
use Rattle.std.proofs.lemmas.List.FromFn.{get_or-map-range_with_len, length-map-range_with_len}
use Rattle.std.specs.Prelude.{ℤ, ◌≤ℤ◌, All, Option, Some, None, IfSome, IsSomeAnd, is_some, Result, Ok, Err, slice_index_or, slice_get}
use Rattle.std.specs.List.{range_with_len}
use Rattle.cvc_base.specs.declared.fault.Fault.{Fault}
use Rattle.cvc_base.specs.declared.ids.NetId.{NetId}
use Rattle.cvc_base.specs.Order.{◌>>=◌}
use Rattle.cvc_bind.specs.declared.nets.Misnamed.{Misnamed}
use Rattle.cvc_bind.specs.Bound.{circuit_of}
use Rattle.cvc_bind.specs.DeclaredNets.{at_lines, span_of, declared, fixed_of}
use Rattle.cvc_bind.specs.Devices.{devices_of}
use Rattle.cvc_bind.specs.Nets.{nets_of}
use Rattle.cvc_flat.specs.Flat.{FlatList}
use Rattle.cvc_law.specs.declared.device.Device.{Device}
use Rattle.cvc_law.specs.declared.interval.Fixed.{Fixed}
use Rattle.cvc_law.specs.declared.interval.Interval.{Interval}
use Rattle.cvc_law.specs.Network.{Network, nets, fixed_at, is_declared, IsDevice, IsCircuit}
use Rattle.cvc_law.specs.Family.{interval_at, IsFamily, IsWithin}
use Rattle.cvc_law.specs.Least.{IsLeast}
use Rattle.cvc_law.specs.Monotone.{IsAsWide}
use Rattle.cvc_model.specs.declared.row.ModelRow.{ModelRow}
use Rattle.cvc_power.specs.declared.row.PowerRow.{PowerRow}
use Rattle.cvc_power.specs.Power.{IsOrdered}
use Rattle.cvc_serial.specs.Starting.{IsStart}
use Rattle.cvc_serial.specs.Supplies.{IsWiderFixed, AreWiderSupplies, WiderSuppliesGiveAWiderLeastFamily}
use Rattle.cvc_delta.specs.Rows.{IsWiderRow, AreWiderRows}
use Rattle.cvc_delta.specs.Wider.{IsBase, WideningKeepsABase}

abbrev names : List PowerRow → List (List ℕ)
names rows = map (λ (row : PowerRow). row.name) rows

same_names : (rs ws : List PowerRow) → AreWiderRows rs ws → names rs ≡ names ws
same_names [] [] h = refl
same_names [] (w ∷ ws) h = absurd h
same_names (r ∷ rs) [] h = absurd h
same_names (r ∷ rs) (w ∷ ws) h = λ i. h.0.name i ∷ same_names rs ws h.1 i

-- ---- wider declarations
declared_wider : (ns : List NetId) (rs ws : List PowerRow) (n : ℕ) → AreWiderRows rs ws → IsWiderFixed (declared ns rs n) (declared ns ws n)
unfolding declared
declared_wider [] rs ws n h = tt
declared_wider (net ∷ ns) [] [] n h = tt
declared_wider (net ∷ ns) [] (w ∷ ws) n h = absurd h
declared_wider (net ∷ ns) (r ∷ rs) [] n h = absurd h
declared_wider (net ∷ ns) (r ∷ rs) (w ∷ ws) n h = by (net.0 == n) (declared_wider ns rs ws n h.1)
  where
    by : (b : Bool) → IsWiderFixed (declared ns rs n) (declared ns ws n) → IsWiderFixed (cond b (Some (span_of r)) (declared ns rs n)) (cond b (Some (span_of w)) (declared ns ws n))
    by true later = (h.0.low, h.0.high)
    by false later = later

-- ---- no declared low lies above its high
declared_ordered : (ns : List NetId) (rs : List PowerRow) (n : ℕ) → All IsOrdered rs → IfSome (declared ns rs n) (λ w. w.low ≤ℤ w.high)
unfolding declared
declared_ordered [] rs n h = tt
declared_ordered (net ∷ ns) [] n h = tt
declared_ordered (net ∷ ns) (r ∷ rs) n h = by (net.0 == n) (declared_ordered ns rs n (All-tail IsOrdered r rs h))
  where
    by : (b : Bool) → IfSome (declared ns rs n) (λ w. w.low ≤ℤ w.high) → IfSome (cond b (Some (span_of r)) (declared ns rs n)) (λ w. w.low ≤ℤ w.high)
    by true later = All-head IsOrdered r rs h
    by false later = later

module _ (f : FlatList) (ns : List NetId) where
  abbrev supplies : List PowerRow → List (Option Fixed)
  supplies rs = map (declared ns rs) (range_with_len 0 (length f.nets))

  supplies_wider : (rs ws : List PowerRow) (n : ℕ) → AreWiderRows rs ws → IsWiderFixed (slice_index_or (supplies rs) n None) (slice_index_or (supplies ws) n None)
  supplies_wider rs ws n h = elim (cases_lt n (length f.nets)) [
    | inl less ↦ subst (λ (o : Option Fixed). IsWiderFixed o (slice_index_or (supplies ws) n None)) (sym (at rs less)) (subst (λ (o : Option Fixed). IsWiderFixed (declared ns rs n) o) (sym (at ws less)) (declared_wider ns rs ws n h))
    | inr more ↦ subst (λ (o : Option Fixed). IsWiderFixed o (slice_index_or (supplies ws) n None)) (sym (past rs more)) (subst (λ (o : Option Fixed). IsWiderFixed None o) (sym (past ws more)) tt)
  ] where
    at : (xs : List PowerRow) → n < length f.nets → slice_index_or (supplies xs) n None ≡ declared ns xs n
    at xs less = get_or-map-range_with_len (declared ns xs) 0 (length f.nets) n n None less (omega arith)

    past : (xs : List PowerRow) → length f.nets ≤ n → slice_index_or (supplies xs) n None ≡ None
    past xs more = get_or_past (supplies xs) n None (let long : length (supplies xs) ≡ length f.nets = length-map-range_with_len (declared ns xs) 0 (length f.nets) in omega arith)

  supplies_ordered : (rs : List PowerRow) (n : ℕ) (w : Fixed) → All IsOrdered rs → slice_index_or (supplies rs) n None ≡ Some w → w.low ≤ℤ w.high
  supplies_ordered rs n w h is = elim (cases_lt n (length f.nets)) [
    | inl less ↦ let own : IfSome (slice_index_or (supplies rs) n None) (λ v. v.low ≤ℤ v.high) = subst (λ (o : Option Fixed). IfSome o (λ v. v.low ≤ℤ v.high)) (sym (get_or-map-range_with_len (declared ns rs) 0 (length f.nets) n n None less (omega arith))) (declared_ordered ns rs n h) in
        subst (λ (o : Option Fixed). IfSome o (λ v. v.low ≤ℤ v.high)) is own
    | inr more ↦ absurd (let none : slice_index_or (supplies rs) n None ≡ None = get_or_past (supplies rs) n None (let long : length (supplies rs) ≡ length f.nets = length-map-range_with_len (declared ns rs) 0 (length f.nets) in omega arith) in
        let no : None ≡ Some w = sym none ∙ is in cc)
  ]

-- ---- the circuits
module _ (f : FlatList) where
  abbrev circuit_by : Result (List Device) Fault → Result (List NetId) Misnamed → List PowerRow → Result Network Fault
  circuit_by ds ns rs = ◌>>=◌ ds (λ devices. ◌>>=◌ (◌>>=◌ (at_lines rs ns) (λ found. Ok (map (declared found rs) (range_with_len 0 (length f.nets))))) (λ fixed. Ok record { fixed = fixed; devices = devices }))

  -- the circuit of the narrower rows, where the wider ones have one
  pub record Narrower (models : List ModelRow) (rs : List PowerRow) (e : Network) : Type 0 where
    pub circuit : Network
    pub made : circuit_of f models rs ≡ Ok circuit
    pub wider : AreWiderSupplies circuit e
    pub ordered : (n : ℕ) (w : Fixed) → fixed_at circuit n ≡ Some w → w.low ≤ℤ w.high

  narrower : (models : List ModelRow) (rs ws : List PowerRow) (e : Network) → All IsOrdered rs → AreWiderRows rs ws → circuit_of f models ws ≡ Ok e → Narrower models rs e
  narrower models rs ws e ordered h made = by (devices_of f models) refl (nets_of f (names ws)) refl made where
    by : (ds : Result (List Device) Fault) → devices_of f models ≡ ds → (ns : Result (List NetId) Misnamed) → nets_of f (names ws) ≡ ns → circuit_by ds ns ws ≡ Ok e → Narrower models rs e
    by (Err x) devices ns found is = cc
    by (Ok ds) devices (Err x) found is = cc
    by (Ok ds) devices (Ok ns) found is =
        let same : record { fixed = supplies f ns ws; devices = ds } ≡ e = cc in
        let fine : nets_of f (names rs) ≡ Ok ns = ap (nets_of f) (same_names rs ws h) ∙ found in
        let c : Network = record { fixed = supplies f ns rs; devices = ds } in
        let P : Network → Type 0 = λ x. AreWiderSupplies c x in
        record {
          circuit = c;
          made = (λ i. circuit_by (devices i) (fine i) rs);
          wider = subst P same record { same_devices = refl; same_nets = length-map-range_with_len (declared ns rs) 0 (length f.nets) ∙ sym (length-map-range_with_len (declared ns ws) 0 (length f.nets)); wider = λ n. supplies_wider f ns rs ws n h };
          ordered = λ n w there. supplies_ordered f ns rs n w ordered there;
        }

-- a circuit with narrower supplies is one too
narrower_circuit : (c e : Network) → AreWiderSupplies c e → ((n : ℕ) (w : Fixed) → fixed_at c n ≡ Some w → w.low ≤ℤ w.high) → IsCircuit e.fixed e.devices → IsCircuit c.fixed c.devices
narrower_circuit c e wider ordered circuit =
    let P : List Device → Type 0 = λ ds. length ds ≤ 500000 in
    record {
      few_nets = omega (arith, wider.same_nets, circuit.few_nets);
      few_devices = subst P (sym wider.same_devices) circuit.few_devices;
      ordered = ordered;
      sound = λ i d there. subst (λ (n : ℕ). IsDevice n d) (sym wider.same_nets) (circuit.sound i d (subst (λ (ds : List Device). slice_get ds i ≡ Some d) wider.same_devices there));
    }

undeclared : (o p : Option Fixed) → IsWiderFixed o p → is_some p ≡ false → is_some o ≡ false
undeclared None None wide is = refl
undeclared None (Some w) wide is = absurd wide
undeclared (Some v) None wide is = absurd wide
undeclared (Some v) (Some w) wide is = is

through : (i j k : Interval) → IsAsWide i j → IsAsWide j k → IsAsWide i k
through i j k p q = (lows i.low j.low k.low p.0 q.0, highs i.high j.high k.high p.1 q.1) where
  lows : (a b c : Option ℤ) → IfSome a (λ x. IsSomeAnd b (λ y. y ≤ℤ x)) → IfSome b (λ x. IsSomeAnd c (λ y. y ≤ℤ x)) → IfSome a (λ x. IsSomeAnd c (λ y. y ≤ℤ x))
  lows None b c p q = tt
  lows (Some x) None c p q = absurd p
  lows (Some x) (Some y) None p q = absurd q
  lows (Some x) (Some y) (Some z) p q = omega (arith, ints)

  highs : (a b c : Option ℤ) → IfSome a (λ x. IsSomeAnd b (λ y. x ≤ℤ y)) → IfSome b (λ x. IsSomeAnd c (λ y. x ≤ℤ y)) → IfSome a (λ x. IsSomeAnd c (λ y. x ≤ℤ y))
  highs None b c p q = tt
  highs (Some x) None c p q = absurd p
  highs (Some x) (Some y) None p q = absurd q
  highs (Some x) (Some y) (Some z) p q = omega (arith, ints)

-- what the laws of lower crates say
abbrev pub OneLeast : Type 0
OneLeast = (c : Network) → IsCircuit c.fixed c.devices → (f : List Interval) × IsLeast c f × ((g : List Interval) → IsLeast c g → g ≡ f)

pub base_kept : OneLeast → WiderSuppliesGiveAWiderLeastFamily → WideningKeepsABase
base_kept one law f models rows wides bounds ordered wider base e made circuit =
    let n = narrower f models rows wides e ordered wider made in
    let c = n.circuit in
    let first : IsCircuit c.fixed c.devices = narrower_circuit c e n.wider n.ordered circuit in
    let start : IsStart c bounds = base c n.made first in
    let least = one c first in
    record {
      every_net = start.every_net ∙ n.wider.same_nets;
      covered = λ g m other free.
          let within : IsWithin least.0 g = law c e least.0 g first circuit n.wider least.1 other in
          through (interval_at bounds m) (interval_at least.0 m) (interval_at g m) (start.covered least.0 m least.1 (undeclared (fixed_at c m) (fixed_at e m) (n.wider.wider m) free)) (within.low m, within.high m);
    }

-- a least family may be the start
pub least_is_start : OneLeast → (c : Network) (f : List Interval) → IsCircuit c.fixed c.devices → IsLeast c f → IsStart c f
least_is_start one c f circuit least = record {
  every_net = least.family.every_net;
  covered = λ g n other free.
      let own = one c circuit in
      let same : f ≡ g = own.2 f least ∙ sym (own.2 g other) in
      subst (λ (h : List Interval). IsAsWide (interval_at f n) (interval_at h n)) same (itself (interval_at f n));
}
  where
    itself : (i : Interval) → IsAsWide i i
    itself i = (low i.low, high i.high)
      where
        low : (o : Option ℤ) → IfSome o (λ x. IsSomeAnd o (λ y. y ≤ℤ x))
        low None = tt
        low (Some x) = omega (arith, ints)

        high : (o : Option ℤ) → IfSome o (λ x. IsSomeAnd o (λ y. x ≤ℤ y))
        high None = tt
        high (Some x) = omega (arith, ints)
