use Rattle.std.proofs.Common.{◌≡◌, ℕ, zero, suc, List, [], ◌∷◌, get_or, Some, None, arith, subst}
use Rattle.std.specs.Prelude.{◌≤ℤ◌, Option, slice_get}
use Rattle.std.proofs.lemmas.Int.{ints}
use Rattle.cvc_law.specs.declared.interval.Fixed.{Fixed}
use Rattle.cvc_law.specs.declared.device.Device.{Device}
use Rattle.cvc_law.specs.Network.{IsDevice, IsCircuit}
use Rattle.cvc_tests_parts.proofs.fields.one_resistor.Goals as goal

ordered : (w : Fixed) (n : ℕ) (v : Fixed) → w.low ≤ℤ w.high → get_or (Some w ∷ None ∷ []) n None ≡ Some v → v.low ≤ℤ v.high
ordered w zero v le e = let same : w ≡ v = cc in subst (λ (x : Fixed). x.low ≤ℤ x.high) same le
ordered w (suc zero) v le e = cc
ordered w (suc (suc n)) v le e = cc

sound : (d : Device) (i : ℕ) (e : Device) → IsDevice 2 d → slice_get (d ∷ []) i ≡ Some e → IsDevice 2 e
sound d zero e h is = let same : d ≡ e = cc in subst (IsDevice 2) same h
sound d (suc i) e h is = cc

one_circuit : (w : Fixed) (d : Device) → w.low ≤ℤ w.high → IsDevice 2 d → IsCircuit (Some w ∷ None ∷ []) (d ∷ [])
one_circuit w d le h = record { few_nets = omega arith; few_devices = omega arith; ordered = λ n v e. ordered w n v le e; sound = λ i e is. sound d i e h is }

pub new-requires-2 : goal.new-requires-2
new-requires-2 c = rw (c.in_ok-fixed.ensures.items, c.in_ok-devices.ensures.items) (one_circuit record { low = c.unwrap-supply.result; high = c.unwrap-supply.result } c.resistor.result (omega (arith, ints)) c.resistor.ensures)
