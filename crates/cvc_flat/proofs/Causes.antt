-- The causes at a device.
use Rattle.std.proofs.Common.{◌≡◌, ℕ, ◌<◌, ◌≤◌, Bool, true, false, List, length, sym, ap, ◌∙◌, arith}
use Rattle.std.proofs.Common.{subst}
use Rattle.std.specs.Prelude.{Option, Some, None, Err, nat_le, nat_lt, if◌then◌else◌}
use Rattle.std.specs.Option.{option_map}
use Rattle.cvc_base.specs.Answers.{Refuses}
use Rattle.cvc_base.specs.declared.cause.Cause.{Cause}
use Rattle.cvc_base.specs.declared.fault.Refusal.{Refusal}
use Rattle.cvc_base.specs.declared.fault.Refusal.TheVariants.{At}
use Rattle.std.proofs.lemmas.Bool.Decides.{nat_tests}
use Rattle.cvc_base.specs.declared.cause.Cause.TheVariants.{TooManyDevices, TooManyNets, ParamLoop}
use Rattle.cvc_card.specs.declared.card.DeviceCard.{DeviceCard}
use Rattle.cvc_cdl.specs.declared.netlist.Netlist.{Netlist}
use Rattle.cvc_cdl.specs.Building.{cause_if, fault_at}
use Rattle.cvc_cdl.specs.Instances.{Instance}
use Rattle.cvc_params.specs.Places.{has_loop}
use Rattle.cvc_plan.specs.Nets.{Net}
use Rattle.cvc_flat.specs.Flat.{limits, nets_once, pins_of}
use Rattle.cvc_flat.specs.Making.{device_cause_in}

module _ (n : Netlist) (count : ℕ) (known : List Net) (p : Instance) (d : DeviceCard) (few : count < 500000) where
  behind_devices : device_cause_in limits n count known p d ≡ (if nat_lt 1000000 (length (nets_once known (pins_of n p d))) then Some TooManyNets else cause_if (has_loop n p d.pairs) ParamLoop)
  behind_devices =
      let x : nat_le 500000 count ≡ false = grind (arith, nat_tests) in
      ap (λ (b : Bool). if b then Some TooManyDevices else (if nat_lt 1000000 (length (nets_once known (pins_of n p d))) then Some TooManyNets else cause_if (has_loop n p d.pairs) ParamLoop)) x

  pub cause_nets : 1000000 < length (nets_once known (pins_of n p d)) → device_cause_in limits n count known p d ≡ Some TooManyNets
  cause_nets many =
      let x : nat_lt 1000000 (length (nets_once known (pins_of n p d))) ≡ true = grind (arith, nat_tests) in
      behind_devices ∙ ap (λ (b : Bool). if b then Some TooManyNets else cause_if (has_loop n p d.pairs) ParamLoop) x

  behind_nets : length (nets_once known (pins_of n p d)) ≤ 1000000 → device_cause_in limits n count known p d ≡ cause_if (has_loop n p d.pairs) ParamLoop
  behind_nets room =
      let x : nat_lt 1000000 (length (nets_once known (pins_of n p d))) ≡ false = grind (arith, nat_tests) in
      behind_devices ∙ ap (λ (b : Bool). if b then Some TooManyNets else cause_if (has_loop n p d.pairs) ParamLoop) x

  pub cause_loop : length (nets_once known (pins_of n p d)) ≤ 1000000 → has_loop n p d.pairs ≡ true → device_cause_in limits n count known p d ≡ Some ParamLoop
  cause_loop room e = behind_nets room ∙ ap (λ (b : Bool). cause_if b ParamLoop) e

  pub cause_none : length (nets_once known (pins_of n p d)) ≤ 1000000 → has_loop n p d.pairs ≡ false → device_cause_in limits n count known p d ≡ None
  cause_none room e = behind_nets room ∙ ap (λ (b : Bool). cause_if b ParamLoop) e

pub refuses_at : (o : Option Cause) (line : ℕ) (cause : Cause) (refusal : Refusal) → refusal ≡ At (fault_at line cause) → o ≡ Some cause → Refuses {A = Unit {0}} (option_map (fault_at line) o) (Err refusal)
refuses_at o line cause refusal e is = subst (λ (r : Refusal). Refuses {A = Unit {0}} (option_map (fault_at line) o) (Err r)) (sym e) (ap (option_map (fault_at line)) is)
