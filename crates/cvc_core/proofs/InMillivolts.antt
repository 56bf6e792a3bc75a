-- A sound state told in millivolts: its intervals are a family, within every closed one, and they are what the public state answers.
use Rattle.std.proofs.Common.{◌≡◌, ℕ, ◌+◌, ◌*◌, List, slice_index, subst, sym, ◌∙◌}
use Rattle.cvc_base.specs.declared.ids.Side.TheVariants.{Low, High}
use Rattle.cvc_law.specs.declared.interval.Interval.{Interval}
use Rattle.cvc_law.specs.Network.{Network, nets}
use Rattle.cvc_law.specs.Family.{interval_at, IsFamily, IsWithin}
use Rattle.cvc_law.specs.Least.{IsClosed}
use Rattle.cvc_law.specs.Reach.{low_of, high_of}
use Rattle.cvc_law.specs.ReachLeast.{intervals, reaches, IsReachWithin}
use Rattle.cvc_law.proofs.ReachFamilies.{family_reaches, within_from_reaches}
use Rattle.cvc_law.proofs.ReachAgree.{closed_reaches, reaches_intervals, family_intervals, interval_of}
use Rattle.cvc_core.specs.State.{Machine}
use Rattle.cvc_core.specs.Sound.{Sound}
use Rattle.cvc_core.specs.Measured.{Measured, IsSoundOn, bound_at}

pub sound_family : (c : Network) (s : Machine) → Sound c s → IsFamily c (intervals c s.bounds)
sound_family c s ok = family_intervals c ok.form.circuit s.bounds ok.in_range.bounds

pub sound_within : (c : Network) (s : Machine) (f : List Interval) → Sound c s → IsFamily c f → IsClosed c f → IsWithin (intervals c s.bounds) f
sound_within c s f ok is closed = within_from_reaches c (intervals c s.bounds) f (sound_family c s ok)
    (subst (λ (z : List ℕ). IsReachWithin z (reaches c f)) (sym (reaches_intervals c s.bounds (nets c) ok.in_range.bounds.every_bound ok.in_range.bounds.in_range))
    (ok.within (reaches c f) (family_reaches c f is) (closed_reaches c ok.form.circuit f is closed)))

pub bounds_are : (c : Network) (s : Measured) (n : ℕ) → IsSoundOn c s → interval_at (intervals c s.machine.bounds) n ≡ record { low = bound_at s n Low; high = bound_at s n High }
bounds_are c s n ok = interval_of c s.machine.bounds (nets c) n ok.sound.in_range.bounds.every_bound
    ∙ (λ j. record { low = low_of (sym ok.ceiling j) (slice_index s.machine.bounds (2 * n)); high = high_of (sym ok.floor j) (slice_index s.machine.bounds (2 * n + 1)) })
