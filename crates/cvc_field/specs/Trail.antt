-- A trail is the list of a hand's steps, each with the word that it returned. Contracts alone see it.
-- From it one tells what the hand saw of a bound or gave it, and whether it read a count of 0.
use Rattle.std.specs.Prelude.{◌≡◌, ℕ, ◌%◌, ◌≤◌, List, [], ◌∷◌, Bool, false, ◌&&◌, ◌||◌, ◌==◌, slice_index}
use Rattle.cvc_law.specs.Network.{Network}
use Rattle.cvc_law.specs.Reach.{read_place, target_place}
use Rattle.cvc_law.specs.ReachWord.{reach_in}
use Rattle.cvc_law.specs.ReachLeast.{IsReachFamily, IsReachClosed}
use Rattle.cvc_core.specs.declared.actor.Actor.{Actor}
use Rattle.cvc_core.specs.declared.actor.Intent.{Intent}
use Rattle.cvc_core.specs.declared.actor.Intent.TheVariants.{Read, Widen, TakeCredit, Queue, Claim, Release, GiveCredit, AskCount, LookAt, Peek}
use Rattle.cvc_core.specs.State.{offer, run_of, next_device, device_of}
use Rattle.cvc_field.specs.declared.view.Entry.{Entry}
use Rattle.cvc_field.specs.declared.view.Entry.TheVariants.{Loaded, Gave, Added, Queued, Took, Dropped, Subtracted, Counted, Looked}

-- the entry of a step of an actor that is at a, and that found the word r
abbrev pub entry_of : Network → Intent → Actor → ℕ → Entry
entry_of c (Read i) a r = Loaded (read_place (device_of c (run_of a)) i) r
entry_of c (Widen k) a r = Gave (target_place (device_of c (run_of a)) k) (offer c (run_of a) k) r
entry_of c TakeCredit a r = Added r
entry_of c Queue a r = Queued (next_device c (run_of a)) r
entry_of c (Claim d) a r = Took d.0 r
entry_of c Release a r = Dropped (run_of a).device.0 r
entry_of c GiveCredit a r = Subtracted r
entry_of c AskCount a r = Counted r
entry_of c (LookAt d) a r = Looked d.0 r
entry_of c (Peek b) a r = Loaded b r

-- ---- what was seen of a bound, or given to it
-- what a step saw of a bound, or put there, is covered by the bounds f
abbrev pub Covers : Network → List ℕ → Entry → Type 0
Covers c f (Loaded b r) = reach_in c (b % 2) r ≤ slice_index f b
Covers c f (Gave b x r) = (reach_in c (b % 2) r ≤ slice_index f b) × (x ≤ slice_index f b)
Covers c f _ = Unit {0}

abbrev pub CoversEach : Network → List ℕ → List Entry → Type 0
CoversEach c f [] = Unit {0}
CoversEach c f (e ∷ es) = Covers c f e × CoversEach c f es

-- what a step saw of the bound b, or gave it, reaches at most as far as x
abbrev pub SawAtMost : Network → ℕ → ℕ → Entry → Type 0
SawAtMost c b x (Loaded d r) = d ≡ b → reach_in c (d % 2) r ≤ x
SawAtMost c b x (Gave d y r) = d ≡ b → (reach_in c (d % 2) r ≤ x) × (y ≤ x)
SawAtMost c b x _ = Unit {0}

abbrev pub EachAtMost : Network → ℕ → ℕ → List Entry → Type 0
EachAtMost c b x [] = Unit {0}
EachAtMost c b x (e ∷ es) = SawAtMost c b x e × EachAtMost c b x es

abbrev pub gives_it : ℕ → ℕ → Entry → Bool
gives_it b x (Gave d y r) = (d == b) && (y == x)
gives_it b x _ = false

-- whether a step gave the reach x to the bound b
abbrev pub gave : ℕ → ℕ → List Entry → Bool
gave b x [] = false
gave b x (e ∷ es) = gives_it b x e || gave b x es

-- the reach x is within each closed family at the bound b, and so within the least one
abbrev pub WithinClosed : Network → ℕ → ℕ → Type 0
WithinClosed c b x = (g : List ℕ) → IsReachFamily c g → IsReachClosed c g → x ≤ slice_index g b

-- ---- what was read of the count
abbrev pub counted_zero : Entry → Bool
counted_zero (Counted r) = r == 0
counted_zero _ = false

-- whether a step read a count of 0
abbrev pub is_quiet : List Entry → Bool
is_quiet [] = false
is_quiet (e ∷ es) = counted_zero e || is_quiet es
