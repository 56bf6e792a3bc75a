-- A trail is quiet where a part of it is.
use Rattle.std.proofs.Common.{ℕ, ◌≡◌, List, [], ◌∷◌, ◌++◌, true, arith, refl, sym, subst}
use Rattle.std.proofs.lemmas.Grind.{common_steps}
use Rattle.cvc_law.specs.Network.{Network}
use Rattle.cvc_field.specs.declared.turn.Turn.{Turn}
use Rattle.cvc_field.specs.declared.turn.Turn.TheVariants.{Worked, Idle, Quiet}
use Rattle.cvc_field.specs.declared.view.Entry.{Entry}
use Rattle.cvc_field.specs.declared.view.Entry.TheVariants.{Counted}
use Rattle.cvc_field.specs.Trail.{is_quiet}
use Rattle.cvc_field.specs.Turns.{IsTurn}
use Rattle.cvc_crew.specs.declared.turns.Next.TheVariants.{End}
use Rattle.cvc_crew.specs.Workers.{next_of}

-- more steps before it
quiet_after : (old es : List Entry) → is_quiet es ≡ true → is_quiet (old ++ es) ≡ true
quiet_after [] es q = q
quiet_after (e ∷ old) es q = grind (arith, common_steps, quiet_after old es q)

-- after a turn that ends its worker the hand is quiet
pub ends_quiet : (c : Network) (first : ℕ) (t : Turn) (old es : List Entry) → IsTurn c first t es → next_of t ≡ End → is_quiet (old ++ es) ≡ true
ends_quiet c first Worked old es did is = cc
ends_quiet c first Idle old es did is = cc
ends_quiet c first Quiet old es did is =
    quiet_after old es (subst (λ (x : List Entry). is_quiet x ≡ true) (sym did.1) (quiet_after did.0 (Counted 0 ∷ []) refl))
