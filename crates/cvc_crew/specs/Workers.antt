-- What workers do to hands. A turn keeps a hand's field and its numbers, and a worker ends only when its hand is quiet.
-- Where hands are lent to threads, each stands in a place of its own, and is put back there when its workers have ended.
use Rattle.std.specs.Prelude.{◌≡◌, ℕ, ◌≤◌, true, Option, Some, None, IfSome, IsSome}
use Rattle.cvc_field.specs.declared.field.Field.{Field}
use Rattle.cvc_field.specs.declared.turn.Turn.{Turn}
use Rattle.cvc_field.specs.declared.turn.Turn.TheVariants.{Worked, Idle, Quiet}
use Rattle.cvc_field.specs.Hands.{HandView}
use Rattle.cvc_field.specs.Seats.{IsHandOf}
use Rattle.cvc_field.specs.Trail.{is_quiet}
use Rattle.cvc_crew.specs.declared.turns.Next.{Next}
use Rattle.cvc_crew.specs.declared.turns.Next.TheVariants.{GoOn, Pause, End}

-- the second is the first after some steps: of the same field, with the same numbers
abbrev pub IsKept : Field → HandView → HandView → Type 0
IsKept f h g = IsHandOf f g × (g.first ≡ h.first) × (g.numbers ≡ h.numbers)

-- the second is the first after its workers have ended: with the same numbers, and quiet
abbrev pub IsDone : HandView → HandView → Type 0
IsDone h g = (g.first ≡ h.first) × (g.numbers ≡ h.numbers) × (is_quiet g.trail ≡ true)

-- a worker goes on where it took a device, pauses where it found none, and ends where the count was 0
abbrev pub next_of : Turn → Next
next_of Worked = GoOn
next_of Idle = Pause
next_of Quiet = End

-- ## Hands in places

-- the place's hand is of the field, and has at most so many numbers
abbrev pub IsHandIn : Field → ℕ → Option HandView → Type 0
IsHandIn f most place = IfSome place (λ h. IsHandOf f h × (h.numbers ≤ most))

-- where the place held a hand, it holds one whose workers have ended
abbrev pub IsDoneIn : Field → Option HandView → Option HandView → Type 0
IsDoneIn f old new = IfSome old (λ h. IfSome new (λ g. IsHandOf f g × IsDone h g) × IsSome new)

-- how many numbers the place's hand has
abbrev pub numbers_in : Option HandView → ℕ
numbers_in None = 0
numbers_in (Some h) = h.numbers
