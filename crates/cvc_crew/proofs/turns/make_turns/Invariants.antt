use Rattle.cvc_crew.specs.Workers.{IsKept}
use Rattle.cvc_crew.proofs.turns.make_turns.Given as goal

abbrev pub invariant-loop : goal.invariant-loop
invariant-loop g l = IsKept l.shared.field.now l.fn.hand l.hand
