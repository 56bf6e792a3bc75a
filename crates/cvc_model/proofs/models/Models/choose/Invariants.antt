use Rattle.std.proofs.Common.{◌≡◌, ℕ, ◌-◌, ◌≤◌, drop, length}
use Rattle.std.specs.Option.{option_map_or}
use Rattle.cvc_model.specs.Chosen.{choice_from, choice_of, next_place}
use Rattle.cvc_model.proofs.models.Models.choose.Given as goal

-- the rows from a place on decide, and the next one of the name is known
abbrev pub invariant-loop-next : goal.invariant-loop-next
invariant-loop-next l = record {
  from : ℕ;
  within : from ≤ length l.self;
  next : l.next ≡ next_place l.self l.name from;
  rest : choice_of l.self l.name l.params ≡ choice_from l.params l.name from (drop from l.self);
}

abbrev pub decreases-loop-next : goal.decreases-loop-next
decreases-loop-next l = option_map_or (λ place. length l.self - place) l.next 0
