use Rattle.std.proofs.Common.{◌≡◌}
use Rattle.cvc_model.specs.Chosen.{next_place}
use Rattle.cvc_model.proofs.models.place_from.Given as goal

abbrev pub invariant-loop-place : goal.invariant-loop-place
invariant-loop-place l = next_place l.rows l.name l.from ≡ next_place l.rows l.name l.place
