use Rattle.std.proofs.Common.{sym, ◌∙◌, subst, arith}
use Rattle.atomic_table.specs.Table.{Joins}
use Rattle.cvc_law.specs.Network.{Network}
use Rattle.cvc_field.specs.Views.{both_of, spent_view}
use Rattle.cvc_field.specs.Field.{IsSoundField}
use Rattle.cvc_field.proofs.Splitting.{joins}
use Rattle.cvc_field.proofs.field.Field.put_together.Goals as goal

pub join_seat-requires : goal.join_seat-requires
join_seat-requires c = let f = c.args.self.now in let t = c.args.seat.now in let u = c.args.other in let sized = f.sized in (
  c.requires.seats.0.0,
  c.requires.seats.1.0,
  c.requires.seats.1.1,
  omega arith,
  subst (λ (z : Network). Joins (IsSoundField z f.table.shared.key.hands) t.id t.me.0 u.id u.me.0 (both_of t.me.0 u.me.0) spent_view) (c.requires.seats.0.2 ∙ sym f.about)
      (joins f.table.shared.key.hands t.id t.me.0 u.id u.me.0 c.requires.seats.0.3 c.requires.seats.1.3 c.requires.idle.0 c.requires.idle.1 c.requires.next),
)
