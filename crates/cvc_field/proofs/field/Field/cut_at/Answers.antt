use Rattle.std.proofs.Common.{sym, ◌∙◌, subst, arith}
use Rattle.atomic_table.specs.Table.{Splits}
use Rattle.cvc_law.specs.Network.{Network}
use Rattle.cvc_field.specs.Views.{left_of, right_of}
use Rattle.cvc_field.specs.Field.{IsSoundField}
use Rattle.cvc_field.proofs.Splitting.{splits}
use Rattle.cvc_field.proofs.field.Field.cut_at.Goals as goal

pub split_seat-requires : goal.split_seat-requires
split_seat-requires g c = let f = c.args.self.now in let t = c.args.seat.now in let sized = f.sized in (
  c.requires.seat.0,
  omega arith,
  subst (λ (z : Network). Splits (IsSoundField z f.table.shared.key.hands) t.id t.me.0 (left_of g.W.Cut.at t.me.0) (right_of g.W.Cut.at t.me.0)) (c.requires.seat.2 ∙ sym f.about)
      (splits f.table.shared.key.hands t.id t.me.0 g.W.Cut.at c.requires.seat.3 c.requires.idle c.requires.at.0 c.requires.at.1),
)
