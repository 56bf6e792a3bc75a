use Rattle.std.proofs.Common.{◌+◌, ◌%◌, arith, subst, ◌∙◌}
use Rattle.std.specs.Slots.{slots_items}
use Rattle.cvc_field.specs.Words.{IsStoredWord}
use Rattle.cvc_field.proofs.Ending.{elem_index, told_bound, side_few}
use Rattle.cvc_field.proofs.closed.Closed.bound.Goals as goal

pub bound_in-requires : goal.bound_in-requires
bound_in-requires c = let z = c.args.self.now in let b = c.bound_index-bound.result in let few = side_few c.args.side in let is = c.bound_index-bound.ensures.index in let within_nets = c.requires in
    subst (IsStoredWord (b % 2)) (elem_index (slots_items z.table.words) (1 + b) c.word.result c.word.ensures) (z.stored b (omega arith))

pub returns : goal.returns
returns c = let z = c.args.self.now in let b = c.bound_index-bound.result in
    c.bound_in.ensures ∙ told_bound z.nets c.args.n.0 c.args.side (slots_items z.table.words) b c.word.result c.requires c.bound_index-bound.ensures.index (elem_index (slots_items z.table.words) (1 + b) c.word.result c.word.ensures)
