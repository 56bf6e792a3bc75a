use Rattle.std.proofs.Common.{arith, sym}
use Rattle.std.proofs.lemmas.List.{length-take-le}
use Rattle.cvc_top.proofs.Verifying.{few_lines}
use Rattle.cvc_top.proofs.verify.line_past_limit.Goals as goal

pub slice_bounds-count_line_feeds-end : goal.slice_bounds-count_line_feeds-end
slice_bounds-count_line_feeds-end c = sym (length-take-le 134217728 c.args.bytes.now (omega (arith, c.requires)))

pub overflow_cast-result : goal.overflow_cast-result
overflow_cast-result c = omega (arith, c.count_line_feeds-ended.ensures, few_lines c.args.bytes.now)

pub overflow_add-result : goal.overflow_add-result
overflow_add-result c = omega (arith, c.count_line_feeds-ended.ensures, few_lines c.args.bytes.now)
