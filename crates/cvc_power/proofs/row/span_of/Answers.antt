use Rattle.std.proofs.Common.{rules}
use Rattle.cvc_rows.proofs.Items.{two_items, three_items}
use Rattle.cvc_power.proofs.Spans.{is_power, no_power, is_input, no_input, too_few, too_many}
use Rattle.cvc_power.proofs.row.span_of.Goals as goal
use Rattle.cvc_power.proofs.row.span_of.Goals.{in_default-via-then-tokens-lt2, in_default-via-in-len2+else-is_word, in_default-via-in-len3+else-is_word-2, in_default-via-else-tokens-lt2+else-tokens-lt3+else-tokens-lt4}

pub returns-in-len2-clause-span : goal.returns-in-len2-clause-span
returns-in-len2-clause-span c =
    is_power c.args.tokens.now c.word-item.result c.bytes.result.now c.bytes.ensures c.is_word.result c.only-item.result
    (two_items c.args.tokens.now c.word-item.result c.only-item.result c.in-len2.len_at_least c.in-len2.len_below c.word-item.is c.only-item.is)
    c.is_word.ensures c.if-is_word.true c.bytes-in-len2.result.now c.bytes-in-len2.ensures _ c.one_voltage.ensures.span

pub returns-in-len3-clause-span : goal.returns-in-len3-clause-span
returns-in-len3-clause-span c =
    is_input c.args.tokens.now c.word-item-then-tokens-lt4.result c.bytes-then-tokens-lt4.result.now c.bytes-then-tokens-lt4.ensures c.is_word-then-tokens-lt4.result
    c.min-item.result c.max-item.result
    (three_items c.args.tokens.now c.word-item-then-tokens-lt4.result c.min-item.result c.max-item.result c.in-len3.len_at_least c.in-len3.len_below
    c.word-item-then-tokens-lt4.is c.min-item.is c.max-item.is)
    c.is_word-then-tokens-lt4.ensures c.if-is_word-2.true
    c.bytes-in-len3.result.now c.bytes-in-len3-2.result.now c.bytes-in-len3.ensures c.bytes-in-len3-2.ensures _ c.two_voltages.ensures.span

pub returns-in_default-clause-span : goal.returns-in_default-clause-span
returns-in_default-clause-span c =
    elim c.in_default.branch [
      | in_default-via-then-tokens-lt2 w ↦ too_few c.args.tokens.now (search rules)
      | in_default-via-in-len2+else-is_word w ↦
          no_power c.args.tokens.now w.word-item.result w.bytes.result.now w.bytes.ensures w.is_word.result w.only-item.result
          (two_items c.args.tokens.now w.word-item.result w.only-item.result w.in-len2.len_at_least w.in-len2.len_below w.word-item.is w.only-item.is)
          w.is_word.ensures w.if-is_word.false
      | in_default-via-in-len3+else-is_word-2 w ↦
          no_input c.args.tokens.now w.word-item-then-tokens-lt4.result w.bytes-then-tokens-lt4.result.now w.bytes-then-tokens-lt4.ensures w.is_word-then-tokens-lt4.result
          w.min-item.result w.max-item.result
          (three_items c.args.tokens.now w.word-item-then-tokens-lt4.result w.min-item.result w.max-item.result w.in-len3.len_at_least w.in-len3.len_below
          w.word-item-then-tokens-lt4.is w.min-item.is w.max-item.is)
          w.is_word-then-tokens-lt4.ensures w.if-is_word-2.false
      | in_default-via-else-tokens-lt2+else-tokens-lt3+else-tokens-lt4 w ↦ too_many c.args.tokens.now (search rules)
    ]
