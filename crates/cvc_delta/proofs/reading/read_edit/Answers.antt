use Rattle.std.proofs.Common.{sym, subst, true, false}
use Rattle.cvc_rows.specs.Refusing.{Answers}
use Rattle.cvc_delta.proofs.Lines.{no_tokens, is_set, is_unset, by_last}
use Rattle.cvc_delta.proofs.reading.read_edit.Goals as goal

pub returns-in_default-clause-edit : goal.returns-in_default-clause-edit
returns-in_default-clause-edit c = no_tokens c.args.tokens.now c.in_default.len_below

pub returns-then-is_word-clause-edit : goal.returns-then-is_word-clause-edit
returns-then-is_word-clause-edit c =
    subst (Answers c.read_set.result) (sym (is_set c.args.tokens.now c.first-item.result c.in-len1-up.len_at_least c.first-item.is c.bytes-word.result.now c.bytes-word.ensures
    c.is_word.result false false c.is_word.ensures c.if-is_word.true)) c.read_set.ensures.edit

pub returns-then-is_word-2-clause-edit : goal.returns-then-is_word-2-clause-edit
returns-then-is_word-2-clause-edit c =
    subst (Answers c.read_unset.result) (sym (is_unset c.args.tokens.now c.first-item.result c.in-len1-up.len_at_least c.first-item.is c.bytes-word.result.now c.bytes-word.ensures
    c.is_word.result c.is_word-else-is_word.result false c.is_word.ensures c.if-is_word.false c.is_word-else-is_word.ensures c.if-is_word-2.true)) c.read_unset.ensures.edit

pub returns-then-is_word-3-clause-edit : goal.returns-then-is_word-3-clause-edit
returns-then-is_word-3-clause-edit c =
    subst (Answers c.read_recheck.result) (sym (by_last c.args.tokens.now c.first-item.result c.in-len1-up.len_at_least c.first-item.is c.bytes-word.result.now c.bytes-word.ensures
    c.is_word.result c.is_word-else-is_word.result c.is_word-else-is_word-2.result c.is_word.ensures c.if-is_word.false c.is_word-else-is_word.ensures c.if-is_word-2.false
    c.is_word-else-is_word-2.ensures true c.if-is_word-3.true)) c.read_recheck.ensures.edit

pub returns-else-is_word-3-clause-edit : goal.returns-else-is_word-3-clause-edit
returns-else-is_word-3-clause-edit c =
    by_last c.args.tokens.now c.first-item.result c.in-len1-up.len_at_least c.first-item.is c.bytes-word.result.now c.bytes-word.ensures
    c.is_word.result c.is_word-else-is_word.result c.is_word-else-is_word-2.result c.is_word.ensures c.if-is_word.false c.is_word-else-is_word.ensures c.if-is_word-2.false
    c.is_word-else-is_word-2.ensures false c.if-is_word-3.false
