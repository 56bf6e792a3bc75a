use Rattle.cvc_lex.proofs.Tokened.{at_end_tokens, so_far_tokens}
use Rattle.cvc_lex.proofs.laws.each_line_has_a_token.Goals as goal

pub returns-clause-so_far : goal.returns-clause-so_far
returns-clause-so_far c = so_far_tokens

pub returns-clause-whole : goal.returns-clause-whole
returns-clause-whole c = at_end_tokens
