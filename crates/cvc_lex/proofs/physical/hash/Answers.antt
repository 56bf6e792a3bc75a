use Rattle.cvc_lex.proofs.Finding.{hash_none, hash_some}
use Rattle.cvc_lex.proofs.physical.hash.Goals as goal

pub returns-in-Some-clause-place : goal.returns-in-Some-clause-place
returns-in-Some-clause-place c = hash_some c.args.text.now c.in-Some.place c.in-Some.ensures

pub returns-in-None-clause-place : goal.returns-in-None-clause-place
returns-in-None-clause-place c = hash_none c.args.text.now c.in-None.ensures
