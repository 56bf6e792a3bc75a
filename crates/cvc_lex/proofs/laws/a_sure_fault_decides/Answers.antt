use Rattle.cvc_lex.proofs.Faults.{decided-append, so_far-append, sure-append}
use Rattle.cvc_lex.proofs.laws.a_sure_fault_decides.Goals as goal

pub returns-clause-later : goal.returns-clause-later
returns-clause-later c = sure-append

pub returns-clause-later_lines : goal.returns-clause-later_lines
returns-clause-later_lines c = so_far-append

pub returns-clause-whole : goal.returns-clause-whole
returns-clause-whole c = λ file stream more fault e. (decided-append file stream more fault e).0

pub returns-clause-whole_lines : goal.returns-clause-whole_lines
returns-clause-whole_lines c = λ file stream more fault e. (decided-append file stream more fault e).1
