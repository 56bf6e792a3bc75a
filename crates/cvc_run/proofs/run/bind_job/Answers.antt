use Rattle.cvc_run.proofs.run.bind_job.Goals as goal

pub returns-clause-said : goal.returns-clause-said
returns-clause-said g c = rw c.top_of.ensures at c.bind_files.ensures.said

pub returns-clause-cause : goal.returns-clause-cause
returns-clause-cause g c = rw c.top_of.ensures at c.bind_files.ensures.cause
