use Rattle.ql_claim.proofs.written.replicas_agree_in_runs.Goals as goal

pub returns : goal.returns
returns c = c.replicas_of_runs_agree.ensures
