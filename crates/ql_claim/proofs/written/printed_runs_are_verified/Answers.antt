use Rattle.ql_claim.proofs.written.printed_runs_are_verified.Goals as goal

pub returns : goal.returns
returns c = c.printed_runs_hold.ensures
