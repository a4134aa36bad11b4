use Rattle.ql_claim.proofs.written.what_is_printed_is_accepted.Goals as goal

pub returns : goal.returns
returns c = c.what_is_proved_is_accepted.ensures
