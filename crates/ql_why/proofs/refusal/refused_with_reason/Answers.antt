use Rattle.std.proofs.lemmas.Result.{err_from_is_err_and}
use Rattle.ql_commands.proofs.NamedTargets.{refusal_names_targets}
use Rattle.ql_why.proofs.refusal.refused_with_reason.Goals as goal

pub refusal-requires : goal.refusal-requires
refusal-requires c = refusal_names_targets c.args.t.now.program c.args.why c.requires

pub returns-in_err-push_bytes-clause-known : goal.returns-in_err-push_bytes-clause-known
returns-in_err-push_bytes-clause-known c = let p = err_from_is_err_and c.from_residual-in_err-push_bytes.result c.from_residual-in_err-push_bytes.ensures.1 in rw p.1 tt

pub returns-in_err-push_bytes-clause-status : goal.returns-in_err-push_bytes-clause-status
returns-in_err-push_bytes-clause-status c = let p = err_from_is_err_and c.from_residual-in_err-push_bytes.result c.from_residual-in_err-push_bytes.ensures.1 in rw p.1 tt

pub returns-in_err-push_bytes-clause-text : goal.returns-in_err-push_bytes-clause-text
returns-in_err-push_bytes-clause-text c = let p = err_from_is_err_and c.from_residual-in_err-push_bytes.result c.from_residual-in_err-push_bytes.ensures.1 in rw p.1 tt

pub returns-in_err-reason-clause-known : goal.returns-in_err-reason-clause-known
returns-in_err-reason-clause-known c = let p = err_from_is_err_and c.from_residual.result c.from_residual.ensures.1 in rw p.1 tt

pub returns-in_err-reason-clause-status : goal.returns-in_err-reason-clause-status
returns-in_err-reason-clause-status c = let p = err_from_is_err_and c.from_residual.result c.from_residual.ensures.1 in rw p.1 tt

pub returns-in_err-reason-clause-text : goal.returns-in_err-reason-clause-text
returns-in_err-reason-clause-text c = let p = err_from_is_err_and c.from_residual.result c.from_residual.ensures.1 in rw p.1 tt

pub returns-in_err-status-clause-known : goal.returns-in_err-status-clause-known
returns-in_err-status-clause-known c = let p = err_from_is_err_and c.from_residual-in_err-status.result c.from_residual-in_err-status.ensures.1 in rw p.1 tt

pub returns-in_err-status-clause-status : goal.returns-in_err-status-clause-status
returns-in_err-status-clause-status c = let p = err_from_is_err_and c.from_residual-in_err-status.result c.from_residual-in_err-status.ensures.1 in rw p.1 tt

pub returns-in_err-status-clause-text : goal.returns-in_err-status-clause-text
returns-in_err-status-clause-text c = let p = err_from_is_err_and c.from_residual-in_err-status.result c.from_residual-in_err-status.ensures.1 in rw p.1 tt
