use Rattle.std.proofs.lemmas.Result.{err_from_is_err_and}
use Rattle.ql_commands.proofs.refusals.refusal.Goals as goal

pub returns-in_err-text-in-NoLevel-2-clause-cause : goal.returns-in_err-text-in-NoLevel-2-clause-cause
returns-in_err-text-in-NoLevel-2-clause-cause c = let p = err_from_is_err_and c.from_residual-in_err-text-in-NoLevel-2.result c.from_residual-in_err-text-in-NoLevel-2.ensures.1 in rw p.1 tt

pub returns-in_err-text-in-NoLevel-2-clause-known : goal.returns-in_err-text-in-NoLevel-2-clause-known
returns-in_err-text-in-NoLevel-2-clause-known c = let p = err_from_is_err_and c.from_residual-in_err-text-in-NoLevel-2.result c.from_residual-in_err-text-in-NoLevel-2.ensures.1 in rw p.1 tt

pub returns-in_err-text-in-NoLevel-2-clause-status : goal.returns-in_err-text-in-NoLevel-2-clause-status
returns-in_err-text-in-NoLevel-2-clause-status c = let p = err_from_is_err_and c.from_residual-in_err-text-in-NoLevel-2.result c.from_residual-in_err-text-in-NoLevel-2.ensures.1 in rw p.1 tt

pub returns-in_err-text-in-NoLevel-2-clause-text : goal.returns-in_err-text-in-NoLevel-2-clause-text
returns-in_err-text-in-NoLevel-2-clause-text c = let p = err_from_is_err_and c.from_residual-in_err-text-in-NoLevel-2.result c.from_residual-in_err-text-in-NoLevel-2.ensures.1 in rw p.1 tt

pub returns-in_err-text-in-NoLevel-clause-cause : goal.returns-in_err-text-in-NoLevel-clause-cause
returns-in_err-text-in-NoLevel-clause-cause c = let p = err_from_is_err_and c.from_residual.result c.from_residual.ensures.1 in rw p.1 tt

pub returns-in_err-text-in-NoLevel-clause-known : goal.returns-in_err-text-in-NoLevel-clause-known
returns-in_err-text-in-NoLevel-clause-known c = let p = err_from_is_err_and c.from_residual.result c.from_residual.ensures.1 in rw p.1 tt

pub returns-in_err-text-in-NoLevel-clause-status : goal.returns-in_err-text-in-NoLevel-clause-status
returns-in_err-text-in-NoLevel-clause-status c = let p = err_from_is_err_and c.from_residual.result c.from_residual.ensures.1 in rw p.1 tt

pub returns-in_err-text-in-NoLevel-clause-text : goal.returns-in_err-text-in-NoLevel-clause-text
returns-in_err-text-in-NoLevel-clause-text c = let p = err_from_is_err_and c.from_residual.result c.from_residual.ensures.1 in rw p.1 tt

pub returns-in_err-text-in-StrongInTxn-clause-cause : goal.returns-in_err-text-in-StrongInTxn-clause-cause
returns-in_err-text-in-StrongInTxn-clause-cause c = let p = err_from_is_err_and c.from_residual-in_err-text-in-StrongInTxn.result c.from_residual-in_err-text-in-StrongInTxn.ensures.1 in rw p.1 tt

pub returns-in_err-text-in-StrongInTxn-clause-known : goal.returns-in_err-text-in-StrongInTxn-clause-known
returns-in_err-text-in-StrongInTxn-clause-known c = let p = err_from_is_err_and c.from_residual-in_err-text-in-StrongInTxn.result c.from_residual-in_err-text-in-StrongInTxn.ensures.1 in rw p.1 tt

pub returns-in_err-text-in-StrongInTxn-clause-status : goal.returns-in_err-text-in-StrongInTxn-clause-status
returns-in_err-text-in-StrongInTxn-clause-status c = let p = err_from_is_err_and c.from_residual-in_err-text-in-StrongInTxn.result c.from_residual-in_err-text-in-StrongInTxn.ensures.1 in rw p.1 tt

pub returns-in_err-text-in-StrongInTxn-clause-text : goal.returns-in_err-text-in-StrongInTxn-clause-text
returns-in_err-text-in-StrongInTxn-clause-text c = let p = err_from_is_err_and c.from_residual-in_err-text-in-StrongInTxn.result c.from_residual-in_err-text-in-StrongInTxn.ensures.1 in rw p.1 tt
