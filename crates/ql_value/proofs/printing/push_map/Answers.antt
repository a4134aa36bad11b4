use Rattle.std.proofs.lemmas.Result.{err_from_is_err_and}
use Rattle.ql_value.proofs.printing.push_map.Goals as goal

pub returns-in_err-push_bytes-in-Some-clause-scalars : goal.returns-in_err-push_bytes-in-Some-clause-scalars
returns-in_err-push_bytes-in-Some-clause-scalars c = let p = err_from_is_err_and c.from_residual.result c.from_residual.ensures.1 in rw p.1 tt

pub returns-in_err-push_bytes-in-Some-clause-text : goal.returns-in_err-push_bytes-in-Some-clause-text
returns-in_err-push_bytes-in-Some-clause-text c = let p = err_from_is_err_and c.from_residual.result c.from_residual.ensures.1 in rw p.1 tt

pub returns-in_err-push_entries-in-Some-clause-scalars : goal.returns-in_err-push_entries-in-Some-clause-scalars
returns-in_err-push_entries-in-Some-clause-scalars c = let p = err_from_is_err_and c.from_residual-in_err-push_entries-in-Some.result c.from_residual-in_err-push_entries-in-Some.ensures.1 in rw p.1 tt

pub returns-in_err-push_entries-in-Some-clause-text : goal.returns-in_err-push_entries-in-Some-clause-text
returns-in_err-push_entries-in-Some-clause-text c = let p = err_from_is_err_and c.from_residual-in_err-push_entries-in-Some.result c.from_residual-in_err-push_entries-in-Some.ensures.1 in rw p.1 tt

pub returns-in_err-push_entry-in-Some-clause-scalars : goal.returns-in_err-push_entry-in-Some-clause-scalars
returns-in_err-push_entry-in-Some-clause-scalars c = let p = err_from_is_err_and c.from_residual-in_err-push_entry-in-Some.result c.from_residual-in_err-push_entry-in-Some.ensures.1 in rw p.1 tt

pub returns-in_err-push_entry-in-Some-clause-text : goal.returns-in_err-push_entry-in-Some-clause-text
returns-in_err-push_entry-in-Some-clause-text c = let p = err_from_is_err_and c.from_residual-in_err-push_entry-in-Some.result c.from_residual-in_err-push_entry-in-Some.ensures.1 in rw p.1 tt
