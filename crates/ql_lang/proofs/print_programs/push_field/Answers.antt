use Rattle.std.proofs.lemmas.Result.{err_from_is_err_and}
use Rattle.ql_lang.proofs.print_programs.push_field.Goals as goal

pub returns-in_err-push_all : goal.returns-in_err-push_all
returns-in_err-push_all c = let p = err_from_is_err_and c.from_residual.result c.from_residual.ensures.1 in rw p.1 tt

pub returns-in_err-push_bytes : goal.returns-in_err-push_bytes
returns-in_err-push_bytes c = let p = err_from_is_err_and c.from_residual-in_err-push_bytes.result c.from_residual-in_err-push_bytes.ensures.1 in rw p.1 tt

pub returns-in_err-push_init : goal.returns-in_err-push_init
returns-in_err-push_init c = let p = err_from_is_err_and c.from_residual-in_err-push_init.result c.from_residual-in_err-push_init.ensures.1 in rw p.1 tt

pub returns-in_err-push_kind : goal.returns-in_err-push_kind
returns-in_err-push_kind c = let p = err_from_is_err_and c.from_residual-in_err-push_kind.result c.from_residual-in_err-push_kind.ensures.1 in rw p.1 tt
