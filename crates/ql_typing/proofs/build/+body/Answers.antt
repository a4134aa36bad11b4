use Rattle.std.proofs.lemmas.Result.{err_from_is_err_and}
use Rattle.ql_typing.proofs.build.+body.Goals as goal

pub build_body-returns-in_err-left-in-And : goal.build_body-returns-in_err-left-in-And
build_body-returns-in_err-left-in-And t c = let p = err_from_is_err_and c.from_residual.result c.from_residual.ensures.1 in rw p.1 tt

pub build_body-returns-in_err-left-in-Implies : goal.build_body-returns-in_err-left-in-Implies
build_body-returns-in_err-left-in-Implies t c = let p = err_from_is_err_and c.from_residual-in_err-left-in-Implies.result c.from_residual-in_err-left-in-Implies.ensures.1 in rw p.1 tt

pub build_body-returns-in_err-left-in-Or : goal.build_body-returns-in_err-left-in-Or
build_body-returns-in_err-left-in-Or t c = let p = err_from_is_err_and c.from_residual-in_err-left-in-Or.result c.from_residual-in_err-left-in-Or.ensures.1 in rw p.1 tt

pub build_body-returns-in_err-right-in-And : goal.build_body-returns-in_err-right-in-And
build_body-returns-in_err-right-in-And t c = let p = err_from_is_err_and c.from_residual-in_err-right-in-And.result c.from_residual-in_err-right-in-And.ensures.1 in rw p.1 tt

pub build_body-returns-in_err-right-in-Implies : goal.build_body-returns-in_err-right-in-Implies
build_body-returns-in_err-right-in-Implies t c = let p = err_from_is_err_and c.from_residual-in_err-right-in-Implies.result c.from_residual-in_err-right-in-Implies.ensures.1 in rw p.1 tt

pub build_body-returns-in_err-right-in-Or : goal.build_body-returns-in_err-right-in-Or
build_body-returns-in_err-right-in-Or t c = let p = err_from_is_err_and c.from_residual-in_err-right-in-Or.result c.from_residual-in_err-right-in-Or.ensures.1 in rw p.1 tt

pub build_boxed-returns-in_err-built : goal.build_boxed-returns-in_err-built
build_boxed-returns-in_err-built t c = let p = err_from_is_err_and c.from_residual.result c.from_residual.ensures.1 in rw p.1 tt

pub build_boxed-returns-in_err-new : goal.build_boxed-returns-in_err-new
build_boxed-returns-in_err-new t c = let p = err_from_is_err_and c.from_residual-in_err-new.result c.from_residual-in_err-new.ensures.1 in rw p.1 tt
