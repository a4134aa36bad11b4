use Rattle.std.proofs.lemmas.Result.{err_from_is_err_and}
use Rattle.ql_lang.specs.Formulas.{statement_of}
use Rattle.ql_warnings.proofs.Given.{both_ok}
use Rattle.ql_warnings.proofs.known.+push_known.Goals as goal

pub returns-in_ok-push_known-in-And : goal.returns-in_ok-push_known-in-And
returns-in_ok-push_known-in-And t c = rw (c.in-And.is, ← c.deref.ensures, ← c.deref-in-And.ensures)
    (both_ok (statement_of c.deref.result.now) (statement_of c.deref-in-And.result.now) c.args.known.now.items c.push_known.new.known.items c.push_known-in-And.new.known.items
    c.push_known-in-And.result c.in_ok-push_known-in-And.ensures c.push_known-in-And.ensures)

pub returns-in_err-push-in-Apply-Base-default-default : goal.returns-in_err-push-in-Apply-Base-default-default
returns-in_err-push-in-Apply-Base-default-default t c = let p = err_from_is_err_and c.from_residual-in_err-push-in-Apply-Base-default-default.result c.from_residual-in_err-push-in-Apply-Base-default-default.ensures.1 in rw p.1 tt

pub returns-in_err-push_known-in-And : goal.returns-in_err-push_known-in-And
returns-in_err-push_known-in-And t c = let p = err_from_is_err_and c.from_residual.result c.from_residual.ensures.1 in rw p.1 tt
