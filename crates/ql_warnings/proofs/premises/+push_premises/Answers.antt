use Rattle.std.proofs.lemmas.Result.{err_from_is_err_and}
use Rattle.std.proofs.Common.{subst, sym}
use Rattle.std.specs.List.{All}
use Rattle.ql_lang.specs.Formulas.{statement_of}
use Rattle.ql_warnings.specs.Warnings.{IsOfPremise}
use Rattle.ql_warnings.proofs.Kept.{first_ok, two_ok}
use Rattle.ql_warnings.proofs.premises.+push_premises.Goals as goal

pub returns-in_ok-push_premises-in-And : goal.returns-in_ok-push_premises-in-And
returns-in_ok-push_premises-in-And t c = rw (c.in-And.is, ← c.deref.ensures, ← c.deref-in-And.ensures)
    (two_ok c.args.source.now c.args.scene.program.now.program c.args.scene.goal c.args.scene.vars.now (statement_of c.deref.result.now) (statement_of c.deref-in-And.result.now)
    c.args.out.now.items c.push_premises.new.out.items c.push_premises-in-And.new.out.items c.push_premises-in-And.result c.in_ok-push_premises-in-And.ensures c.push_premises-in-And.ensures)

pub returns-in_ok-push_all-in-Implies : goal.returns-in_ok-push_all-in-Implies
returns-in_ok-push_all-in-Implies t c = rw (c.in-Implies.is, ← c.deref-in-Implies.ensures, ← c.deref-in-Implies-3.ensures)
    (first_ok c.args.source.now c.args.scene.program.now.program c.args.scene.goal c.args.scene.vars.now (statement_of c.deref-in-Implies.result.now) (statement_of c.deref-in-Implies-3.result.now)
    c.args.out.now.items c.deref-in-Implies-2.result.now c.push_all.new.found.items c.push_premises-in-Implies.new.out.items c.push_premises-in-Implies.result
    (subst (All (IsOfPremise c.args.source.now c.args.scene.program.now.program c.args.scene.goal c.args.scene.vars.now (statement_of c.deref-in-Implies.result.now))) (sym c.deref-in-Implies-2.ensures.value) c.in_ok-found-in-Implies.ensures)
    c.in_ok-push_all-in-Implies.ensures c.push_premises-in-Implies.ensures)

pub returns-in_err-found-in-Implies : goal.returns-in_err-found-in-Implies
returns-in_err-found-in-Implies t c = let p = err_from_is_err_and c.from_residual-in_err-found-in-Implies.result c.from_residual-in_err-found-in-Implies.ensures.1 in rw p.1 tt

pub returns-in_err-push_all-in-Implies : goal.returns-in_err-push_all-in-Implies
returns-in_err-push_all-in-Implies t c = let p = err_from_is_err_and c.from_residual-in_err-push_all-in-Implies.result c.from_residual-in_err-push_all-in-Implies.ensures.1 in rw p.1 tt

pub returns-in_err-push_premises-in-And : goal.returns-in_err-push_premises-in-And
returns-in_err-push_premises-in-And t c = let p = err_from_is_err_and c.from_residual.result c.from_residual.ensures.1 in rw p.1 tt
