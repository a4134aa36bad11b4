use Rattle.std.proofs.lemmas.Result.{err_from_is_err_and}
use Rattle.std.proofs.Common.{List, subst, sym}
use Rattle.ql_lang.specs.Formulas.{statement_of}
use Rattle.ql_warnings.specs.Known.{PartsKept}
use Rattle.ql_warnings.specs.declared.known.Known.{Known}
use Rattle.ql_warnings.proofs.Given.{given_clash, if_ok}
use Rattle.ql_warnings.proofs.always.+is_given.Goals as goal

pub returns-then-has_clash : goal.returns-then-has_clash
returns-then-has_clash t c = λ is. rw (c.in-Implies.is, ← c.deref-in-Implies-2.ensures)
    (given_clash c.args.scene.program.now.program c.args.scene.goal c.args.scene.vars.now c.args.known.now (statement_of c.deref-in-Implies-2.result.now) (statement_of c.in-Implies.right.value) c.deref-in-Implies-3.result.now
    (subst (λ (ks : List Known). PartsKept (statement_of c.deref-in-Implies-2.result.now) c.args.known.now ks) (sym c.deref-in-Implies-3.ensures.value) c.in_ok-more-in-Implies.ensures) (c.has_clash.ensures c.if-has_clash.true))

pub returns-else-has_clash : goal.returns-else-has_clash
returns-else-has_clash t c = rw (c.in-Implies.is, ← c.deref-in-Implies-2.ensures, ← c.deref-in-Implies-5.ensures)
    (if_ok c.args.scene.program.now.program c.args.scene.goal c.args.scene.vars.now c.args.known.now (statement_of c.deref-in-Implies-2.result.now) (statement_of c.deref-in-Implies-5.result.now) c.deref-in-Implies-4.result.now c.is_given-in-Implies.result
    (subst (λ (ks : List Known). PartsKept (statement_of c.deref-in-Implies-2.result.now) c.args.known.now ks) (sym c.deref-in-Implies-4.ensures.value) c.in_ok-more-in-Implies.ensures) c.is_given-in-Implies.ensures)

pub returns-in_err-is_given-in-And : goal.returns-in_err-is_given-in-And
returns-in_err-is_given-in-And t c = let p = err_from_is_err_and c.from_residual.result c.from_residual.ensures.1 in rw p.1 tt

pub returns-in_err-is_given-in-And-2 : goal.returns-in_err-is_given-in-And-2
returns-in_err-is_given-in-And-2 t c = let p = err_from_is_err_and c.from_residual-in_err-is_given-in-And-2.result c.from_residual-in_err-is_given-in-And-2.ensures.1 in rw p.1 tt

pub returns-in_err-is_given-in-Or : goal.returns-in_err-is_given-in-Or
returns-in_err-is_given-in-Or t c = let p = err_from_is_err_and c.from_residual-in_err-is_given-in-Or.result c.from_residual-in_err-is_given-in-Or.ensures.1 in rw p.1 tt

pub returns-in_err-is_given-in-Or-2 : goal.returns-in_err-is_given-in-Or-2
returns-in_err-is_given-in-Or-2 t c = let p = err_from_is_err_and c.from_residual-in_err-is_given-in-Or-2.result c.from_residual-in_err-is_given-in-Or-2.ensures.1 in rw p.1 tt

pub returns-in_err-more-in-Implies : goal.returns-in_err-more-in-Implies
returns-in_err-more-in-Implies t c = let p = err_from_is_err_and c.from_residual-in_err-more-in-Implies.result c.from_residual-in_err-more-in-Implies.ensures.1 in rw p.1 tt
