use Rattle.std.proofs.lemmas.Result.{err_from_is_err_and}
use Rattle.std.proofs.Common.{◌++◌, ◌∷◌, [], ap, ◌∙◌}
use Rattle.ql_cnf.specs.declared.lit.Lit.{Lit}
use Rattle.ql_cnf.specs.Circuits.{circuit_of}
use Rattle.ql_cnf.specs.Satisfaction.{ClauseList}
use Rattle.ql_cnf.proofs.CircuitLemmas.{denying_joined}
use Rattle.ql_cnf.proofs.tseitin.deny.Goals as goal

pub returns-clause-clauses : goal.returns-clause-clauses
returns-clause-clauses c =
    ap (λ (p : ClauseList). p.clauses) c.in_ok-append.ensures.new
    ∙ ap (λ (x : Lit). c.define.new.c.clauses ++ (x ∷ []) ∷ []) c.negated.ensures
    ∙ denying_joined c.args.c.now.clauses c.define.new.c.clauses c.args.c.now.variables c.in_ok-root.root (circuit_of c.args.g.now) c.in_ok-root.ensures.clauses c.in_ok-root.ensures.output

pub returns-in_err-append-clause-clauses : goal.returns-in_err-append-clause-clauses
returns-in_err-append-clause-clauses c = let p = err_from_is_err_and c.from_residual-in_err-append.result c.from_residual-in_err-append.ensures.1 in rw p.1 tt

pub returns-in_err-append-clause-variables : goal.returns-in_err-append-clause-variables
returns-in_err-append-clause-variables c = let p = err_from_is_err_and c.from_residual-in_err-append.result c.from_residual-in_err-append.ensures.1 in rw p.1 tt

pub returns-in_err-root-clause-clauses : goal.returns-in_err-root-clause-clauses
returns-in_err-root-clause-clauses c = let p = err_from_is_err_and c.from_residual.result c.from_residual.ensures.1 in rw p.1 tt

pub returns-in_err-root-clause-variables : goal.returns-in_err-root-clause-variables
returns-in_err-root-clause-variables c = let p = err_from_is_err_and c.from_residual.result c.from_residual.ensures.1 in rw p.1 tt
