use Rattle.std.proofs.Common.{refl, ◌∷◌, arith}
use Rattle.std.proofs.lemmas.Result.{err_from_is_err_and}
use Rattle.ql_grammar.specs.Table.{Do, Then, Variable, VarList, MoreVars, add_var, to_vars}
use Rattle.ql_grammar.proofs.Rules.{read-as}
use Rattle.ql_parse.proofs.Lists.{begins, item_refused, read_all, read_mark}
use Rattle.ql_parse.proofs.reader.Reader.variables.Goals as goal

pub vars-init : goal.vars-init
vars-init c = rw c.in_ok-vars.ensures.items (begins to_vars (λ below vs. read-as c.args.self.now VarList Variable below (Do to_vars ∷ Then MoreVars ∷ below) vs refl) (λ x vs. refl) (omega arith))

pub returns-in_err-var-clause-refused : goal.returns-in_err-var-clause-refused
returns-in_err-var-clause-refused c =
    let p = err_from_is_err_and c.from_residual-in_err-var.result c.from_residual-in_err-var.ensures.1 in
    rw (p.1, p.2) (item_refused _ c.vars.invariant c.in_err-var.ensures.refused)

pub vars-preserved : goal.vars-preserved
vars-preserved c = rw c.in_ok-push.ensures.items (read_mark c.vars.invariant c.variable.new.self c.in_ok-var.var c.in_ok-var.ensures.gave (c.passes.ensures.passed c.if-not-passes.false) add_var (λ below. refl) (λ y xs vs. refl) c.in_ok-var.ensures.shorter c.passes.ensures.within)

pub returns-then-not-passes-clause-gave : goal.returns-then-not-passes-clause-gave
returns-then-not-passes-clause-gave c = λ below vs. rw (c.of.ensures, c.in_ok-push.ensures.items) (read_all c.vars.invariant c.variable.new.self c.in_ok-var.var c.in_ok-var.ensures.gave (c.passes.ensures.missed c.if-not-passes.true) (λ under. refl) below vs)

pub returns-in_err-push-clause-gave : goal.returns-in_err-push-clause-gave
returns-in_err-push-clause-gave c = let p = err_from_is_err_and c.from_residual-in_err-push.result c.from_residual-in_err-push.ensures.1 in rw p.1 tt

pub returns-in_err-push-clause-shorter : goal.returns-in_err-push-clause-shorter
returns-in_err-push-clause-shorter c = let p = err_from_is_err_and c.from_residual-in_err-push.result c.from_residual-in_err-push.ensures.1 in rw p.1 tt

pub returns-in_err-var-clause-gave : goal.returns-in_err-var-clause-gave
returns-in_err-var-clause-gave c = let p = err_from_is_err_and c.from_residual-in_err-var.result c.from_residual-in_err-var.ensures.1 in rw p.1 tt

pub returns-in_err-var-clause-shorter : goal.returns-in_err-var-clause-shorter
returns-in_err-var-clause-shorter c = let p = err_from_is_err_and c.from_residual-in_err-var.result c.from_residual-in_err-var.ensures.1 in rw p.1 tt

pub returns-in_err-vars-clause-gave : goal.returns-in_err-vars-clause-gave
returns-in_err-vars-clause-gave c = let p = err_from_is_err_and c.from_residual.result c.from_residual.ensures.1 in rw p.1 tt

pub returns-in_err-vars-clause-shorter : goal.returns-in_err-vars-clause-shorter
returns-in_err-vars-clause-shorter c = let p = err_from_is_err_and c.from_residual.result c.from_residual.ensures.1 in rw p.1 tt
