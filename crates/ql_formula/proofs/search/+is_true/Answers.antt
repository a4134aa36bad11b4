use Rattle.std.proofs.Common.{List, ap, sym, ◌∙◌}
use Rattle.ql_lang.specs.declared.formula.Term.{Term}
use Rattle.ql_lang.specs.Formulas.{statement_of}
use Rattle.ql_exec.specs.declared.effect.Effect.{Effect}
use Rattle.ql_formula.specs.Truth.{place_of, in_one_txn, statement_true}
use Rattle.ql_formula.specs.Search.{inside_of, cur_of}
use Rattle.ql_formula.proofs.search.+is_true.Goals as goal

pub returns-in-Txn : goal.returns-in-Txn
returns-in-Txn t c =
    let x = c.args.execution.now in
    let place = place_of c.args.places.now (cur_of c.args.current) in
    c.are_one_txn.ensures
    ∙ ap (λ (y : List Effect). in_one_txn y (inside_of y c.args.current) place c.items.result.now c.items-in-Txn.result.now) c.effects.ensures.same
    ∙ ap (λ (ts : List Term). in_one_txn x (inside_of x c.args.current) place ts c.items-in-Txn.result.now) c.items.ensures
    ∙ ap (λ (ts : List Term). in_one_txn x (inside_of x c.args.current) place c.in-Txn.members ts) c.items-in-Txn.ensures
    ∙ sym (ap (λ body. statement_true x (inside_of x c.args.current) c.args.places.now (cur_of c.args.current) (statement_of body)) c.in-Txn.is)
