use Rattle.ql_lang.specs.Formulas.{resolved_of}
use Rattle.ql_warnings.proofs.Given.{asked_ok}
use Rattle.ql_warnings.proofs.contract.asks_nothing.Goals as goal

pub returns : goal.returns
returns c =
    asked_ok c.args.t.now.program c.args.g (resolved_of c.formula_of-formula.result.now) c.items.result.now c.is_given.result
    c.formula_of-formula.ensures c.items.ensures (c.is_true.ensures c.if-is_true.false) c.is_given.ensures
