use Rattle.std.proofs.Common.{subst}
use Rattle.std.specs.List.{All}
use Rattle.ql_lang.specs.Formulas.{resolved_of, statement_of}
use Rattle.ql_warnings.specs.Warnings.{IsOfPremises}
use Rattle.ql_warnings.proofs.Kept.{all_premises}
use Rattle.ql_warnings.proofs.contract.of_premises.Goals as goal

pub returns : goal.returns
returns c =
    all_premises c.args.source.now c.args.t.now.program c.args.g (resolved_of c.formula_of-formula.result.now) c.in_ok-found.found.items c.formula_of-formula.ensures
    (subst (λ vars. All (IsOfPremises c.args.source.now c.args.t.now.program c.args.g vars (statement_of c.formula_of-formula.result.now.body)) c.in_ok-found.found.items) c.items.ensures c.in_ok-found.ensures)
