use Rattle.std.proofs.Common.{◌∷◌, [], ◌++◌, sym, subst, ◌∙◌}
use Rattle.std.proofs.lemmas.Bool.{false≢true}
use Rattle.ql_cnf.specs.declared.lit.Lit.{Lit}
use Rattle.ql_cnf.specs.Literals.{IsAscendingByVariable}
use Rattle.ql_cert.specs.OneField.{one_literal}
use Rattle.ql_cert.proofs.line.next_literal.Goals as goal

pub returns-else-goes_on : goal.returns-else-goes_on
returns-else-goes_on c = λ x fits e.
    let read = c.in_ok-next.ensures in
    let same = one_literal x c.in_ok-next.next fits.0 read.0 (e ∙ sym read.1) in
    let order = subst (λ (y : Lit). IsAscendingByVariable (c.args.before.now ++ y ∷ [])) same fits.1 in
    false≢true (sym c.if-goes_on.false ∙ c.goes_on.ensures.1 order)
