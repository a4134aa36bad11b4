use Rattle.std.proofs.Common.{ap, sym, ◌∙◌}
use Rattle.std.specs.Option.{option_copied}
use Rattle.ql_eval.proofs.FoldSteps.{value_in_first, value_in_later}
use Rattle.ql_eval.proofs.scope.Scope.find.Goals as goal

pub returns-in-Some : goal.returns-in-Some
returns-in-Some c =
    let found = value_in_first c.self.inside.pairs.now c.self.inside.emitted c.args.word.now c.in-Some.value.now (ap option_copied (sym c.in-Some.is) ∙ c.find.ensures) in
    let view = c.self.view_is in
    cc

pub returns-in-None : goal.returns-in-None
returns-in-None c =
    let later = value_in_later c.self.inside.pairs.now c.self.inside.emitted c.args.word.now (ap option_copied (sym c.in-None.is) ∙ c.find.ensures) in
    let found = c.find-in-None.ensures in
    let view = c.self.view_is in
    cc
