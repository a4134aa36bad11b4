use Rattle.std.proofs.Common.{subst}
use Rattle.ql_typing.proofs.Parts.{none_indeed}
use Rattle.ql_classify.specs.Classification.{Classification}
use Rattle.ql_classify.specs.Least.{AreLevelsOf}
use Rattle.ql_classify.proofs.TargetLists.{are_levels}
use Rattle.ql_classify.proofs.classified.Classified.levels.Goals as goal

pub returns-clause-levels : goal.returns-clause-levels
returns-clause-levels c =
    let t = c.self.inside.typed.now in
    subst (λ (v : Classification). AreLevelsOf v.program v.levels) c.self.view_is
    (are_levels t.program c.self.inside.levels c.self.inside.evidence.items (none_indeed _ t.well_typed) c.self.invariant)
