use Rattle.std.proofs.Common.{List, subst}
use Rattle.std.proofs.lemmas.Result.{IfOk-weaker}
use Rattle.ql_exec.specs.declared.effect.Effect.{Effect}
use Rattle.ql_machine.specs.Sets.{AreThose}
use Rattle.ql_machine.specs.Steps.{IsOfStrong}
use Rattle.ql_store.specs.Levels.{promises_of}
use Rattle.ql_store.proofs.JoinLaws.{needed-by-strong, strong-whole}
use Rattle.ql_store.proofs.join.bare_holder.Goals as goal

pub bare-requires : goal.bare-requires
bare-requires g c =
    let level = (promises_of c.args.levels.now).level in
    let strong = c.in_ok-strong.strong in
    strong-whole level c.args.x.now strong c.requires.alone (subst (λ (x : List Effect). AreThose (IsOfStrong level x) strong) c.effects.ensures.same c.in_ok-strong.ensures)

pub returns-clause-received : goal.returns-clause-received
returns-clause-received g c =
    let level = (promises_of c.args.levels.now).level in
    let strong = c.in_ok-strong.strong in
    let those : AreThose (IsOfStrong level c.args.x.now) strong = subst (λ (x : List Effect). AreThose (IsOfStrong level x) strong) c.effects.ensures.same c.in_ok-strong.ensures in
    IfOk-weaker c.bare.result _ _ (λ bare are. needed-by-strong level c.args.x.now strong (g.H.Holder.received bare) those are) c.bare.ensures.received
