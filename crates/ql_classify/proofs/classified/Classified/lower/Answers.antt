use Rattle.std.proofs.Common.{sym, subst, ap, ◌∙◌}
use Rattle.std.specs.List.{slice_get}
use Rattle.ql_classify.specs.Targets.{IsLowerAnswer, goals_below}
use Rattle.ql_classify.proofs.TargetLists.{target_within, evidence_at, lower_at}
use Rattle.ql_classify.proofs.classified.Classified.lower.Goals as goal

pub evidence_of-requires : goal.evidence_of-requires
evidence_of-requires c = target_within c.args.self.now c.self.inside.typed.now.program c.self.inside.levels c.self.inside.evidence.items c.deref.result.now c.args.target c.self.view_is c.self.invariant c.deref.ensures.value c.requires

pub returns : goal.returns
returns c =
    let found = evidence_at c.args.self.now c.self.inside.typed.now.program c.self.inside.levels c.self.inside.evidence.items c.deref.result.now c.args.target c.evidence_of.result.now c.self.view_is c.self.invariant c.deref.ensures.value c.evidence_of.ensures in
    let answer = lower_at c.args.self.now.program (goals_below found.0) c.evidence_of.result.now.lower.items c.args.step found.2.lower in (
      found.0,
      found.1,
      subst (λ a. IsLowerAnswer c.args.self.now.program (slice_get (goals_below found.0) c.args.step) a)
          (sym (c.assignment_at.ensures ∙ ap (λ z. slice_get z c.args.step) c.deref-2.ensures.value)) answer,
    )
