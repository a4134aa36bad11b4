use Rattle.ql_classify.proofs.TargetLists.{target_within, evidence_at}
use Rattle.ql_classify.proofs.classified.Classified.refutation.Goals as goal

pub evidence_of-requires : goal.evidence_of-requires
evidence_of-requires c = target_within c.args.self.now c.self.inside.typed.now.program c.self.inside.levels c.self.inside.evidence.items c.deref.result.now c.args.target c.self.view_is c.self.invariant c.deref.ensures.value c.requires

pub returns-clause-refuted : goal.returns-clause-refuted
returns-clause-refuted c =
    let found = evidence_at c.args.self.now c.self.inside.typed.now.program c.self.inside.levels c.self.inside.evidence.items c.deref.result.now c.args.target c.evidence_of.result.now c.self.view_is c.self.invariant c.deref.ensures.value c.evidence_of.ensures in
    (found.0, found.1, found.2.enough.0)

pub returns-clause-numbered : goal.returns-clause-numbered
returns-clause-numbered c =
    (evidence_at c.args.self.now c.self.inside.typed.now.program c.self.inside.levels c.self.inside.evidence.items c.deref.result.now c.args.target c.evidence_of.result.now c.self.view_is c.self.invariant c.deref.ensures.value c.evidence_of.ensures).2.enough.1
