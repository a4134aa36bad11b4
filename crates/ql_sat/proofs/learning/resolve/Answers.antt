use Rattle.std.proofs.lemmas.Result.{err_from_is_err_and}
use Rattle.std.proofs.Common.{◌≡◌, Some, ap, sym, ◌∙◌}
use Rattle.ql_refute.specs.Verdict.{hinted}
use Rattle.ql_sat.specs.declared.trail.Step.{Step}
use Rattle.ql_sat.proofs.Analysis.{analysis_resolve}
use Rattle.ql_sat.proofs.Numbers.{get_of}
use Rattle.ql_sat.proofs.learning.resolve.Goals as goal

pub returns-clause-analyzed : goal.returns-clause-analyzed
returns-clause-analyzed c =
    let names : hinted c.args.known.given.now c.args.known.lines.now c.in-Some.reason ≡ Some c.in-Some-hinted.clause.now = sym c.in-Some-hinted.ensures.clause in
    λ trail at sound here analyzed.
    let there = get_of trail.steps.items at c.args.step c.args.step here in
    let reason = ap (λ (s : Step). s.reason) there.1 ∙ c.in-Some.is in
    rw (c.in_ok-push.ensures.items, c.forget.ensures.hints, c.see.ensures.hints) (analysis_resolve c.args.known.given.now c.args.known.lines.now trail.steps.items trail.marks.items at c.args.step c.args.analysis.now.seen.items c.see.new.self.seen.items c.forget.new.self.seen.items c.args.analysis.now.hints.items c.in-Some.reason c.in-Some-hinted.clause.now sound there.0 reason names c.in-Some-hinted.ensures.in_range analyzed c.see.ensures.seen (rw there.1 c.forget.ensures.seen))

pub returns-in_err-push-clause-analyzed : goal.returns-in_err-push-clause-analyzed
returns-in_err-push-clause-analyzed c = let p = err_from_is_err_and c.from_residual.result c.from_residual.ensures.1 in rw p.1 tt

pub returns-in_err-push-clause-seen : goal.returns-in_err-push-clause-seen
returns-in_err-push-clause-seen c = let p = err_from_is_err_and c.from_residual.result c.from_residual.ensures.1 in rw p.1 tt
