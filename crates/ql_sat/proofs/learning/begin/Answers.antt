use Rattle.std.proofs.lemmas.Result.{err_from_is_err_and}
use Rattle.std.proofs.Common.{◌≡◌, Some, Option, List, true, sym, subst}
use Rattle.std.specs.Prelude.{is_some}
use Rattle.ql_cnf.specs.declared.lit.Lit.{Lit}
use Rattle.ql_refute.specs.Verdict.{hinted}
use Rattle.ql_sat.proofs.Analysis.{analysis_begin, false_there}
use Rattle.ql_sat.proofs.learning.begin.Goals as goal

pub unreachable-requires : goal.unreachable-requires
unreachable-requires c = let named = subst (λ (o : Option (List Lit)). is_some o ≡ true) (sym (rw c.in_default.is at c.hinted.ensures.clause)) c.requires.conflict in cc

pub returns-clause-analyzed : goal.returns-clause-analyzed
returns-clause-analyzed c =
    let names : hinted c.args.known.given.now c.args.known.lines.now c.args.conflict ≡ Some c.in-Some.clause.now = sym c.in-Some.ensures.clause in
    λ trail sound conflict. rw (c.in_ok-push.ensures.items, c.see.ensures.hints, c.clear.ensures.hints) (analysis_begin c.args.known.given.now c.args.known.lines.now trail.steps.items trail.marks.items c.clear.new.self.seen.items c.see.new.self.seen.items c.args.conflict c.in-Some.clause.now sound names (false_there c.args.known.given.now c.args.known.lines.now c.args.conflict trail.marks.items c.in-Some.clause.now conflict names) c.in-Some.ensures.in_range c.clear.ensures.seen c.see.ensures.seen)

pub returns-in_err-push-clause-analyzed : goal.returns-in_err-push-clause-analyzed
returns-in_err-push-clause-analyzed c = let p = err_from_is_err_and c.from_residual.result c.from_residual.ensures.1 in rw p.1 tt

pub returns-in_err-push-clause-seen : goal.returns-in_err-push-clause-seen
returns-in_err-push-clause-seen c = let p = err_from_is_err_and c.from_residual.result c.from_residual.ensures.1 in rw p.1 tt
