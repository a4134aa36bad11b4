use Rattle.std.proofs.lemmas.Result.{err_from_is_err_and, IfOk-weaker}
use Rattle.ql_commands.proofs.Report.{reported_accepted, reported_none, reported_refused}
use Rattle.ql_commands.proofs.section_lines.+push_sections.Goals as goal

pub returns-in_default-clause-says : goal.returns-in_default-clause-says
returns-in_default-clause-says n c = reported_none c.args.t.now.program c.args.place c.args.sections.now c.args.out.now.items c.in_default.ensures.cases

pub returns-in-Accepted-clause-says : goal.returns-in-Accepted-clause-says
returns-in-Accepted-clause-says n c =
    IfOk-weaker c.push_sections.result _ _
    (λ answer reported. reported_accepted c.args.t.now.program c.args.place c.args.sections.now c.in-Some.section.now c.in-Some.others.now c.goal_of-goal.result c.in_ok-verdict.verdict c.args.out.now.items c.push_section.new.out.items c.push_verdict.new.out.items
    c.in-Some.ensures.cases.0 c.goal_of-goal.ensures.value c.in_ok-verdict.ensures c.in_ok-push_section.ensures c.in_ok-push_verdict.ensures answer.0 c.push_sections.new.out.items c.in-Accepted.is reported)
    c.push_sections.ensures.says

pub returns-in_default-verdict-clause-says : goal.returns-in_default-verdict-clause-says
returns-in_default-verdict-clause-says n c =
    reported_refused c.args.t.now.program c.args.place c.args.sections.now c.in-Some.section.now c.in-Some.others.now c.goal_of-goal.result c.in_ok-verdict.verdict c.args.out.now.items c.push_section.new.out.items c.push_verdict.new.out.items
    c.in-Some.ensures.cases.0 c.goal_of-goal.ensures.value c.in_ok-verdict.ensures c.in_ok-push_section.ensures c.in_ok-push_verdict.ensures c.in_default-verdict.not-Accepted

pub returns-in_err-push_section-clause-no_fault : goal.returns-in_err-push_section-clause-no_fault
returns-in_err-push_section-clause-no_fault n c = let p = err_from_is_err_and c.from_residual-in_err-push_section.result c.from_residual-in_err-push_section.ensures.1 in rw p.1 tt

pub returns-in_err-push_section-clause-says : goal.returns-in_err-push_section-clause-says
returns-in_err-push_section-clause-says n c = let p = err_from_is_err_and c.from_residual-in_err-push_section.result c.from_residual-in_err-push_section.ensures.1 in rw p.1 tt

pub returns-in_err-push_verdict-clause-no_fault : goal.returns-in_err-push_verdict-clause-no_fault
returns-in_err-push_verdict-clause-no_fault n c = let p = err_from_is_err_and c.from_residual-in_err-push_verdict.result c.from_residual-in_err-push_verdict.ensures.1 in rw p.1 tt

pub returns-in_err-push_verdict-clause-says : goal.returns-in_err-push_verdict-clause-says
returns-in_err-push_verdict-clause-says n c = let p = err_from_is_err_and c.from_residual-in_err-push_verdict.result c.from_residual-in_err-push_verdict.ensures.1 in rw p.1 tt

pub returns-in_err-verdict-clause-no_fault : goal.returns-in_err-verdict-clause-no_fault
returns-in_err-verdict-clause-no_fault n c = let p = err_from_is_err_and c.from_residual.result c.from_residual.ensures.1 in rw p.1 tt

pub returns-in_err-verdict-clause-says : goal.returns-in_err-verdict-clause-says
returns-in_err-verdict-clause-says n c = let p = err_from_is_err_and c.from_residual.result c.from_residual.ensures.1 in rw p.1 tt
