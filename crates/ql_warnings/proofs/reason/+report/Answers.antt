use Rattle.ql_warnings.proofs.Keeping.{two_parts}
use Rattle.ql_warnings.proofs.reason.+report.Goals as goal

pub returns-else-is_settled : goal.returns-else-is_settled
returns-else-is_settled t c =
    two_parts c.args.scene.execution.now c.args.scene.at c.args.facts.now.items c.report.new.facts.items c.is_settled.new.facts.items c.report-in-And.new.facts.items
    c.report-in-And.result c.in_ok-reported-in-And.ensures c.is_settled.ensures c.report-in-And.ensures

pub returns-else-is_settled-2 : goal.returns-else-is_settled-2
returns-else-is_settled-2 t c =
    two_parts c.args.scene.execution.now c.args.scene.at c.args.facts.now.items c.report-in-Or.new.facts.items c.is_settled-in-Or.new.facts.items c.report-in-Or-2.new.facts.items
    c.report-in-Or-2.result c.in_ok-reported-in-Or.ensures c.is_settled-in-Or.ensures c.report-in-Or-2.ensures

pub returns-else-is_settled-3 : goal.returns-else-is_settled-3
returns-else-is_settled-3 t c =
    two_parts c.args.scene.execution.now c.args.scene.at c.args.facts.now.items c.report-in-Implies.new.facts.items c.is_settled-in-Implies.new.facts.items c.report-in-Implies-2.new.facts.items
    c.report-in-Implies-2.result c.in_ok-reported-in-Implies.ensures c.is_settled-in-Implies.ensures c.report-in-Implies-2.ensures
