use Rattle.ql_warnings.proofs.Keeping.{two_parts}
use Rattle.ql_warnings.proofs.reason.+report_related.Goals as goal

pub returns-else-is_settled : goal.returns-else-is_settled
returns-else-is_settled t c =
    two_parts c.args.scene.execution.now c.args.scene.at c.args.facts.now.items c.report_related.new.facts.items c.is_settled.new.facts.items c.report_related-in-Union.new.facts.items
    c.report_related-in-Union.result c.in_ok-reported-in-Union.ensures c.is_settled.ensures c.report_related-in-Union.ensures

pub returns-else-is_settled-2 : goal.returns-else-is_settled-2
returns-else-is_settled-2 t c =
    two_parts c.args.scene.execution.now c.args.scene.at c.args.facts.now.items c.report_related-in-Inter.new.facts.items c.is_settled-in-Inter.new.facts.items c.report_related-in-Inter-2.new.facts.items
    c.report_related-in-Inter-2.result c.in_ok-reported-in-Inter.ensures c.is_settled-in-Inter.ensures c.report_related-in-Inter-2.ensures
