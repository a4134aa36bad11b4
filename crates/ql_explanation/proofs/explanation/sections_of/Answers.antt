use Rattle.std.proofs.Common.{arith}
use Rattle.ql_explanation.proofs.BlankLines.{section_all, section_more}
use Rattle.ql_explanation.proofs.explanation.sections_of.Goals as goal

pub push_section-requires-clause-finding : goal.push_section-requires-clause-finding
push_section-requires-clause-finding c = (c.loop-k.k, c.requires.each c.loop-k.k c.finding_at-finding.result.now c.finding_at-finding.ensures)

pub loop-k-preserved : goal.loop-k-preserved
loop-k-preserved c =
    section_more c.args.lexed.now c.args.t.now.program c.args.findings.now c.loop-k.k c.finding_at-finding.result.now c.loop-k.text.items c.push_gap.new.text.items c.push_section.new.text.items
    c.finding_at-finding.ensures c.loop-k.invariant c.in_ok-push_gap.ensures.first c.in_ok-push_gap.ensures.others c.in_ok-push_section.ensures

pub returns : goal.returns
returns c = section_all c.args.lexed.now c.args.t.now.program c.args.findings.now c.loop-k.k c.loop-k.text.items (omega arith) c.loop-k.invariant
