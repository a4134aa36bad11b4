use Rattle.ql_commands.proofs.Expected.{expected_from}
use Rattle.ql_commands.proofs.Report.{sections_say}
use Rattle.ql_commands.proofs.judgement.check_sections.Goals as goal

pub push_sections-requires-clause-expected : goal.push_sections-requires-clause-expected
push_sections-requires-clause-expected c = expected_from c.args.t.now.program c.args.sections.now c.in_default.ensures.order

pub returns : goal.returns
returns c = sections_say c.args.t.now.program c.args.sections.now c.in_ok-status.status c.new-text.result.items c.push_sections.new.out.items c.in_default.ensures.order c.new-text.ensures.items c.in_ok-status.ensures.says
