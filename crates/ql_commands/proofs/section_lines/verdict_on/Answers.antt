use Rattle.std.proofs.Common.{sym}
use Rattle.ql_implication.proofs.OfPrograms.{problem_gives}
use Rattle.ql_commands.proofs.section_lines.verdict_on.Goals as goal

pub returns : goal.returns
returns c = record {
  clauses = c.in_ok-clauses.clauses;
  problem = c.in_ok-clauses.ensures.list;
  verdict_is = sym c.check.ensures.verdict;
  gives = λ sure. problem_gives c.args.t.now.program c.args.goal c.in_ok-clauses.clauses c.in_ok-clauses.ensures.list (c.in_ok-clauses.ensures.sound (c.check.ensures.unsatisfiable sure));
}
