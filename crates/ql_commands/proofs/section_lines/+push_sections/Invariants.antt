use Rattle.std.proofs.Common.{length}
use Rattle.ql_commands.proofs.section_lines.+push_sections.Given as goal

abbrev pub decreases-push_sections : goal.decreases-push_sections
decreases-push_sections l = length l.sections.now
