use Rattle.std.proofs.Common.{sym}
use Rattle.std.specs.Prelude.{◌==◌}
use Rattle.ql_lines.proofs.FirstBytes.{found_at, found_nowhere}
use Rattle.ql_lines.proofs.search.bytes_before.Goals as goal

pub returns-in-Some-clause-longest : goal.returns-in-Some-clause-longest
returns-in-Some-clause-longest c = sym (found_at (λ b. b == c.args.byte) c.args.text.now c.in-Some.found c.in-Some.ensures)

pub returns-in-None-clause-longest : goal.returns-in-None-clause-longest
returns-in-None-clause-longest c = sym (found_nowhere (λ b. b == c.args.byte) c.args.text.now c.in-None.ensures)
