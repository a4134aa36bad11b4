use Rattle.std.proofs.Common.{arith, sym}
use Rattle.ql_grammar.proofs.LongMarks.{long_mark}
use Rattle.ql_grammar.proofs.terminal.mark.Goals as goal

pub returns-in_default-2 : goal.returns-in_default-2
returns-in_default-2 c = sym (long_mark c.args.text.now (search arith))
