use Rattle.std.proofs.Common.{length, map, []}
use Rattle.ql_lang.specs.Programs.{assignment_of}
use Rattle.ql_grammar.specs.Table.{MoreAssignments, TheAssignments}
use Rattle.ql_parse.specs.Readings.{Collecting}
use Rattle.ql_parse.proofs.reader.Reader.statements.Given as goal

abbrev pub invariant-more : goal.invariant-more
invariant-more l = Collecting MoreAssignments (TheAssignments []) (TheAssignments (map assignment_of l.found.items)) l.fn.self l.self

abbrev pub decreases-more : goal.decreases-more
decreases-more l = length l.self.tokens
