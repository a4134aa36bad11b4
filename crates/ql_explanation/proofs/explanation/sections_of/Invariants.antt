use Rattle.std.proofs.Common.{take}
use Rattle.ql_explanation.specs.Explanation.{AreSections}
use Rattle.ql_explanation.proofs.explanation.sections_of.Given as goal

abbrev pub invariant-loop-k : goal.invariant-loop-k
invariant-loop-k l = AreSections l.lexed l.t.program (take l.k l.findings) l.text.items
