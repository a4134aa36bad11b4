use Rattle.std.proofs.Common.{◌≡◌, drop}
use Rattle.ql_refute.specs.Marks.{unmarked}
use Rattle.ql_refute.proofs.marks.unmark.Given as goal

abbrev pub invariant-loop-lit : goal.invariant-loop-lit
invariant-loop-lit l = unmarked l.fn.marks l.literals ≡ unmarked l.marks (drop l.lit-index l.literals)
