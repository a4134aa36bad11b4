use Rattle.std.proofs.Common.{sym, ◌∙◌, arith}
use Rattle.ql_atoms.specs.Atoms.{size_of}
use Rattle.ql_counter.specs.Assigned.{current_by}
use Rattle.ql_counter.proofs.Loops.{least-is}
use Rattle.ql_counter.proofs.constants.first_current.Goals as goal

pub returns-then-is_current : goal.returns-then-is_current
returns-then-is_current c =
    let less = c.loop-i-test.true in
    least-is c.args.s.constants c.loop-i.i (current_by c.args.a.now (size_of c.args.s)) (omega (arith, less)) (sym c.is_current.ensures ∙ c.if-is_current.true) c.loop-i.invariant
