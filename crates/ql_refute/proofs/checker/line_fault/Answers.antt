use Rattle.std.proofs.Common.{◌∙◌}
use Rattle.ql_refute.proofs.Steps.{line_fault_of}
use Rattle.ql_refute.proofs.checker.line_fault.Goals as goal

pub returns-then-is_none-clause-fault : goal.returns-then-is_none-clause-fault
returns-then-is_none-clause-fault c =
    let inside = rw (c.items-literals.ensures.same, c.variables.ensures) at c.are_in_range.ensures.0 c.if-not-are_in_range.false in
    c.hints_fault-fault.ensures.fault ∙ rw (c.falsify.ensures.falsified, c.items-literals.ensures.same) (line_fault_of c.args.c.now c.args.earlier.now c.args.line.now c.args.marks.now inside c.requires.clear)

pub returns-else-is_none-clause-fault : goal.returns-else-is_none-clause-fault
returns-else-is_none-clause-fault c =
    let inside = rw (c.items-literals.ensures.same, c.variables.ensures) at c.are_in_range.ensures.0 c.if-not-are_in_range.false in
    c.hints_fault-fault.ensures.fault ∙ rw (c.falsify.ensures.falsified, c.items-literals.ensures.same) (line_fault_of c.args.c.now c.args.earlier.now c.args.line.now c.args.marks.now inside c.requires.clear)
