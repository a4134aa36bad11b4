use Rattle.std.proofs.Common.{◌≡◌, None, take, sym, ◌∙◌}
use Rattle.ql_cnf.specs.Satisfaction.{AreInRange}
use Rattle.ql_refute.specs.Marks.{IsClear}
use Rattle.ql_refute.specs.Verdict.{line_fault}
use Rattle.ql_refute.proofs.Steps.{first_fault_good, lines_in_range_more, is_none_of, if_none}
use Rattle.ql_refute.proofs.checker.first_fault.Goals as goal

pub loop-i-preserved : goal.loop-i-preserved
loop-i-preserved c =
    let none = sym c.is_some.ensures ∙ c.if-is_some.false in
    let good : line_fault c.args.c.now (take c.loop-i.i c.args.lines.now) c.index-lines-i.result ≡ None = sym c.line_fault-fault.ensures.fault ∙ is_none_of c.line_fault-fault.result none in
    record {
      rest = c.loop-i.invariant.rest ∙ first_fault_good c.args.c.now c.args.lines.now c.loop-i.i c.index-lines-i.result c.loop-i-test.true (rw c.index-lines-i.is at good);
      in_range = lines_in_range_more c.args.c.now.variables c.args.lines.now c.loop-i.i c.index-lines-i.result c.loop-i-test.true c.loop-i.invariant.in_range (rw (← c.index-lines-i.is) (if_none c.line_fault-fault.result (AreInRange c.args.c.now.variables c.index-lines-i.result.clause) none c.line_fault-fault.ensures.in_range));
      clear = if_none c.line_fault-fault.result (IsClear c.line_fault-fault.new.marks) none c.line_fault-fault.ensures.clear;
    }
