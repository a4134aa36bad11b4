use Rattle.std.proofs.Common.{List, length, ◌+◌, ap}
use Rattle.ql_lang.specs.Formulas.{resolved_of}
use Rattle.ql_lang.specs.declared.formula.OpChoice.{OpChoice}
use Rattle.ql_report.proofs.Sizes.{op_reported_is}
use Rattle.ql_report.proofs.refusals.op_report.Goals as goal

pub returns-clause-reported : goal.returns-clause-reported
returns-clause-reported c =
    rw (c.items-2.ensures, c.items-3.ensures)
    (op_reported_is c.args.t.now.program c.args.o.0 c.op.result.now (resolved_of c.op_formula.result.now) c.args.assignment.now (length c.items.result.now + 1) c.ops.result
    c.op.ensures c.op_formula.ensures.resolved (ap (λ (vs : List OpChoice). length vs + 1) c.items.ensures) c.ops.ensures.count)
