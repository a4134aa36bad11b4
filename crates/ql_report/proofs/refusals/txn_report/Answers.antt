use Rattle.std.proofs.Common.{List, length, ap}
use Rattle.ql_lang.specs.Formulas.{resolved_of}
use Rattle.ql_lang.specs.declared.formula.OpChoice.{OpChoice}
use Rattle.ql_report.proofs.Sizes.{txn_reported_is}
use Rattle.ql_report.proofs.refusals.txn_report.Goals as goal

pub returns-clause-reported : goal.returns-clause-reported
returns-clause-reported c =
    rw (c.items-2.ensures, c.items-3.ensures)
    (txn_reported_is c.args.t.now.program c.args.d.0 c.txn.result.now (resolved_of c.txn_formula.result.now) c.args.assignment.now (length c.items.result.now) c.ops.result
    c.txn.ensures c.txn_formula.ensures.resolved (ap (λ (vs : List OpChoice). length vs) c.items.ensures) c.ops.ensures.count)
