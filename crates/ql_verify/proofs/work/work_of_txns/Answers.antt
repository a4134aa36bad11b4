use Rattle.std.proofs.lemmas.Result.{err_from_is_err_and}
use Rattle.std.proofs.Common.{arith, length, refl}
use Rattle.std.proofs.lemmas.List.{length-map}
use Rattle.ql_lang.specs.Formulas.{resolved_of}
use Rattle.ql_typing.specs.Operations.{op_words, txn_contract, txn_contracts}
use Rattle.ql_verify.specs.Work.{runs_of}
use Rattle.ql_verify.proofs.Counting.{all_work, more_work}
use Rattle.ql_verify.proofs.work.work_of_txns.Goals as goal

pub loop-d-preserved : goal.loop-d-preserved
loop-d-preserved c = (
  more_work (length c.args.effects.now) (λ d. length (runs_of c.args.effects.now d)) c.loop-d.work _ c.loop-d.d c.choices-work.result (txn_contracts c.args.t.now.program) (resolved_of c.txn_formula.result.now) c.txn_formula.ensures.resolved
      (rw (c.len.ensures.length, c.in_ok-runs.ensures.all, c.items-vars.ensures) at c.choices-work.ensures.product) refl c.loop-d.invariant.0,
  omega (arith, c.loop-d.invariant.1, c.choices-work.ensures.bounded),
)

pub returns-clause-sum : goal.returns-clause-sum
returns-clause-sum c =
    all_work (length c.args.effects.now) (λ d. length (runs_of c.args.effects.now d)) c.loop-d.work c.loop-d.d (txn_contracts c.args.t.now.program)
    (omega (arith, c.loop-d-test.false, c.txns-d-end.ensures.count, length-map c.args.t.now.program.txns (txn_contract (op_words c.args.t.now.program.types)))) c.loop-d.invariant.0

pub returns-in_err-runs-clause-bounded : goal.returns-in_err-runs-clause-bounded
returns-in_err-runs-clause-bounded c = let p = err_from_is_err_and c.from_residual.result c.from_residual.ensures.1 in rw p.1 tt

pub returns-in_err-runs-clause-sum : goal.returns-in_err-runs-clause-sum
returns-in_err-runs-clause-sum c = let p = err_from_is_err_and c.from_residual.result c.from_residual.ensures.1 in rw p.1 tt
