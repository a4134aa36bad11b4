use Rattle.std.proofs.Common.{arith, length, refl}
use Rattle.std.proofs.lemmas.List.{length-map}
use Rattle.ql_lang.specs.Formulas.{resolved_of}
use Rattle.ql_typing.specs.Operations.{all_ops, op_contract, op_contracts, op_words}
use Rattle.ql_verify.specs.Work.{effects_of}
use Rattle.ql_verify.proofs.Counting.{all_work, more_work}
use Rattle.ql_verify.proofs.work.work_of_ops.Goals as goal

pub loop-o-preserved : goal.loop-o-preserved
loop-o-preserved c = (
  more_work (length c.args.effects.now) (effects_of c.args.effects.now) c.loop-o.work _ c.loop-o.o c.choices-work.result (op_contracts c.args.t.now.program.types) (resolved_of c.op_formula.result.now) c.op_formula.ensures.resolved
      (rw (c.count.ensures.same, c.items-vars.ensures) at c.choices-work.ensures.product) refl c.loop-o.invariant.0,
  omega (arith, c.loop-o.invariant.1, c.choices-work.ensures.bounded),
)

pub returns-clause-sum : goal.returns-clause-sum
returns-clause-sum c =
    all_work (length c.args.effects.now) (effects_of c.args.effects.now) c.loop-o.work c.loop-o.o (op_contracts c.args.t.now.program.types)
    (omega (arith, c.loop-o-test.false, c.ops-o-end.ensures.count, length-map (all_ops c.args.t.now.program.types) (op_contract (op_words c.args.t.now.program.types)))) c.loop-o.invariant.0
