use Rattle.std.proofs.Common.{Some, append-nil, false, map, sym, ◌∙◌}
use Rattle.ql_lang.specs.Formulas.{resolved_of}
use Rattle.ql_lang.specs.Trees.{sentence_of}
use Rattle.ql_typing.specs.ContractFaults.{contract_faults}
use Rattle.ql_typing.proofs.Growing.{few_vars}
use Rattle.ql_typing.specs.Operations.{op_contract}
use Rattle.ql_typing.proofs.Mapped.{mapped_step, mapped_end}
use Rattle.ql_typing.proofs.Parts.{each_item}
use Rattle.ql_typing.proofs.formulas.put_own.Goals as goal

pub push_formula-requires : goal.push_formula-requires
push_formula-requires c =
    few_vars (Some c.args.ops.now) false (sentence_of c.op-item.result.contract)
    (each_item (λ o. contract_faults (Some c.args.ops.now) false (sentence_of o.contract)) c.args.own.now c.loop-op.op-index c.op-item.result c.requires c.loop-op-test.true c.op-item.is)

pub loop-op-init : goal.loop-op-init
loop-op-init c = sym (append-nil (map resolved_of c.args.formulas.now.items))

pub loop-op-preserved : goal.loop-op-preserved
loop-op-preserved c =
    c.in_ok-push_formula.ensures
    ∙ mapped_step (op_contract c.args.ops.now) c.args.own.now c.loop-op.op-index (map resolved_of c.args.formulas.now.items) (map resolved_of c.loop-op.formulas.items) c.op-item.result c.loop-op-test.true c.op-item.is c.loop-op.invariant

pub returns : goal.returns
returns c =
    mapped_end (op_contract c.args.ops.now) c.args.own.now c.loop-op.op-index (map resolved_of c.args.formulas.now.items) (map resolved_of c.loop-op.formulas.items) c.loop-op-test.false c.loop-op.invariant
