use Rattle.std.proofs.Common.{[], Some, ap, map, true, ◌∙◌}
use Rattle.ql_lang.specs.Formulas.{resolved_of}
use Rattle.ql_lang.specs.Trees.{sentence_of}
use Rattle.ql_typing.specs.Faults.{each, repeats}
use Rattle.ql_typing.specs.ContractFaults.{op_faults}
use Rattle.ql_typing.specs.Programs.{txn_faults}
use Rattle.ql_typing.proofs.Growing.{few_vars}
use Rattle.ql_typing.specs.Operations.{txn_contract}
use Rattle.ql_typing.proofs.Mapped.{mapped_step, mapped_end}
use Rattle.ql_typing.proofs.Parts.{each_item, right_none}
use Rattle.ql_typing.proofs.formulas.formulas_of_txns.Goals as goal

pub push_formula-requires : goal.push_formula-requires
unfolding txn_faults
push_formula-requires c =
    let typed = each_item (txn_faults c.args.ops.now) c.args.txns.now c.loop-declared.declared-index c.declared-item.result c.requires c.loop-declared-test.true c.declared-item.is in
    few_vars (Some c.args.ops.now) true (sentence_of c.declared-item.result.contract)
    (right_none (each (op_faults (Some c.args.ops.now)) c.declared-item.result.uses) _ (right_none (repeats [] c.declared-item.result.uses) _ typed))

pub loop-declared-init : goal.loop-declared-init
loop-declared-init c = ap (λ fs. map resolved_of fs) c.in_ok-formulas.ensures.items

pub loop-declared-preserved : goal.loop-declared-preserved
loop-declared-preserved c =
    c.in_ok-push_formula.ensures
    ∙ mapped_step (txn_contract c.args.ops.now) c.args.txns.now c.loop-declared.declared-index [] (map resolved_of c.loop-declared.formulas.items) c.declared-item.result c.loop-declared-test.true c.declared-item.is c.loop-declared.invariant

pub returns : goal.returns
returns c =
    mapped_end (txn_contract c.args.ops.now) c.args.txns.now c.loop-declared.declared-index [] (map resolved_of c.loop-declared.formulas.items) c.loop-declared-test.false c.loop-declared.invariant
