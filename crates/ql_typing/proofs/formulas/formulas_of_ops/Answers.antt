use Rattle.std.proofs.Common.{ap, map, ◌∙◌, ◌++◌}
use Rattle.ql_lang.specs.declared.program.TypeDecl.{TypeDecl}
use Rattle.ql_lang.specs.Formulas.{resolved_of}
use Rattle.ql_typing.specs.Programs.{type_faults}
use Rattle.ql_typing.proofs.FaultFree.{own_typed}
use Rattle.ql_typing.specs.Operations.{op_contract}
use Rattle.ql_typing.proofs.Mapped.{flat_step, flat_end}
use Rattle.ql_typing.proofs.Parts.{each_item}
use Rattle.ql_typing.proofs.formulas.formulas_of_ops.Goals as goal

pub put_own-requires : goal.put_own-requires
put_own-requires c =
    rw c.items.ensures (own_typed c.args.ops.now c.declared-item.result
    (each_item (type_faults c.args.ops.now) c.args.types.now c.loop-declared.declared-index c.declared-item.result c.requires c.loop-declared-test.true c.declared-item.is))

pub loop-declared-init : goal.loop-declared-init
loop-declared-init c = ap (λ fs. map resolved_of fs) c.new-formulas.ensures.items

pub loop-declared-preserved : goal.loop-declared-preserved
loop-declared-preserved c =
    c.in_ok-put_own.ensures
    ∙ ap (λ os. map resolved_of c.loop-declared.formulas.items ++ map (op_contract c.args.ops.now) os) c.items.ensures
    ∙ flat_step (λ (t : TypeDecl). t.ops) (op_contract c.args.ops.now) c.args.types.now c.loop-declared.declared-index (map resolved_of c.loop-declared.formulas.items) c.declared-item.result c.loop-declared-test.true c.declared-item.is c.loop-declared.invariant

pub returns : goal.returns
returns c =
    flat_end (λ (t : TypeDecl). t.ops) (op_contract c.args.ops.now) c.args.types.now c.loop-declared.declared-index (map resolved_of c.loop-declared.formulas.items) c.loop-declared-test.false c.loop-declared.invariant
