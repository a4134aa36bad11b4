use Rattle.std.proofs.Common.{◌+◌, drop, map, subst}
use Rattle.ql_typing.specs.Invariant.{IsRest}
use Rattle.ql_typing.specs.Programs.{op_names}
use Rattle.ql_typing.proofs.Each.{next_item, no_item}
use Rattle.ql_typing.proofs.MetNames.{rest_start, rest_lists, rest_end}
use Rattle.ql_typing.proofs.program.meet_ops.Goals as goal

pub loop-declared-init : goal.loop-declared-init
loop-declared-init c = rest_start c.args.names.now (op_names c.args.types.now)

pub loop-declared-preserved : goal.loop-declared-preserved
loop-declared-preserved c =
    let here = next_item c.args.types.now c.loop-declared.declared-index c.declared-item.result c.loop-declared-test.true c.declared-item.is in
    rw (c.first-fault.ensures, c.in_ok-twice.ensures.names, c.in_ok-twice.ensures.fault, c.items.ensures)
    (rest_lists c.args.names.now c.loop-declared.names c.loop-declared.fault (map (λ o. o.name) c.declared-item.result.ops) (op_names (drop (c.loop-declared.declared-index + 1) c.args.types.now)) (op_names c.args.types.now)
    (subst (λ ts. IsRest c.args.names.now c.loop-declared.names c.loop-declared.fault (op_names ts) (op_names c.args.types.now)) here c.loop-declared.invariant))

pub returns-clause-names : goal.returns-clause-names
returns-clause-names c = (rest_end c.args.names.now c.loop-declared.names c.loop-declared.fault (op_names c.args.types.now)
    (subst (λ ts. IsRest c.args.names.now c.loop-declared.names c.loop-declared.fault (op_names ts) (op_names c.args.types.now)) (no_item c.args.types.now c.loop-declared.declared-index c.loop-declared-test.false) c.loop-declared.invariant)).0

pub returns-clause-fault : goal.returns-clause-fault
returns-clause-fault c = (rest_end c.args.names.now c.loop-declared.names c.loop-declared.fault (op_names c.args.types.now)
    (subst (λ ts. IsRest c.args.names.now c.loop-declared.names c.loop-declared.fault (op_names ts) (op_names c.args.types.now)) (no_item c.args.types.now c.loop-declared.declared-index c.loop-declared-test.false) c.loop-declared.invariant)).1
