use Rattle.std.proofs.Common.{◌≡◌, ◌+◌, [], ap, arith, drop, length, map, sym, subst, ◌∙◌}
use Rattle.ql_typing.specs.Faults.{names_met}
use Rattle.ql_typing.specs.Programs.{op_names}
use Rattle.ql_typing.proofs.Each.{next_item, no_item}
use Rattle.ql_typing.proofs.Growing.{names_grow}
use Rattle.ql_typing.proofs.MetNames.{names_met-append}
use Rattle.ql_typing.proofs.typed.number_ops.Goals as goal

pub loop-declared-init : goal.loop-declared-init
loop-declared-init c = ap (λ ops. names_met ops (op_names c.args.types.now)) c.new-ops.ensures

pub loop-declared-preserved : goal.loop-declared-preserved
loop-declared-preserved c =
    let here = next_item c.args.types.now c.loop-declared.declared-index c.declared-item.result c.loop-declared-test.true c.declared-item.is in
    rw (c.in_ok-number_each.ensures.numbered, c.items.ensures)
    (sym (names_met-append c.loop-declared.ops (map (λ o. o.name) c.declared-item.result.ops) (op_names (drop (c.loop-declared.declared-index + 1) c.args.types.now)))
    ∙ subst (λ ts. names_met c.loop-declared.ops (op_names ts) ≡ names_met [] (op_names c.args.types.now)) here c.loop-declared.invariant)

pub number_each-requires : goal.number_each-requires
number_each-requires c =
    let here = next_item c.args.types.now c.loop-declared.declared-index c.declared-item.result c.loop-declared-test.true c.declared-item.is in
    let own = map (λ o. o.name) c.declared-item.result.ops in
    let rest = op_names (drop (c.loop-declared.declared-index + 1) c.args.types.now) in
    let met = sym (names_met-append c.loop-declared.ops own rest) ∙ subst (λ ts. names_met c.loop-declared.ops (op_names ts) ≡ names_met [] (op_names c.args.types.now)) here c.loop-declared.invariant in
    rw c.items.ensures (omega (arith, names_grow (names_met c.loop-declared.ops own) rest, ap length met, c.requires))

pub returns : goal.returns
unfolding names_met
returns c =
    ap (λ ts. names_met c.loop-declared.ops (op_names ts)) (sym (no_item c.args.types.now c.loop-declared.declared-index c.loop-declared-test.false)) ∙ c.loop-declared.invariant
