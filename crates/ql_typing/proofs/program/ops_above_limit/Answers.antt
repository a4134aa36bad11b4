use Rattle.std.proofs.Common.{◌≡◌, ◌+◌, ap, arith, drop, length, map, refl, sym, subst, ◌∙◌}
use Rattle.std.proofs.lemmas.List.{length-map}
use Rattle.ql_typing.specs.Faults.{earlier, first_fault}
use Rattle.ql_typing.specs.Programs.{above, op_places}
use Rattle.ql_typing.proofs.Each.{next_item, no_item}
use Rattle.ql_typing.proofs.FirstFault.{earlier_none}
use Rattle.ql_typing.proofs.OpsAbove.{above_none, above_step}
use Rattle.ql_typing.proofs.program.ops_above_limit.Goals as goal

pub loop-declared-init : goal.loop-declared-init
unfolding earlier
loop-declared-init c = refl

pub loop-declared-preserved : goal.loop-declared-preserved
loop-declared-preserved c =
    let here = next_item c.args.types.now c.loop-declared.declared-index c.declared-item.result c.loop-declared-test.true c.declared-item.is in
    let own = c.declared-item.result.ops in
    rw (c.first-fault.ensures, c.above_limit.ensures, c.items-ops.ensures)
    (above_step c.loop-declared.fault c.loop-declared.left c.saturating_sub-left.result (map (λ o. o.at) own) (op_places (drop (c.loop-declared.declared-index + 1) c.args.types.now)) _
    (omega (arith, c.saturating_sub-left.ensures, ap length c.items-ops.ensures, length-map own (λ o. o.at)))
    (subst (λ ts. earlier c.loop-declared.fault (first_fault (above c.loop-declared.left (op_places ts))) ≡ first_fault (above c.args.limit (op_places c.args.types.now))) here c.loop-declared.invariant))

pub returns : goal.returns
returns c =
    sym (earlier_none c.loop-declared.fault) ∙ ap (λ r. earlier c.loop-declared.fault r) (sym (above_none c.loop-declared.left))
    ∙ subst (λ ts. earlier c.loop-declared.fault (first_fault (above c.loop-declared.left (op_places ts))) ≡ first_fault (above c.args.limit (op_places c.args.types.now)))
    (no_item c.args.types.now c.loop-declared.declared-index c.loop-declared-test.false) c.loop-declared.invariant
