use Rattle.std.proofs.Common.{◌≡◌, ◌+◌, List, Some, length, slice_get, take, ap, ◌∙◌, sym, subst, refl, add-one, arith}
use Rattle.std.proofs.lemmas.Option.{slice_get_read}
use Rattle.ql_exec.specs.declared.effect.Effect.{Effect}
use Rattle.ql_exec.specs.Execution.{IsExecution}
use Rattle.ql_summary.specs.Slimming.{slim_of}
use Rattle.ql_summary.proofs.SlimForms.{slim_room, slim_turn}
use Rattle.ql_summary.proofs.slimming.slim.Goals as goal

pub put-requires-clause-room : goal.put-requires-clause-room
put-requires-clause-room c =
    let es = c.effects-effects.result.now in
    let k = c.loop-k.k in
    let at : slice_get es k ≡ Some c.index-effects-k.result = slice_get_read es (length es) k c.index-effects-k.result refl c.loop-k-test.true c.index-effects-k.is in
    let few = ap (λ (x : List Effect). length x) c.effects-effects.ensures.same in
    let count = slim_room c.args.kept.now es c.loop-k.small k c.index-effects-k.result at c.loop-k.invariant in
    let less = c.loop-k-test.true in
    let bound = c.effects-effects.ensures.few in
    omega (arith, few, count, less, bound)

pub put-requires-clause-next : goal.put-requires-clause-next
put-requires-clause-next c =
    let es = c.effects-effects.result.now in
    let k = c.loop-k.k in
    let e = c.index-effects-k.result in
    let at : slice_get es k ≡ Some e = slice_get_read es (length es) k e refl c.loop-k-test.true c.index-effects-k.is in
    let law : IsExecution es = subst IsExecution (sym c.effects-effects.ensures.same) c.effects-effects.ensures.execution in
    (slim_turn c.args.kept.now es c.loop-k.small k e c.in_ok-draft.draft c.has.result law at c.loop-k.invariant (c.has.ensures ∙ c.in_ok-ids.ensures (k + 1)) c.in_ok-draft.ensures).execution

pub loop-k-preserved : goal.loop-k-preserved
loop-k-preserved c =
    let es = c.effects-effects.result.now in
    let k = c.loop-k.k in
    let e = c.index-effects-k.result in
    let at : slice_get es k ≡ Some e = slice_get_read es (length es) k e refl c.loop-k-test.true c.index-effects-k.is in
    let law : IsExecution es = subst IsExecution (sym c.effects-effects.ensures.same) c.effects-effects.ensures.execution in
    let next = slim_turn c.args.kept.now es c.loop-k.small k e c.in_ok-draft.draft c.has.result law at c.loop-k.invariant (c.has.ensures ∙ c.in_ok-ids.ensures (k + 1)) c.in_ok-draft.ensures in
    c.in_ok-put.ensures ∙ next.is ∙ sym (ap (λ n. slim_of c.args.kept.now (take n es)) (add-one k))
