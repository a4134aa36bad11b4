use Rattle.std.proofs.Common.{◌≡◌, ◌+◌, ◌∙◌, ap, suc, max, arith}
use Rattle.std.specs.Option.{option_map_or}
use Rattle.ql_exec.specs.declared.effect.Effect.{Effect}
use Rattle.ql_exec.specs.Execution.{session_stamp, seen_stamp}
use Rattle.ql_exec.proofs.Stamps.{last_stamp, stamp_few, stamp_loop-step, stamp_loop-end}
use Rattle.ql_exec.proofs.judging.stamp_after.Goals as goal

pub loop-id-init : goal.loop-id-init
loop-id-init c =
    let x = c.args.effects.now in
    let s = c.args.session in
    let last : c.stamp_or_none-stamp.result ≡ session_stamp x s =
    c.stamp_or_none-stamp.ensures ∙ ap (λ o. option_map_or (λ (e : Effect). e.stamp) o 0) c.requires.last ∙ last_stamp x s c.requires.execution in
    let swapped : max c.stamp_or_none-stamp.result (seen_stamp x c.args.seen.now) ≡ max (seen_stamp x c.args.seen.now) (session_stamp x s) = omega (arith, last) in
    swapped

pub loop-id-preserved : goal.loop-id-preserved
loop-id-preserved c =
    rw (c.max-stamp.ensures, c.stamp_at.ensures)
    (stamp_loop-step c.args.effects.now c.args.seen.now c.loop-id.id-index c.loop-id.stamp _ c.loop-id-test.true c.loop-id.invariant)

pub overflow_add-result : goal.overflow_add-result
overflow_add-result c =
    let few = stamp_few c.args.effects.now c.requires.execution c.args.seen.now c.args.session in
    let seen = few.0 in
    let own = few.1 in
    let room = c.requires.few in
    let is = stamp_loop-end c.args.effects.now c.args.seen.now c.loop-id.id-index c.loop-id.stamp _ c.loop-id-test.false c.loop-id.invariant in
    omega (arith, seen, own, room, is)

pub returns : goal.returns
returns c =
    let is = stamp_loop-end c.args.effects.now c.args.seen.now c.loop-id.id-index c.loop-id.stamp _ c.loop-id-test.false c.loop-id.invariant in
    let more : c.loop-id.stamp + 1 ≡ suc c.loop-id.stamp = omega arith in
    more ∙ ap suc is
