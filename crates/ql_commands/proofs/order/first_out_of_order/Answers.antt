use Rattle.std.proofs.Common.{◌≡◌, ◌+◌, map, length, refl, arith}
use Rattle.ql_commands.specs.Check.{target_of, expected_targets}
use Rattle.ql_commands.proofs.Expected.{alike_more, expected_count, out_of_order, too_many}
use Rattle.ql_commands.proofs.order.first_out_of_order.Goals as goal

pub loop-place-preserved : goal.loop-place-preserved
loop-place-preserved c =
    let p = c.args.t.now.program in
    let count = expected_count p in
    let ops = c.ops.ensures.count in
    let txns = c.txns.ensures.count in
    let below = c.loop-place-test.true in
    alike_more (expected_targets p) (map target_of c.args.sections.now) c.loop-place.place (omega (arith, count, ops, txns, below)) c.loop-place.invariant (c.is_expected.ensures.0 c.if-not-is_expected.false)

pub returns-then-not-is_expected : goal.returns-then-not-is_expected
returns-then-not-is_expected c =
    let p = c.args.t.now.program in
    let count = expected_count p in
    let ops = c.ops.ensures.count in
    let txns = c.txns.ensures.count in
    let below = c.loop-place-test.true in
    let order = out_of_order p c.args.sections.now c.loop-place.place (c.loop-place.place + 1) refl (omega (arith, count, ops, txns, below)) c.loop-place.invariant
    (λ same. let expected = c.is_expected.ensures.1 same in let not = c.if-not-is_expected.true in absurd (cc)) in
    record { order = order; few = tt }

pub returns-then-sections-targets : goal.returns-then-sections-targets
returns-then-sections-targets c =
    let p = c.args.t.now.program in
    let count = expected_count p in
    let ops = c.ops.ensures.count in
    let txns = c.txns.ensures.count in
    let end = c.loop-place-test.false in
    let within = c.loop-place.auto.place-end in
    let more = c.if-sections-targets.true in
    let all : c.loop-place.place ≡ length (expected_targets p) = omega (arith, count, ops, txns, end, within) in
    let order = out_of_order p c.args.sections.now c.loop-place.place (c.ops.result + c.txns.result + 1) (omega (arith, end, within)) (omega (arith, all)) c.loop-place.invariant
    (too_many p c.args.sections.now c.loop-place.place all (omega (arith, end, within, more))) in
    record { order = order; few = tt }
