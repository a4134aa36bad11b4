use Rattle.std.proofs.Common.{inl, inr, ◌-◌, arith}
use Rattle.std.proofs.lemmas.Bool.Decides.{Decides-eqb}
use Rattle.std.proofs.lemmas.Slice.Eq.{slice_eq-Decides}
use Rattle.ql_commands.proofs.Expected.{txn_not, txn_reported}
use Rattle.ql_commands.proofs.order.is_txn_expected.Goals as goal

pub returns-then-place-ops : goal.returns-then-place-ops
returns-then-place-ops c =
    let count = c.ops.ensures.count in
    let low = c.if-place-ops.true in
    txn_not c.args.t.now.program c.args.place c.args.name.now (inl (omega (arith, count, low)))

pub returns-then-number-txns : goal.returns-then-number-txns
returns-then-number-txns c =
    let count = c.ops-2.ensures.count in
    let txns = c.txns.ensures.count in
    let high = c.if-number-txns.true in
    txn_not c.args.t.now.program c.args.place c.args.name.now (inr (omega (arith, count, txns, high)))

pub returns : goal.returns
returns c =
    let first = c.ops.ensures.count in
    let count = c.ops-2.ensures.count in
    let past = c.if-place-ops.false in
    txn_reported c.args.t.now.program c.args.place c.args.name.now c.eq.result c.bytes.result.now (c.args.place - c.ops-2.result) c.txn.result.now (omega (arith, first, count, past)) c.txn.ensures c.bytes.ensures.same (slice_eq-Decides Decides-eqb _ _ _ c.eq.ensures)
