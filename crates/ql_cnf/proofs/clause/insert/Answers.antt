use Rattle.std.proofs.Common.{◌≡◌, arith}
use Rattle.ql_cnf.specs.Literals.{count_below}
use Rattle.ql_cnf.proofs.Places.{count_below-length, IsFreeAt, free_from_read, with_literal-new, there}
use Rattle.ql_cnf.proofs.clause.insert.Goals as goal
use Rattle.ql_cnf.proofs.clause.insert.Goals.{else-place-len-via-then-place-len+else-index-lit, else-place-len-via-else-place-len}

pub returns-then-index-lit : goal.returns-then-index-lit
returns-then-index-lit c =
    there c.args.lit c.args.items.now.items c.place_of-place.result c.index-then-index-lit.result.now c.index.result.now
    (rw c.deref.ensures.value at c.place_of-place.ensures) (omega arith) c.index-then-index-lit.ensures c.index.ensures c.if-index-lit.true

pub insert-requires : goal.insert-requires
insert-requires c =
    let most = count_below-length c.args.lit.var c.args.items.now.items in
    let place : c.place_of-place.result ≡ count_below c.args.lit.var c.args.items.now.items = rw c.deref.ensures.value at c.place_of-place.ensures in
    omega arith

pub returns : goal.returns
returns c =
    let place : c.place_of-place.result ≡ count_below c.args.lit.var c.args.items.now.items = rw c.deref.ensures.value at c.place_of-place.ensures in
    let free : IsFreeAt c.args.lit.var c.args.items.now.items c.place_of-place.result =
    elim c.else-place-len.branch [
      | else-place-len-via-then-place-len+else-index-lit w ↦ free_from_read c.args.lit.var c.args.items.now.items _ _ w.index.ensures w.if-index-lit.false
      | else-place-len-via-else-place-len w ↦ λ d h. absurd (omega arith)
    ] in
    rw (c.in_ok-insert.ensures.items, place) (with_literal-new c.args.lit c.args.items.now.items (rw place at free))
