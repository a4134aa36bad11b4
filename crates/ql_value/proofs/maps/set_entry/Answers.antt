use Rattle.std.proofs.lemmas.Result.{err_from_is_err_and}
use Rattle.std.proofs.Common.{sym, arith}
use Rattle.ql_value.specs.Order.{key_cmp}
use Rattle.ql_value.proofs.Ascending.{overwrites, inserts, no_room}
use Rattle.ql_value.proofs.ScalarOrder.{keys_total}
use Rattle.ql_value.proofs.Keeping.{map_put}
use Rattle.ql_value.proofs.maps.set_entry.Goals as goal

pub returns-in-Ok-clause-gives : goal.returns-in-Ok-clause-gives
returns-in-Ok-clause-gives c = overwrites key_cmp keys_total c.args.entry c.args.entries.now.items c.in-Ok.at (rw c.deref.ensures.value at c.in-Ok.ensures) c.requires.few

pub returns-in-Ok-clause-map : goal.returns-in-Ok-clause-map
returns-in-Ok-clause-map c =
    let e = overwrites key_cmp keys_total c.args.entry c.args.entries.now.items c.in-Ok.at (rw c.deref.ensures.value at c.in-Ok.ensures) c.requires.few in
    rw e (map_put c.args.entries.now.items c.args.entry.0 c.args.entry.1 c.requires)

pub returns-in_ok-insert-in-Err-clause-map : goal.returns-in_ok-insert-in-Err-clause-map
returns-in_ok-insert-in-Err-clause-map c =
    let e = inserts key_cmp keys_total c.args.entry c.args.entries.now.items c.in-Err.at (rw c.deref.ensures.value at c.in-Err.ensures) (omega (arith, c.args.entries.now.ok.0)) in
    rw (c.in_ok-insert-in-Err.ensures.items, e) (map_put c.args.entries.now.items c.args.entry.0 c.args.entry.1 c.requires)

pub returns-else-len-lt-MAX_ENTRIES-clause-gives : goal.returns-else-len-lt-MAX_ENTRIES-clause-gives
returns-else-len-lt-MAX_ENTRIES-clause-gives c =
    let p = rw c.deref.ensures.value at c.in-Err.ensures in
    sym (no_room key_cmp keys_total c.args.entry c.args.entries.now.items p.1 (omega (arith, c.args.entries.now.ok.0)))

pub returns-in_err-insert-in-Err-clause-gives : goal.returns-in_err-insert-in-Err-clause-gives
returns-in_err-insert-in-Err-clause-gives c = let p = err_from_is_err_and c.from_residual.result c.from_residual.ensures.1 in rw p.1 tt

pub returns-in_err-insert-in-Err-clause-map : goal.returns-in_err-insert-in-Err-clause-map
returns-in_err-insert-in-Err-clause-map c = let p = err_from_is_err_and c.from_residual.result c.from_residual.ensures.1 in rw p.1 tt
