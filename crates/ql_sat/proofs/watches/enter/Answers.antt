use Rattle.std.proofs.lemmas.Result.{err_from_is_err_and}
use Rattle.std.proofs.Common.{◌≡◌, ◌<◌, [], length, get_or, arith}
use Rattle.std.proofs.lemmas.List.{get_or_read}
use Rattle.ql_sat.proofs.Listing.{listed_kept, listed_new}
use Rattle.ql_sat.proofs.watches.enter.Goals as goal

pub returns-in_ok-push-clause-listed : goal.returns-in_ok-push-clause-listed
returns-in_ok-push-clause-listed c = listed_new c.args.lists.now.items c.index-at.result c.index_mut.result.now c.push.new.self c.args.lit c.args.clause c.index-at.ensures c.in_ok-push.ensures.pushed

pub returns-in_ok-push-clause-stays : goal.returns-in_ok-push-clause-stays
returns-in_ok-push-clause-stays c =
    let here : c.index-at.result < length c.args.lists.now.items = omega (arith, c.if-at-len.true, c.len.ensures, c.args.lists.now.ok.0) in
    let was : c.index_mut.result.now ≡ get_or c.args.lists.now.items c.index-at.result [] = get_or_read c.args.lists.now.items c.index-at.result c.index_mut.result.now here c.index_mut.ensures.value [] in
    λ x k listed. listed_kept c.args.lists.now.items c.index-at.result c.index_mut.result.now c.push.new.self c.args.clause x k was c.in_ok-push.ensures.pushed listed

pub returns-in_err-push-clause-len : goal.returns-in_err-push-clause-len
returns-in_err-push-clause-len c = let p = err_from_is_err_and c.from_residual.result c.from_residual.ensures.1 in rw p.1 tt

pub returns-in_err-push-clause-listed : goal.returns-in_err-push-clause-listed
returns-in_err-push-clause-listed c = let p = err_from_is_err_and c.from_residual.result c.from_residual.ensures.1 in rw p.1 tt
