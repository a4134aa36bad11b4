use Rattle.std.proofs.lemmas.Result.{err_from_is_err_and}
use Rattle.std.proofs.Common.{◌∷◌, [], length, length-append, ap, ◌∙◌, arith}
use Rattle.ql_ranges.specs.Ranges.{ids_of}
use Rattle.slab.specs.Slab.{get}
use Rattle.ql_replica.proofs.ReceiptLaws.{advances-along, decided-push}
use Rattle.ql_replica.proofs.walking.walk_waiting.Goals as goal

pub new_watch-requires-clause-held : goal.new_watch-requires-clause-held
new_watch-requires-clause-held c = λ w at. c.requires.held c.loop-key.key w at

pub loop-key-preserved : goal.loop-key-preserved
loop-key-preserved c =
    let items = c.in_ok-push.ensures.items in
    let count = c.loop-key.invariant.count in
    let longer = ap length items ∙ length-append c.loop-key.watches.items (c.in_ok-watch.watch ∷ []) in
    record {
      count = omega (arith, longer, count);
      known = c.in_ok-watch.ensures.known;
      advances =
          advances-along (ids_of c.args.progress.now.applied) c.args.progress.now.gain (ids_of c.loop-key.progress.applied) c.loop-key.progress.gain (ids_of c.new_watch.new.progress.applied) c.new_watch.new.progress.gain
          c.loop-key.invariant.advances c.in_ok-watch.ensures.advances;
      decided =
          decided-push c.args.x.now (ids_of c.args.after.now) (ids_of c.loop-key.progress.applied) (ids_of c.new_watch.new.progress.applied) (get c.args.waiting.now) c.loop-key.watches.items c.push.new.self.items
          c.loop-key.key c.in_ok-watch.watch c.loop-key.invariant.decided c.in_ok-watch.ensures.advances.grows count c.in_ok-watch.ensures.decided items;
    }

pub returns-in_err-push-clause-advances : goal.returns-in_err-push-clause-advances
returns-in_err-push-clause-advances c = let p = err_from_is_err_and c.from_residual-in_err-push.result c.from_residual-in_err-push.ensures.1 in rw p.1 tt

pub returns-in_err-push-clause-decided : goal.returns-in_err-push-clause-decided
returns-in_err-push-clause-decided c = let p = err_from_is_err_and c.from_residual-in_err-push.result c.from_residual-in_err-push.ensures.1 in rw p.1 tt

pub returns-in_err-push-clause-known : goal.returns-in_err-push-clause-known
returns-in_err-push-clause-known c = let p = err_from_is_err_and c.from_residual-in_err-push.result c.from_residual-in_err-push.ensures.1 in rw p.1 tt

pub returns-in_err-push-clause-slots : goal.returns-in_err-push-clause-slots
returns-in_err-push-clause-slots c = let p = err_from_is_err_and c.from_residual-in_err-push.result c.from_residual-in_err-push.ensures.1 in rw p.1 tt

pub returns-in_err-watch-clause-advances : goal.returns-in_err-watch-clause-advances
returns-in_err-watch-clause-advances c = let p = err_from_is_err_and c.from_residual.result c.from_residual.ensures.1 in rw p.1 tt

pub returns-in_err-watch-clause-decided : goal.returns-in_err-watch-clause-decided
returns-in_err-watch-clause-decided c = let p = err_from_is_err_and c.from_residual.result c.from_residual.ensures.1 in rw p.1 tt

pub returns-in_err-watch-clause-known : goal.returns-in_err-watch-clause-known
returns-in_err-watch-clause-known c = let p = err_from_is_err_and c.from_residual.result c.from_residual.ensures.1 in rw p.1 tt

pub returns-in_err-watch-clause-slots : goal.returns-in_err-watch-clause-slots
returns-in_err-watch-clause-slots c = let p = err_from_is_err_and c.from_residual.result c.from_residual.ensures.1 in rw p.1 tt
