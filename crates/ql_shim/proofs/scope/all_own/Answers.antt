use Rattle.std.proofs.lemmas.Result.{err_from_is_err_and}
use Rattle.std.proofs.Common.{length, get_or, ◌∙◌, sym, ap, add-one, arith}
use Rattle.ql_shim.proofs.CompleteLaws.{complete-kept, complete-passed}
use Rattle.ql_holder.proofs.Members.{index-has}
use Rattle.ql_shim.proofs.NextLaws.{effect-read}
use Rattle.ql_shim.proofs.scope.all_own.Goals as goal
use Rattle.ql_shim.proofs.scope.all_own.Goals.{then-is_kept+in_ok-insert, else-is_kept+else-is_awaited}

pub overflow_sub-a : goal.overflow_sub-a
overflow_sub-a c = (c.requires (get_or c.args.on.now c.loop-a.a-index 0) (index-has c.args.on.now c.loop-a.a-index c.loop-a-test.true)).0

pub bounds-effects-a : goal.bounds-effects-a
bounds-effects-a c =
    let inside = c.requires (get_or c.args.on.now c.loop-a.a-index 0) (index-has c.args.on.now c.loop-a.a-index c.loop-a-test.true) in
    let first = inside.0 in
    let last = inside.1 in
    let count = ap length c.effects-effects.ensures.same in
    omega (arith, first, last, count)

pub loop-a-preserved : goal.loop-a-preserved
loop-a-preserved c =
    let x = c.args.x.now in
    let on = c.args.on.now in
    let k = c.loop-a.a-index in
    let s = c.args.running.now.txn.session in
    let own = c.args.running.now.own in
    let saw = c.args.running.now.saw in
    let others = c.args.others.now in
    elim c.if-is_kept.branch [
      | then-is_kept+in_ok-insert w ↦ rw (w.ids-is, w.in_ok-insert.ensures.added, add-one)
          (complete-kept x own saw others s on k c.loop-a.ids c.loop-a-test.true (sym c.is_kept.ensures ∙ w.if-is_kept.true) c.loop-a.invariant)
      | else-is_kept+else-is_awaited w ↦
          (let inside = c.requires (get_or on k 0) (index-has on k c.loop-a-test.true) in
          let at = effect-read x c.effects-effects.result.now (get_or on k 0) w.index-effects-a.result c.effects-effects.ensures.same inside.0 inside.1 w.index-effects-a.is in
          rw (w.ids-is, add-one) (complete-passed x own saw others s on k c.loop-a.ids w.index-effects-a.result c.loop-a-test.true (sym c.is_kept.ensures ∙ w.if-is_kept.false) at
          (sym w.is_awaited.ensures ∙ w.if-is_awaited.false) c.loop-a.invariant))
    ]

pub returns-in_err-insert-clause-complete : goal.returns-in_err-insert-clause-complete
returns-in_err-insert-clause-complete c = let p = err_from_is_err_and c.from_residual.result c.from_residual.ensures.1 in rw p.1 tt
