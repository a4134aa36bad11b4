use Rattle.std.proofs.lemmas.Result.{err_from_is_err_and}
use Rattle.std.proofs.Common.{get_or, ◌≡◌, ℕ, ◌∙◌, ap, length, replicate, arith}
use Rattle.ql_strong.proofs.SyncLaws.{all-within}
use Rattle.ql_strong.proofs.synced.sync.Goals as goal

pub returns-clause-all : goal.returns-clause-all
returns-clause-all g c =
    let committed = c.args.committed.now in
    let at = c.loop-holder.auto.holder-index-end in
    let past = c.loop-holder-test.false in
    let count : c.loop-holder.holder-index ≡ length c.args.holders.now = omega (arith, at, past) in
    c.loop-holder.invariant.1 ∙ ap (λ (n : ℕ). replicate n committed) count
    ∙ all-within g.H.Holder.received c.args.holders.now committed c.items-ids.ensures.ascending
    (λ k d inside. record {
      ascending = g.met.H.Holder.fits_ascending (get_or c.args.holders.now k d) c.args.x.now (c.requires.fit k d inside);
      among = c.requires.within k d inside;
    })

pub returns-in_err-made_whole-clause-all : goal.returns-in_err-made_whole-clause-all
returns-in_err-made_whole-clause-all g c = let p = err_from_is_err_and c.from_residual-in_err-made_whole.result c.from_residual-in_err-made_whole.ensures.1 in rw p.1 tt

pub returns-in_err-made_whole-clause-exact : goal.returns-in_err-made_whole-clause-exact
returns-in_err-made_whole-clause-exact g c = let p = err_from_is_err_and c.from_residual-in_err-made_whole.result c.from_residual-in_err-made_whole.ensures.1 in rw p.1 tt

pub returns-in_err-made_whole-clause-fit : goal.returns-in_err-made_whole-clause-fit
returns-in_err-made_whole-clause-fit g c = let p = err_from_is_err_and c.from_residual-in_err-made_whole.result c.from_residual-in_err-made_whole.ensures.1 in rw p.1 tt

pub returns-in_err-push-clause-all : goal.returns-in_err-push-clause-all
returns-in_err-push-clause-all g c = let p = err_from_is_err_and c.from_residual-in_err-push.result c.from_residual-in_err-push.ensures.1 in rw p.1 tt

pub returns-in_err-push-clause-exact : goal.returns-in_err-push-clause-exact
returns-in_err-push-clause-exact g c = let p = err_from_is_err_and c.from_residual-in_err-push.result c.from_residual-in_err-push.ensures.1 in rw p.1 tt

pub returns-in_err-push-clause-fit : goal.returns-in_err-push-clause-fit
returns-in_err-push-clause-fit g c = let p = err_from_is_err_and c.from_residual-in_err-push.result c.from_residual-in_err-push.ensures.1 in rw p.1 tt

pub returns-in_err-synced-clause-all : goal.returns-in_err-synced-clause-all
returns-in_err-synced-clause-all g c = let p = err_from_is_err_and c.from_residual.result c.from_residual.ensures.1 in rw p.1 tt

pub returns-in_err-synced-clause-exact : goal.returns-in_err-synced-clause-exact
returns-in_err-synced-clause-exact g c = let p = err_from_is_err_and c.from_residual.result c.from_residual.ensures.1 in rw p.1 tt

pub returns-in_err-synced-clause-fit : goal.returns-in_err-synced-clause-fit
returns-in_err-synced-clause-fit g c = let p = err_from_is_err_and c.from_residual.result c.from_residual.ensures.1 in rw p.1 tt
