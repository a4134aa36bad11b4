use Rattle.std.proofs.Common.{◌≡◌, length, arith}
use Rattle.std.proofs.lemmas.Bool.{both_ways}
use Rattle.ql_holder.specs.Arrivals.{Applied}
use Rattle.ql_holder.specs.Closed.{Has}
use Rattle.ql_holder.specs.Needs.{Needs}
use Rattle.ql_holder.proofs.ClosedLaws.{closed-member}
use Rattle.ql_store.proofs.BeginLaws.{first-all, first-more, first-none, first-same}
use Rattle.ql_store.proofs.begin.applied_by.Goals as goal
use Rattle.ql_store.proofs.begin.applied_by.Goals.{then-applied+in_ok-insert, else-applied}

pub loop-k-init : goal.loop-k-init
loop-k-init g c = rw c.new-ids.ensures (first-none (Applied c.args.x.now (g.H.Holder.received c.args.holder.now)))

pub loop-k-preserved : goal.loop-k-preserved
loop-k-preserved g c =
    let x = c.args.x.now in
    let holds = Applied x (g.H.Holder.received c.args.holder.now) in
    elim c.if-applied.branch [
      | then-applied+in_ok-insert w ↦ rw (w.ids-is, w.in_ok-insert.ensures.added)
          (first-more holds c.loop-k.k c.loop-k.ids ((c.applied.ensures x c.requires).0 w.if-applied.true) c.loop-k.invariant)
      | else-applied w ↦ rw w.ids-is
          (first-same holds c.loop-k.k c.loop-k.ids (λ is. both_ways c.applied.result w.if-applied.false ((c.applied.ensures x c.requires).1 is)) c.loop-k.invariant)
    ]

pub returns : goal.returns
returns g c =
    let x = c.args.x.now in
    let received = g.H.Holder.received c.args.holder.now in
    let all : c.loop-k.k ≡ length x = omega arith in
    first-all (Applied x received) c.loop-k.k c.loop-k.ids
    (λ a is. let there = (g.met.H.Holder.fits_whole c.args.holder.now x c.requires).there a (closed-member (Needs x) (Has received) a is) in (there.0, let last = there.1 in omega (arith, all, last)))
    c.loop-k.invariant
