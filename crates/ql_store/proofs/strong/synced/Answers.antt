use Rattle.std.proofs.Common.{ℕ, List, ap, map, sym, subst, ◌∙◌}
use Rattle.std.proofs.lemmas.Result.{MatchResult-weaker}
use Rattle.ql_machine.specs.Changes.{received_by_all}
use Rattle.ql_holder.specs.Closed.{Has}
use Rattle.ql_holder.specs.Needs.{AreWhole}
use Rattle.ql_store.proofs.StrongLaws.{has-more, received-one-more, whole-one-more}
use Rattle.ql_store.proofs.strong.synced.Goals as goal

pub sync-requires-clause-within : goal.sync-requires-clause-within
sync-requires-clause-within g c = λ k d inside a has.
    subst (λ (ids : List ℕ). Has ids a) (sym c.in_ok-insert.ensures.added) (has-more c.args.done c.args.id.0 a (c.requires.within k d inside a has))

pub sync-requires-clause-whole : goal.sync-requires-clause-whole
sync-requires-clause-whole g c =
    subst (AreWhole c.args.x.now) (sym c.in_ok-insert.ensures.added) (whole-one-more c.args.x.now c.args.done c.args.id.0 c.requires.whole c.requires.package)

pub returns-clause-received : goal.returns-clause-received
returns-clause-received g c =
    let received = map g.H.Holder.received c.args.holders.now in
    MatchResult-weaker c.sync.result c.sync.ensures.all
    (λ made is. is ∙ ap (received_by_all received) c.in_ok-insert.ensures.added ∙ received-one-more received c.args.done c.args.id.0 c.requires.ascending)
    (λ e is. is)
