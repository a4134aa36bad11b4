use Rattle.std.proofs.Common.{sym, subst}
use Rattle.ql_holder.proofs.IdSets.{in_union-left, in_union-right, in_union-cases}
use Rattle.ql_ranges.specs.Ranges.{ids_of}
use Rattle.ql_session.specs.Walks.{Joins}
use Rattle.ql_session.proofs.past.meet_all.Goals as goal

pub returns-in_ok-met : goal.returns-in_ok-met
returns-in_ok-met c =
    let met = ids_of c.args.met.now in
    let ids = c.args.ids.now in
    subst (Joins met ids) (sym c.in_ok-met.ensures.united) (record {
      left = λ a has. in_union-left met ids a has;
      right = λ a has. in_union-right met ids a has;
      only = λ a has. in_union-cases met ids a has;
    })
