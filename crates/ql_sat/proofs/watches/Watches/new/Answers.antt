use Rattle.std.proofs.Common.{◌≡◌, ◌++◌, ◌∷◌, [], ◌+◌, length, ◌∙◌, arith}
use Rattle.std.proofs.lemmas.List.{length_push}
use Rattle.ql_sat.proofs.Building.{ascending_more, own_more}
use Rattle.ql_sat.proofs.watches.Watches.new.Goals as goal

pub loop-k-preserved : goal.loop-k-preserved
loop-k-preserved c =
    let before = c.loop-k.invariant in
    let long : length (c.loop-k.watches.pairs.items ++ c.first_pair-pair.result ∷ []) ≡ length c.loop-k.watches.pairs.items + 1 = length_push c.loop-k.watches.pairs.items c.first_pair-pair.result in
    record {
      counted = rw c.in_ok-attach.ensures.pair (omega (arith, long, before.counted));
      room = c.in_ok-attach.ensures.len ∙ before.room;
      ascending = ascending_more c.args.c.now.clauses c.loop-k.k c.clause.result.now c.clause.ensures.same c.items.ensures.ascending before.ascending;
      own = rw c.in_ok-attach.ensures.pair (own_more c.args.c.now.clauses c.loop-k.watches.pairs.items c.first_pair-pair.result c.loop-k.k c.clause.result.now before.counted c.clause.ensures.same (rw c.items.ensures.same at c.first_pair-pair.ensures) before.own);
    }
