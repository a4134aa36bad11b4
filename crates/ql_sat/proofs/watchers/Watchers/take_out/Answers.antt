use Rattle.ql_sat.proofs.Listing.{count_others}
use Rattle.ql_sat.proofs.watchers.Watchers.take_out.Goals as goal

pub returns-clause-others : goal.returns-clause-others
returns-clause-others c = λ k other. rw (c.swap_remove.ensures.items, c.self.view_is) (count_others c.args.self.now c.args.at k c.swap_remove.result 0 c.requires other)
