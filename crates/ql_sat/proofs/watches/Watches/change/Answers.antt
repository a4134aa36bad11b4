use Rattle.std.proofs.Common.{ℕ, List, sym, ◌∙◌, ap}
use Rattle.std.specs.Prelude.{slice_index}
use Rattle.ql_sat.proofs.Listing.{listed_change}
use Rattle.ql_sat.proofs.watches.Watches.change.Goals as goal

pub invariant_of-self-2 : goal.invariant_of-self-2
invariant_of-self-2 c =
    let same = c.in_ok-enter.ensures.other c.args.from (λ e. c.requires.other (sym e)) in
    record {
      listed = listed_change c.args.self.now.lists.items c.enter.new.lists.items c.leave.new.lists.items c.args.self.now.pairs.items c.replace.new.pairs.items c.args.from c.args.to c.args.clause c.args.self.now.listed c.in_ok-enter.ensures.stays c.in_ok-enter.ensures.listed (λ x k ne had. c.leave.ensures.stays x k (λ e f. ne e (f ∙ ap (λ (ns : List ℕ). slice_index ns c.args.at) same ∙ sym c.requires.there.1)) had) c.replace.ensures.len c.replace.ensures.others c.replace.ensures.pair c.requires.other;
    }
