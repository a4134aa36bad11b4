use Rattle.std.proofs.Common.{◌≡◌, subst, sym}
use Rattle.std.proofs.lemmas.Result.{IfOk-weaker}
use Rattle.ql_machine.specs.Sets.{AreThose}
use Rattle.ql_holder.specs.Needs.{AreWhole, IsNeeded}
use Rattle.ql_ranges.specs.Ranges.{ids_of}
use Rattle.ql_ranges.specs.Reach.{IsReach}
use Rattle.ql_strong.proofs.BareLaws.{needed-whole, needed-those}
use Rattle.ql_strong.proofs.needed.bare.Goals as goal

pub made_whole-requires-clause-whole : goal.made_whole-requires-clause-whole
made_whole-requires-clause-whole g c =
    let found = subst (λ known. IsReach c.args.x.now c.args.strong.now (ids_of known) c.in_ok-needed.needed) c.new.ensures c.in_ok-needed.ensures in
    subst (AreWhole c.args.x.now) (sym c.items.ensures.same) (needed-whole c.args.x.now c.args.strong.now c.in_ok-needed.needed found)

pub returns-clause-received : goal.returns-clause-received
returns-clause-received g c =
    let x = c.args.x.now in
    let strong = c.args.strong.now in
    let found = subst (λ known. IsReach x strong (ids_of known) c.in_ok-needed.needed) c.new.ensures c.in_ok-needed.ensures in
    let those : AreThose (IsNeeded x strong) c.items.result.now =
    subst (AreThose (IsNeeded x strong)) (sym c.items.ensures.same) (needed-those x strong c.in_ok-needed.needed c.items.ensures.ascending found) in
    IfOk-weaker c.made_whole.result (λ h. g.H.Holder.received h ≡ c.items.result.now) (λ h. AreThose (IsNeeded x strong) (g.H.Holder.received h)) (λ h is. subst (AreThose (IsNeeded x strong)) (sym is) those) c.made_whole.ensures.received
