use Rattle.std.proofs.Common.{◌≡◌, false, sym}
use Rattle.ql_base.specs.IdLists.{has_id}
use Rattle.ql_ranges.specs.Ranges.{ids_of}
use Rattle.ql_ranges.proofs.WalkLaws.{meets-new}
use Rattle.ql_ranges.proofs.walk.meet.Goals as goal

pub returns-in_ok-push : goal.returns-in_ok-push
returns-in_ok-push c =
    let new : has_id (ids_of c.args.walk.now.found) c.args.id ≡ false = sym c.if-not-has-2.ensures in
    meets-new (ids_of c.args.known.now) (ids_of c.args.walk.now.found) c.args.walk.now.due.items (ids_of c.insert.new.self) c.push.new.self.items c.args.id new
    c.in_ok-insert.ensures.added c.in_ok-push.ensures.items
