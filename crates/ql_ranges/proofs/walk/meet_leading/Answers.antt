use Rattle.std.proofs.Common.{get_or, sym, inl, inr}
use Rattle.ql_ranges.specs.Ranges.{ids_of}
use Rattle.ql_ranges.proofs.WalkLaws.{meets-new, meets-there, meets-first, some-leading}
use Rattle.ql_ranges.proofs.walk.meet_leading.Goals as goal

pub returns-then-has : goal.returns-then-has
returns-then-has c =
    let known = ids_of c.args.known.now in
    let ids = c.args.ids.now in
    let leading = c.leading.ensures in
    meets-there known (ids_of c.args.walk.now.found) c.args.walk.now.due.items ids c.leading.result
    (some-leading known ids c.leading.result c.requires.some (sym c.if-has.ensures) leading.end) leading.bound (λ k below. inl (leading.has k below))

pub returns-then-has-2 : goal.returns-then-has-2
returns-then-has-2 c =
    let found = ids_of c.args.walk.now.found in
    let ids = c.args.ids.now in
    let leading = c.leading-then-has-2.ensures in
    meets-there (ids_of c.args.known.now) found c.args.walk.now.due.items ids c.leading-then-has-2.result
    (some-leading found ids c.leading-then-has-2.result c.requires.some (sym c.if-has-2.ensures) leading.end) leading.bound (λ k below. inr (leading.has k below))

pub returns : goal.returns
returns c =
    let known = ids_of c.args.known.now in
    let found = ids_of c.args.walk.now.found in
    let due = c.args.walk.now.due.items in
    meets-first known found due (ids_of c.insert.new.self) c.push.new.self.items c.args.ids.now c.requires.some
    (meets-new known found due (ids_of c.insert.new.self) c.push.new.self.items (get_or c.args.ids.now 0 0) (sym c.if-has-2.ensures)
    c.in_ok-insert.ensures.added c.in_ok-push.ensures.items)
