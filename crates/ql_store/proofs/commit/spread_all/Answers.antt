use Rattle.std.proofs.Common.{◌≡◌, ◌<◌, length, arith}
use Rattle.ql_holder.proofs.Members.{index-has}
use Rattle.ql_store.proofs.CommitLaws.{none-received, none-sent}
use Rattle.ql_store.proofs.commit.spread_all.Goals as goal

pub returns-then-is_empty-clause-received : goal.returns-then-is_empty-clause-received
returns-then-is_empty-clause-received g c =
    let none : length c.args.own.now ≡ 0 = grind (arith, c.is_empty.ensures, c.if-is_empty.true) in
    none-received g.H.Holder.received c.args.holders.now.items c.args.r.0 c.args.own.now c.requires.replica
    (λ d. g.met.H.Holder.fits_ascending _ c.args.x.now (c.requires.fit c.args.r.0 d c.requires.replica)) none

pub returns-then-is_empty-clause-sent : goal.returns-then-is_empty-clause-sent
returns-then-is_empty-clause-sent g c =
    let none : length c.args.own.now ≡ 0 = grind (arith, c.is_empty.ensures, c.if-is_empty.true) in
    none-sent c.args.net.now c.args.r c.args.own.now none

pub spread-requires-clause-package : goal.spread-requires-clause-package
spread-requires-clause-package g c =
    let some : 0 < length c.args.own.now = grind (arith, c.is_empty.ensures, c.if-is_empty.false) in
    c.requires.package _ (index-has c.args.own.now 0 some)
