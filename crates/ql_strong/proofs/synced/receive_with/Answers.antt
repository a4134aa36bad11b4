use Rattle.ql_strong.proofs.SyncLaws.{package-of, received-package}
use Rattle.ql_strong.proofs.synced.receive_with.Goals as goal

pub receive-requires-clause-package : goal.receive-requires-clause-package
receive-requires-clause-package g c = package-of c.args.x.now c.args.id.0 c.in_ok-package.package c.requires.first c.requires.last c.in_ok-package.ensures

pub returns-clause-received : goal.returns-clause-received
returns-clause-received g c =
    received-package c.args.x.now (g.H.Holder.received c.args.holder.now) c.in_ok-package.package (g.H.Holder.received c.receive.new.self) c.args.id.0
    c.in_ok-receive.field-0 c.in_ok-package.ensures c.in_ok-receive.ensures.arrival
