use Rattle.ql_holder.specs.Needs.{AreWhole, IsPackage}
use Rattle.ql_holder.proofs.Packages.{package-whole}
use Rattle.ql_shim.proofs.ViewLaws.{if_ok-more}
use Rattle.ql_strong.proofs.SyncLaws.{package-of}
use Rattle.ql_parts_tests.proofs.transactions.package_at.Goals as goal

pub returns-clause-one : goal.returns-clause-one
returns-clause-one c = if_ok-more _ (IsPackage c.args.x.now) c.package_of.result c.package_of.ensures (λ ids those. package-of c.args.x.now c.args.id.0 ids c.requires.first c.requires.last those)

pub returns-clause-whole : goal.returns-clause-whole
returns-clause-whole c =
    if_ok-more _ (AreWhole c.args.x.now) c.package_of.result c.package_of.ensures
    (λ ids those. package-whole c.args.x.now ids (package-of c.args.x.now c.args.id.0 ids c.requires.first c.requires.last those))
