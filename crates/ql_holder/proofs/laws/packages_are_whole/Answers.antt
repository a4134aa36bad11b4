use Rattle.ql_holder.proofs.Packages.{package-in, whole-union, whole-grown, package-grown}
use Rattle.ql_holder.proofs.laws.packages_are_whole.Goals as goal

pub returns-clause-together : goal.returns-clause-together
returns-clause-together c = package-in

pub returns-clause-added : goal.returns-clause-added
returns-clause-added c = whole-union

pub returns-clause-longer : goal.returns-clause-longer
returns-clause-longer c = whole-grown

pub returns-clause-carried : goal.returns-clause-carried
returns-clause-carried c = package-grown
