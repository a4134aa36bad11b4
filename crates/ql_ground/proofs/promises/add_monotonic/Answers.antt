use Rattle.std.proofs.Common.{◌≡◌, ◌++◌, OnOk, subst}
use Rattle.ql_atoms.specs.Atoms.{size_of}
use Rattle.ql_cnf.specs.Circuits.{clauses_of}
use Rattle.ql_ground.specs.Ground.{instances}
use Rattle.ql_ground.specs.Rules.{Rule}
use Rattle.ql_ground.proofs.promises.add_monotonic.Goals as goal

pub returns-clause-clauses : goal.returns-clause-clauses
returns-clause-clauses c =
    subst (λ (r : Rule). OnOk c.add_rule.result (c.add_rule.new.c.clauses ≡ c.args.c.now.clauses ++ clauses_of (instances (size_of c.args.s) r)))
    c.over.ensures c.add_rule.ensures.clauses
