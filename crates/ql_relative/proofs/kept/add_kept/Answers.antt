use Rattle.std.proofs.Common.{◌≡◌, ◌++◌, ◌∙◌, ap}
use Rattle.std.proofs.lemmas.Result.{on_ok_weaker}
use Rattle.ql_atoms.specs.Atoms.{size_of}
use Rattle.ql_base.specs.Ranges.{upto}
use Rattle.ql_cnf.specs.Circuits.{clauses_of}
use Rattle.ql_ground.specs.Ground.{instances}
use Rattle.ql_ground.specs.Rules.{Rule}
use Rattle.ql_ground.proofs.Growth.{then}
use Rattle.ql_relative.specs.Relative.{eventual_rule, kept_of}
use Rattle.ql_relative.proofs.kept.add_kept.Goals as goal

pub returns-clause-clauses : goal.returns-clause-clauses
returns-clause-clauses c = on_ok_weaker c.add_operations.result
    (λ (h : c.add_operations.new.c.clauses ≡ c.add_rule.new.c.clauses ++ clauses_of (upto c.args.s.constants (kept_of c.args.levels.now (size_of c.args.s)))).
    then c.args.c.now.clauses c.add_rule.new.c.clauses c.add_operations.new.c.clauses (instances (size_of c.args.s) eventual_rule) (upto c.args.s.constants (kept_of c.args.levels.now (size_of c.args.s)))
    (c.in_ok-add_rule.ensures.clauses ∙ ap (λ (r : Rule). c.args.c.now.clauses ++ clauses_of (instances (size_of c.args.s) r)) c.over.ensures)
    h)
    c.add_operations.ensures.clauses
