use Rattle.std.proofs.Common.{◌≡◌, ◌++◌, [], ◌∷◌}
use Rattle.std.proofs.lemmas.Result.{on_ok_weaker}
use Rattle.ql_atoms.specs.Atoms.{size_of}
use Rattle.ql_cnf.specs.Circuits.{clauses_of}
use Rattle.ql_ground.specs.Ground.{instances}
use Rattle.ql_ground.specs.Rules as rules
use Rattle.ql_ground.proofs.Growth.{one_rule, then_rule}
use Rattle.ql_ground.proofs.promises.add_txn_level.Goals as goal

pub returns-in_ok-add_committed-in-Mav-clause-clauses : goal.returns-in_ok-add_committed-in-Mav-clause-clauses
returns-in_ok-add_committed-in-Mav-clause-clauses c = rw c.in-Mav.is (on_ok_weaker c.add_monotonic.result
    (λ (h : c.add_monotonic.new.c.clauses ≡ c.add_committed-in-Mav.new.c.clauses ++ clauses_of (instances (size_of c.args.s) rules.monotonic_rule)).
    then_rule (size_of c.args.s) c.args.c.now.clauses c.add_committed-in-Mav.new.c.clauses c.add_monotonic.new.c.clauses rules.committed_rule (rules.monotonic_rule ∷ [])
    c.in_ok-add_committed-in-Mav.ensures.clauses
    (one_rule (size_of c.args.s) c.add_committed-in-Mav.new.c.clauses c.add_monotonic.new.c.clauses rules.monotonic_rule h))
    c.add_monotonic.ensures.clauses)
