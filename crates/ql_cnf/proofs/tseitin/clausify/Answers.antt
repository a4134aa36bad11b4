use Rattle.std.proofs.Common.{◌≡◌, ◌+◌, ◌++◌, Result, Ok, Err, OnOk}
use Rattle.ql_cnf.specs.Circuits.{circuit_of, gates, denying, clauses_of}
use Rattle.ql_cnf.proofs.CircuitLaws.{extends, denied}
use Rattle.ql_cnf.proofs.tseitin.clausify.Goals as goal

-- two facts of an answer give a third
on_both : {T E P Q R : Type 0} (r : Result T E) → (P → Q → R) → OnOk r P → OnOk r Q → OnOk r R
on_both (Ok x) f p q = f p q
on_both (Err e) f p q = tt

pub returns-else-is_err-clause-extends : goal.returns-else-is_err-clause-extends
returns-else-is_err-clause-extends c = on_both c.deny-answer.result
    (λ (variables : c.deny-answer.new.c.variables ≡ c.args.c.now.variables + gates (circuit_of c.args.g.now)) (clauses : c.deny-answer.new.c.clauses ≡ c.args.c.now.clauses ++ clauses_of (denying c.args.c.now.variables (circuit_of c.args.g.now))).
    extends c.args.c.now c.deny-answer.new.c (circuit_of c.args.g.now) c.len-clauses.ensures.in_range c.requires.leaves variables clauses)
    c.deny-answer.ensures.variables c.deny-answer.ensures.clauses

pub returns-else-is_err-clause-denied : goal.returns-else-is_err-clause-denied
returns-else-is_err-clause-denied c = on_both c.deny-answer.result
    (λ (variables : c.deny-answer.new.c.variables ≡ c.args.c.now.variables + gates (circuit_of c.args.g.now)) (clauses : c.deny-answer.new.c.clauses ≡ c.args.c.now.clauses ++ clauses_of (denying c.args.c.now.variables (circuit_of c.args.g.now))).
    denied c.args.c.now c.deny-answer.new.c (circuit_of c.args.g.now) c.len-clauses.ensures.in_range c.requires.leaves variables clauses)
    c.deny-answer.ensures.variables c.deny-answer.ensures.clauses
