use Rattle.std.proofs.Common.{◌≡◌, ◌+◌, ◌++◌, suc, arith, refl}
use Rattle.std.proofs.lemmas.Result.{err_from_is_err_and, on_ok_weaker}
use Rattle.ql_cnf.specs.Circuits.{circuit_of, clauses_of, both_clauses, either_clauses, if_then_clauses}
use Rattle.ql_cnf.proofs.CircuitLemmas.{nodes, inputs_more, gate_joined}
use Rattle.ql_cnf.proofs.tseitin.+define.Goals as goal

pub define-requires-in-And : goal.define-requires-in-And
define-requires-in-And t c =
    let parts = rw c.in-And.is at c.requires.leaves in
    let count : nodes (circuit_of c.args.g.now) ≡ suc (nodes (circuit_of c.deref.result.now) + nodes (circuit_of c.deref-in-And.result.now)) = rw (c.in-And.is, c.deref.ensures, c.deref-in-And.ensures) refl in (
      omega arith,
      rw c.deref-in-And.ensures (inputs_more c.args.c.now.variables c.define.new.c.variables (circuit_of c.in-And.right.value) parts.1 (omega (arith, c.in_ok-x-in-And.ensures.variables))),
    )

pub returns-in_ok-y-in-And-clause-clauses : goal.returns-in_ok-y-in-And-clause-clauses
returns-in_ok-y-in-And-clause-clauses t c = on_ok_weaker c.define_both.result
    (λ (last : c.define_both.new.c.clauses ≡ c.define-in-And.new.c.clauses ++ clauses_of (both_clauses (suc c.define-in-And.new.c.variables) c.in_ok-x-in-And.x c.in_ok-y-in-And.y)).
    rw (c.in-And.is, ← c.deref.ensures, ← c.deref-in-And.ensures)
    (gate_joined both_clauses c.args.c.now.clauses c.define.new.c.clauses c.define-in-And.new.c.clauses c.define_both.new.c.clauses
    c.args.c.now.variables c.define.new.c.variables c.define-in-And.new.c.variables c.in_ok-x-in-And.x c.in_ok-y-in-And.y
    (circuit_of c.deref.result.now) (circuit_of c.deref-in-And.result.now)
    c.in_ok-x-in-And.ensures.clauses c.in_ok-y-in-And.ensures.clauses c.in_ok-x-in-And.ensures.variables c.in_ok-y-in-And.ensures.variables
    c.in_ok-x-in-And.ensures.output c.in_ok-y-in-And.ensures.output last))
    c.define_both.ensures.clauses

pub define-requires-in-Or-2 : goal.define-requires-in-Or-2
define-requires-in-Or-2 t c =
    let parts = rw c.in-Or.is at c.requires.leaves in
    let count : nodes (circuit_of c.args.g.now) ≡ suc (nodes (circuit_of c.deref-in-Or.result.now) + nodes (circuit_of c.deref-in-Or-2.result.now)) = rw (c.in-Or.is, c.deref-in-Or.ensures, c.deref-in-Or-2.ensures) refl in (
      omega arith,
      rw c.deref-in-Or-2.ensures (inputs_more c.args.c.now.variables c.define-in-Or.new.c.variables (circuit_of c.in-Or.right.value) parts.1 (omega (arith, c.in_ok-x-in-Or.ensures.variables))),
    )

pub returns-in_ok-y-in-Or-clause-clauses : goal.returns-in_ok-y-in-Or-clause-clauses
returns-in_ok-y-in-Or-clause-clauses t c = on_ok_weaker c.define_either.result
    (λ (last : c.define_either.new.c.clauses ≡ c.define-in-Or-2.new.c.clauses ++ clauses_of (either_clauses (suc c.define-in-Or-2.new.c.variables) c.in_ok-x-in-Or.x c.in_ok-y-in-Or.y)).
    rw (c.in-Or.is, ← c.deref-in-Or.ensures, ← c.deref-in-Or-2.ensures)
    (gate_joined either_clauses c.args.c.now.clauses c.define-in-Or.new.c.clauses c.define-in-Or-2.new.c.clauses c.define_either.new.c.clauses
    c.args.c.now.variables c.define-in-Or.new.c.variables c.define-in-Or-2.new.c.variables c.in_ok-x-in-Or.x c.in_ok-y-in-Or.y
    (circuit_of c.deref-in-Or.result.now) (circuit_of c.deref-in-Or-2.result.now)
    c.in_ok-x-in-Or.ensures.clauses c.in_ok-y-in-Or.ensures.clauses c.in_ok-x-in-Or.ensures.variables c.in_ok-y-in-Or.ensures.variables
    c.in_ok-x-in-Or.ensures.output c.in_ok-y-in-Or.ensures.output last))
    c.define_either.ensures.clauses

pub define-requires-in-Implies-2 : goal.define-requires-in-Implies-2
define-requires-in-Implies-2 t c =
    let parts = rw c.in-Implies.is at c.requires.leaves in
    let count : nodes (circuit_of c.args.g.now) ≡ suc (nodes (circuit_of c.deref-in-Implies.result.now) + nodes (circuit_of c.deref-in-Implies-2.result.now)) = rw (c.in-Implies.is, c.deref-in-Implies.ensures, c.deref-in-Implies-2.ensures) refl in (
      omega arith,
      rw c.deref-in-Implies-2.ensures (inputs_more c.args.c.now.variables c.define-in-Implies.new.c.variables (circuit_of c.in-Implies.right.value) parts.1 (omega (arith, c.in_ok-x-in-Implies.ensures.variables))),
    )

pub returns-in_ok-y-in-Implies-clause-clauses : goal.returns-in_ok-y-in-Implies-clause-clauses
returns-in_ok-y-in-Implies-clause-clauses t c = on_ok_weaker c.define_if_then.result
    (λ (last : c.define_if_then.new.c.clauses ≡ c.define-in-Implies-2.new.c.clauses ++ clauses_of (if_then_clauses (suc c.define-in-Implies-2.new.c.variables) c.in_ok-x-in-Implies.x c.in_ok-y-in-Implies.y)).
    rw (c.in-Implies.is, ← c.deref-in-Implies.ensures, ← c.deref-in-Implies-2.ensures)
    (gate_joined if_then_clauses c.args.c.now.clauses c.define-in-Implies.new.c.clauses c.define-in-Implies-2.new.c.clauses c.define_if_then.new.c.clauses
    c.args.c.now.variables c.define-in-Implies.new.c.variables c.define-in-Implies-2.new.c.variables c.in_ok-x-in-Implies.x c.in_ok-y-in-Implies.y
    (circuit_of c.deref-in-Implies.result.now) (circuit_of c.deref-in-Implies-2.result.now)
    c.in_ok-x-in-Implies.ensures.clauses c.in_ok-y-in-Implies.ensures.clauses c.in_ok-x-in-Implies.ensures.variables c.in_ok-y-in-Implies.ensures.variables
    c.in_ok-x-in-Implies.ensures.output c.in_ok-y-in-Implies.ensures.output last))
    c.define_if_then.ensures.clauses

pub returns-in_err-append-in-True-clause-clauses : goal.returns-in_err-append-in-True-clause-clauses
returns-in_err-append-in-True-clause-clauses t c = let p = err_from_is_err_and c.from_residual-in_err-append-in-True.result c.from_residual-in_err-append-in-True.ensures.1 in rw p.1 tt

pub returns-in_err-append-in-True-clause-in_range : goal.returns-in_err-append-in-True-clause-in_range
returns-in_err-append-in-True-clause-in_range t c = let p = err_from_is_err_and c.from_residual-in_err-append-in-True.result c.from_residual-in_err-append-in-True.ensures.1 in rw p.1 tt

pub returns-in_err-append-in-True-clause-output : goal.returns-in_err-append-in-True-clause-output
returns-in_err-append-in-True-clause-output t c = let p = err_from_is_err_and c.from_residual-in_err-append-in-True.result c.from_residual-in_err-append-in-True.ensures.1 in rw p.1 tt

pub returns-in_err-append-in-True-clause-variables : goal.returns-in_err-append-in-True-clause-variables
returns-in_err-append-in-True-clause-variables t c = let p = err_from_is_err_and c.from_residual-in_err-append-in-True.result c.from_residual-in_err-append-in-True.ensures.1 in rw p.1 tt

pub returns-in_err-t-in-True-clause-clauses : goal.returns-in_err-t-in-True-clause-clauses
returns-in_err-t-in-True-clause-clauses t c = let p = err_from_is_err_and c.from_residual.result c.from_residual.ensures.1 in rw p.1 tt

pub returns-in_err-t-in-True-clause-in_range : goal.returns-in_err-t-in-True-clause-in_range
returns-in_err-t-in-True-clause-in_range t c = let p = err_from_is_err_and c.from_residual.result c.from_residual.ensures.1 in rw p.1 tt

pub returns-in_err-t-in-True-clause-output : goal.returns-in_err-t-in-True-clause-output
returns-in_err-t-in-True-clause-output t c = let p = err_from_is_err_and c.from_residual.result c.from_residual.ensures.1 in rw p.1 tt

pub returns-in_err-t-in-True-clause-variables : goal.returns-in_err-t-in-True-clause-variables
returns-in_err-t-in-True-clause-variables t c = let p = err_from_is_err_and c.from_residual.result c.from_residual.ensures.1 in rw p.1 tt

pub returns-in_err-x-in-And-clause-clauses : goal.returns-in_err-x-in-And-clause-clauses
returns-in_err-x-in-And-clause-clauses t c = let p = err_from_is_err_and c.from_residual-in_err-x-in-And.result c.from_residual-in_err-x-in-And.ensures.1 in rw p.1 tt

pub returns-in_err-x-in-And-clause-in_range : goal.returns-in_err-x-in-And-clause-in_range
returns-in_err-x-in-And-clause-in_range t c = let p = err_from_is_err_and c.from_residual-in_err-x-in-And.result c.from_residual-in_err-x-in-And.ensures.1 in rw p.1 tt

pub returns-in_err-x-in-And-clause-output : goal.returns-in_err-x-in-And-clause-output
returns-in_err-x-in-And-clause-output t c = let p = err_from_is_err_and c.from_residual-in_err-x-in-And.result c.from_residual-in_err-x-in-And.ensures.1 in rw p.1 tt

pub returns-in_err-x-in-And-clause-variables : goal.returns-in_err-x-in-And-clause-variables
returns-in_err-x-in-And-clause-variables t c = let p = err_from_is_err_and c.from_residual-in_err-x-in-And.result c.from_residual-in_err-x-in-And.ensures.1 in rw p.1 tt

pub returns-in_err-x-in-Implies-clause-clauses : goal.returns-in_err-x-in-Implies-clause-clauses
returns-in_err-x-in-Implies-clause-clauses t c = let p = err_from_is_err_and c.from_residual-in_err-x-in-Implies.result c.from_residual-in_err-x-in-Implies.ensures.1 in rw p.1 tt

pub returns-in_err-x-in-Implies-clause-in_range : goal.returns-in_err-x-in-Implies-clause-in_range
returns-in_err-x-in-Implies-clause-in_range t c = let p = err_from_is_err_and c.from_residual-in_err-x-in-Implies.result c.from_residual-in_err-x-in-Implies.ensures.1 in rw p.1 tt

pub returns-in_err-x-in-Implies-clause-output : goal.returns-in_err-x-in-Implies-clause-output
returns-in_err-x-in-Implies-clause-output t c = let p = err_from_is_err_and c.from_residual-in_err-x-in-Implies.result c.from_residual-in_err-x-in-Implies.ensures.1 in rw p.1 tt

pub returns-in_err-x-in-Implies-clause-variables : goal.returns-in_err-x-in-Implies-clause-variables
returns-in_err-x-in-Implies-clause-variables t c = let p = err_from_is_err_and c.from_residual-in_err-x-in-Implies.result c.from_residual-in_err-x-in-Implies.ensures.1 in rw p.1 tt

pub returns-in_err-x-in-Or-clause-clauses : goal.returns-in_err-x-in-Or-clause-clauses
returns-in_err-x-in-Or-clause-clauses t c = let p = err_from_is_err_and c.from_residual-in_err-x-in-Or.result c.from_residual-in_err-x-in-Or.ensures.1 in rw p.1 tt

pub returns-in_err-x-in-Or-clause-in_range : goal.returns-in_err-x-in-Or-clause-in_range
returns-in_err-x-in-Or-clause-in_range t c = let p = err_from_is_err_and c.from_residual-in_err-x-in-Or.result c.from_residual-in_err-x-in-Or.ensures.1 in rw p.1 tt

pub returns-in_err-x-in-Or-clause-output : goal.returns-in_err-x-in-Or-clause-output
returns-in_err-x-in-Or-clause-output t c = let p = err_from_is_err_and c.from_residual-in_err-x-in-Or.result c.from_residual-in_err-x-in-Or.ensures.1 in rw p.1 tt

pub returns-in_err-x-in-Or-clause-variables : goal.returns-in_err-x-in-Or-clause-variables
returns-in_err-x-in-Or-clause-variables t c = let p = err_from_is_err_and c.from_residual-in_err-x-in-Or.result c.from_residual-in_err-x-in-Or.ensures.1 in rw p.1 tt

pub returns-in_err-y-in-And-clause-clauses : goal.returns-in_err-y-in-And-clause-clauses
returns-in_err-y-in-And-clause-clauses t c = let p = err_from_is_err_and c.from_residual-in_err-y-in-And.result c.from_residual-in_err-y-in-And.ensures.1 in rw p.1 tt

pub returns-in_err-y-in-And-clause-in_range : goal.returns-in_err-y-in-And-clause-in_range
returns-in_err-y-in-And-clause-in_range t c = let p = err_from_is_err_and c.from_residual-in_err-y-in-And.result c.from_residual-in_err-y-in-And.ensures.1 in rw p.1 tt

pub returns-in_err-y-in-And-clause-output : goal.returns-in_err-y-in-And-clause-output
returns-in_err-y-in-And-clause-output t c = let p = err_from_is_err_and c.from_residual-in_err-y-in-And.result c.from_residual-in_err-y-in-And.ensures.1 in rw p.1 tt

pub returns-in_err-y-in-And-clause-variables : goal.returns-in_err-y-in-And-clause-variables
returns-in_err-y-in-And-clause-variables t c = let p = err_from_is_err_and c.from_residual-in_err-y-in-And.result c.from_residual-in_err-y-in-And.ensures.1 in rw p.1 tt

pub returns-in_err-y-in-Implies-clause-clauses : goal.returns-in_err-y-in-Implies-clause-clauses
returns-in_err-y-in-Implies-clause-clauses t c = let p = err_from_is_err_and c.from_residual-in_err-y-in-Implies.result c.from_residual-in_err-y-in-Implies.ensures.1 in rw p.1 tt

pub returns-in_err-y-in-Implies-clause-in_range : goal.returns-in_err-y-in-Implies-clause-in_range
returns-in_err-y-in-Implies-clause-in_range t c = let p = err_from_is_err_and c.from_residual-in_err-y-in-Implies.result c.from_residual-in_err-y-in-Implies.ensures.1 in rw p.1 tt

pub returns-in_err-y-in-Implies-clause-output : goal.returns-in_err-y-in-Implies-clause-output
returns-in_err-y-in-Implies-clause-output t c = let p = err_from_is_err_and c.from_residual-in_err-y-in-Implies.result c.from_residual-in_err-y-in-Implies.ensures.1 in rw p.1 tt

pub returns-in_err-y-in-Implies-clause-variables : goal.returns-in_err-y-in-Implies-clause-variables
returns-in_err-y-in-Implies-clause-variables t c = let p = err_from_is_err_and c.from_residual-in_err-y-in-Implies.result c.from_residual-in_err-y-in-Implies.ensures.1 in rw p.1 tt

pub returns-in_err-y-in-Or-clause-clauses : goal.returns-in_err-y-in-Or-clause-clauses
returns-in_err-y-in-Or-clause-clauses t c = let p = err_from_is_err_and c.from_residual-in_err-y-in-Or.result c.from_residual-in_err-y-in-Or.ensures.1 in rw p.1 tt

pub returns-in_err-y-in-Or-clause-in_range : goal.returns-in_err-y-in-Or-clause-in_range
returns-in_err-y-in-Or-clause-in_range t c = let p = err_from_is_err_and c.from_residual-in_err-y-in-Or.result c.from_residual-in_err-y-in-Or.ensures.1 in rw p.1 tt

pub returns-in_err-y-in-Or-clause-output : goal.returns-in_err-y-in-Or-clause-output
returns-in_err-y-in-Or-clause-output t c = let p = err_from_is_err_and c.from_residual-in_err-y-in-Or.result c.from_residual-in_err-y-in-Or.ensures.1 in rw p.1 tt

pub returns-in_err-y-in-Or-clause-variables : goal.returns-in_err-y-in-Or-clause-variables
returns-in_err-y-in-Or-clause-variables t c = let p = err_from_is_err_and c.from_residual-in_err-y-in-Or.result c.from_residual-in_err-y-in-Or.ensures.1 in rw p.1 tt
