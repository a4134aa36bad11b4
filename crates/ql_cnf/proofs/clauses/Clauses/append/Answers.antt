use Rattle.std.proofs.lemmas.Result.{err_from_is_err_and}
use Rattle.std.proofs.Common.{◌≡◌, arith, length, sym, ◌∙◌, length-append, ◌<◌, ◌+◌, ◌^◌}
use Rattle.ql_cnf.proofs.Truth.{added_in_range}
use Rattle.ql_cnf.proofs.clauses.Clauses.append.Goals as goal

pub invariant_of-self-in-Some : goal.invariant_of-self-in-Some
invariant_of-self-in-Some c =
    let is_clause = sym c.in-Some.is ∙ c.in_ok-clause.ensures in
    let lits_in_range = rw (← c.self.view_is) at c.requires.in_range in
    let count : c.len.result ≡ length c.self.inside.clauses.items = rw (← c.self.view_is) at c.len.ensures.value in
    let room : length c.self.inside.clauses.items + 1 < 2 ^ 32 = omega (arith, count, c.if-len.false, c.self.invariant.numbered) in
    rw c.in_ok-push-in-Some.ensures.items (record {
      in_range = added_in_range c.self.inside.variables c.self.inside.clauses.items c.args.lits.now c.in-Some.clause is_clause lits_in_range c.self.invariant.in_range;
      numbered = rw length-append (omega arith);
      counted = c.self.invariant.counted;
    })

pub returns-in_err-clause-clause-added : goal.returns-in_err-clause-clause-added
returns-in_err-clause-clause-added c = let p = err_from_is_err_and c.from_residual.result c.from_residual.ensures.1 in rw p.1 tt

pub returns-in_err-clause-clause-new : goal.returns-in_err-clause-clause-new
returns-in_err-clause-clause-new c = let p = err_from_is_err_and c.from_residual.result c.from_residual.ensures.1 in rw p.1 tt

pub returns-in_err-push-in-Some-clause-added : goal.returns-in_err-push-in-Some-clause-added
returns-in_err-push-in-Some-clause-added c = let p = err_from_is_err_and c.from_residual-in_err-push-in-Some.result c.from_residual-in_err-push-in-Some.ensures.1 in rw p.1 tt

pub returns-in_err-push-in-Some-clause-new : goal.returns-in_err-push-in-Some-clause-new
returns-in_err-push-in-Some-clause-new c = let p = err_from_is_err_and c.from_residual-in_err-push-in-Some.result c.from_residual-in_err-push-in-Some.ensures.1 in rw p.1 tt
