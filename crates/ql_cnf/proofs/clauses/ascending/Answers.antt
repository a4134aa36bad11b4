use Rattle.std.proofs.Common.{arith}
use Rattle.ql_cnf.proofs.Rest.{rest_none, rest_some, rest_done}
use Rattle.ql_cnf.proofs.Meaning.{stays_ascending}
use Rattle.ql_cnf.proofs.clauses.ascending.Goals as goal

pub returns-then-not-branch : goal.returns-then-not-branch
returns-then-not-branch c =
    rest_none c.args.lits.now c.loop-lit.items.items c.loop-lit.lit-index _ (omega arith) c.loop-lit.invariant.rest (rw c.if-not-branch.true at c.in_ok-insert.ensures)

pub loop-lit-preserved : goal.loop-lit-preserved
loop-lit-preserved c =
    let placed = rw c.if-not-branch.false at c.in_ok-insert.ensures in
    record {
      sorted = stays_ascending _ _ _ placed c.loop-lit.invariant.sorted;
      rest = rest_some c.args.lits.now c.loop-lit.items.items c.insert.new.items.items c.loop-lit.lit-index _ (omega arith) c.loop-lit.invariant.rest placed;
    }

pub returns : goal.returns
returns c = rest_done c.args.lits.now c.loop-lit.items.items c.of.result c.loop-lit.lit-index c.loop-lit-test.false c.loop-lit.invariant.rest c.of.ensures
