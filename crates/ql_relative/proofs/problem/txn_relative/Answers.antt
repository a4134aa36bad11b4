use Rattle.std.proofs.Common.{length, ap, ◌∙◌}
use Rattle.std.proofs.lemmas.Option.{get_or_from_slice_get}
use Rattle.ql_lang.specs.Formulas.{resolved_of}
use Rattle.ql_levels.specs.declared.level.TxnLevel.TheVariants.{Rr}
use Rattle.ql_typing.specs.Operations.{uses_op}
use Rattle.ql_ground.proofs.Growth.{then}
use Rattle.ql_ground.proofs.Problems.{size}
use Rattle.ql_relative.specs.Relative.{kept, used}
use Rattle.ql_relative.proofs.Problems.{txn_list, txn_meets, txn_room, txn_sized}
use Rattle.ql_relative.proofs.problem.txn_relative.Goals as goal

pub add_kept-requires-clause-variables : goal.add_kept-requires-clause-variables
add_kept-requires-clause-variables c =
    txn_room c.args.t.now.program c.args.d c.txn.result (resolved_of c.txn_formula.result.now) (size (length c.items.result.now) c.ops.result) c.in_ok-c.c c.txn_formula.ensures.resolved
    (txn_sized c.args.t.now.program (resolved_of c.txn_formula.result.now) (length c.items.result.now) c.ops.result (ap length c.items.ensures) c.ops.ensures.count)
    c.in_ok-c.ensures.list

pub add_used-requires-clause-variables : goal.add_used-requires-clause-variables
add_used-requires-clause-variables c =
    rw c.in_ok-add_kept.ensures.variables
    (txn_room c.args.t.now.program c.args.d c.txn.result (resolved_of c.txn_formula.result.now) (size (length c.items.result.now) c.ops.result) c.in_ok-c.c c.txn_formula.ensures.resolved
    (txn_sized c.args.t.now.program (resolved_of c.txn_formula.result.now) (length c.items.result.now) c.ops.result (ap length c.items.ensures) c.ops.ensures.count)
    c.in_ok-c.ensures.list)

pub returns-clause-list : goal.returns-clause-list
returns-clause-list c =
    let s = size (length c.items.result.now) c.ops.result in
    txn_list c.args.t.now.program c.args.levels.now c.args.d c.txn.result (resolved_of c.txn_formula.result.now) s c.in_ok-c.c c.add_used.new.c c.txn_formula.ensures.resolved
    (txn_sized c.args.t.now.program (resolved_of c.txn_formula.result.now) (length c.items.result.now) c.ops.result (ap length c.items.ensures) c.ops.ensures.count)
    (get_or_from_slice_get c.args.levels.now.txns c.args.d.0 c.txn.result Rr c.txn.ensures)
    c.in_ok-c.ensures.list (c.in_ok-add_used.ensures.variables ∙ c.in_ok-add_kept.ensures.variables)
    (then c.in_ok-c.c.clauses c.add_kept.new.c.clauses c.add_used.new.c.clauses (kept c.args.levels.now s) (used (uses_op c.args.t.now.program c.args.d.0) s) c.in_ok-add_kept.ensures.clauses c.in_ok-add_used.ensures.clauses)

pub returns-clause-sound : goal.returns-clause-sound
returns-clause-sound c =
    txn_meets c.args.t.now.program c.args.levels.now c.args.d.0 (resolved_of c.txn_formula.result.now) c.add_used.new.c c.txn_formula.ensures.resolved c.txn_formula.ensures.well_formed (returns-clause-list c)
