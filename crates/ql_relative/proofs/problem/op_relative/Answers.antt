use Rattle.std.proofs.Common.{◌+◌, length, arith, ap}
use Rattle.std.proofs.lemmas.Option.{get_or_from_slice_get}
use Rattle.ql_lang.specs.Formulas.{resolved_of}
use Rattle.ql_levels.specs.declared.level.Level.TheVariants.{Strong}
use Rattle.ql_ground.proofs.Problems.{size}
use Rattle.ql_relative.proofs.Problems.{op_list, op_meets, op_room, op_sized}
use Rattle.ql_relative.proofs.problem.op_relative.Goals as goal

pub add_kept-requires-clause-variables : goal.add_kept-requires-clause-variables
add_kept-requires-clause-variables c =
    op_room c.args.t.now.program c.args.o c.op.result (resolved_of c.op_formula.result.now) (size (length c.items.result.now + 1) c.ops.result) c.in_ok-c.c c.op_formula.ensures.resolved
    (op_sized c.args.t.now.program (resolved_of c.op_formula.result.now) (length c.items.result.now + 1) c.ops.result (omega (arith, ap length c.items.ensures)) c.ops.ensures.count)
    c.in_ok-c.ensures.list

pub returns-clause-list : goal.returns-clause-list
returns-clause-list c =
    op_list c.args.t.now.program c.args.levels.now c.args.o c.op.result (resolved_of c.op_formula.result.now) (size (length c.items.result.now + 1) c.ops.result) c.in_ok-c.c c.add_kept.new.c c.op_formula.ensures.resolved
    (op_sized c.args.t.now.program (resolved_of c.op_formula.result.now) (length c.items.result.now + 1) c.ops.result (omega (arith, ap length c.items.ensures)) c.ops.ensures.count)
    (get_or_from_slice_get c.args.levels.now.ops c.args.o.0 c.op.result Strong c.op.ensures)
    c.in_ok-c.ensures.list c.in_ok-add_kept.ensures.variables c.in_ok-add_kept.ensures.clauses

pub returns-clause-sound : goal.returns-clause-sound
returns-clause-sound c =
    op_meets c.args.t.now.program c.args.levels.now c.args.o.0 (resolved_of c.op_formula.result.now) c.add_kept.new.c c.op_formula.ensures.resolved c.op_formula.ensures.well_formed (returns-clause-list c)
