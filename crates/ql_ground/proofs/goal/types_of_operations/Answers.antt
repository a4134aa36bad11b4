use Rattle.std.proofs.Common.{arith, ◌∙◌}
use Rattle.std.proofs.lemmas.List.{take_all}
use Rattle.ql_typing.specs.Operations.{op_kinds}
use Rattle.ql_typing.proofs.Flat.{length-kinds}
use Rattle.ql_ground.proofs.Typing.{types_more, count_types}
use Rattle.ql_ground.proofs.goal.types_of_operations.Goals as goal

pub loop-o-preserved : goal.loop-o-preserved
loop-o-preserved c = types_more (op_kinds c.args.t.now.program.types) c.loop-o.types.items c.push.new.self.items c.loop-o.o c.kind_of.result.0 c.kind_of.ensures.kind c.loop-o.invariant c.in_ok-push.ensures.items

pub returns-clause-types : goal.returns-clause-types
returns-clause-types c = c.loop-o.invariant ∙ take_all c.loop-o.o (op_kinds c.args.t.now.program.types) (omega (arith, length-kinds 0 c.args.t.now.program.types, c.ops-count.ensures.count))

pub returns-clause-few : goal.returns-clause-few
returns-clause-few c = omega (arith, count_types c.args.t.now.program.types c.loop-o.types.items (returns-clause-types c), c.ops-count.ensures.count, c.ops-count.ensures.few)
