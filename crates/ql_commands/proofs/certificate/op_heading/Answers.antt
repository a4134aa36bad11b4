use Rattle.ql_commands.proofs.Headings.{op_is_named, op_level_is, op_name_is}
use Rattle.ql_commands.proofs.certificate.op_heading.Goals as goal

pub returns-clause-is_name : goal.returns-clause-is_name
returns-clause-is_name c = op_is_named c.args.t.now.program c.args.o.0 c.op.result.now c.requires.names c.op.ensures

pub returns-clause-name : goal.returns-clause-name
returns-clause-name c = λ g at. op_name_is c.args.t.now.program c.args.levels.now c.args.o.0 g c.op-2.result c.op.result.now at c.op-2.ensures c.op.ensures

pub returns-clause-level : goal.returns-clause-level
returns-clause-level c = λ g at. op_level_is c.args.t.now.program c.args.levels.now c.args.o.0 g c.op-2.result at c.op-2.ensures
