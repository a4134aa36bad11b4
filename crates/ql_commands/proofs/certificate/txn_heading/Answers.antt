use Rattle.std.proofs.Common.{refl}
use Rattle.ql_commands.proofs.Headings.{txn_is_named, txn_level_is, txn_name_is}
use Rattle.ql_commands.proofs.certificate.txn_heading.Goals as goal

pub returns-clause-is_name : goal.returns-clause-is_name
returns-clause-is_name c = txn_is_named c.args.t.now.program c.args.d.0 c.txn.result.now c.requires.names c.txn.ensures

pub returns-clause-name : goal.returns-clause-name
returns-clause-name c = λ g at. txn_name_is c.args.t.now.program c.args.levels.now _ c.args.d.0 g c.txn-2.result c.txn.result.now refl at c.txn-2.ensures c.txn.ensures

pub returns-clause-level : goal.returns-clause-level
returns-clause-level c = λ g at. txn_level_is c.args.t.now.program c.args.levels.now _ c.args.d.0 g c.txn-2.result refl at c.txn-2.ensures
