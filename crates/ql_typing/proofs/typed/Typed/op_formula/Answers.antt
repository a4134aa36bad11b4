use Rattle.std.proofs.Common.{arith}
use Rattle.std.proofs.lemmas.List.{length-map}
use Rattle.ql_lang.specs.Formulas.{resolved_of}
use Rattle.ql_typing.specs.Operations.{all_ops, op_contract, op_contracts, op_words}
use Rattle.ql_typing.proofs.Parts.{none_indeed}
use Rattle.ql_typing.proofs.FaultFree.{op_well_formed}
use Rattle.ql_typing.proofs.ResolvedSet.{formula_at}
use Rattle.ql_typing.proofs.typed.Typed.op_formula.Goals as goal

pub returns-clause-resolved : goal.returns-clause-resolved
returns-clause-resolved c =
    formula_at c.args.self.now.op_formulas.items (op_contracts c.args.self.now.program.types) c.args.o.0 c.index.result.now c.args.self.now.of_ops
    (omega (arith, c.requires, length-map (all_ops c.args.self.now.program.types) (op_contract (op_words c.args.self.now.program.types)))) c.index.ensures

pub returns-clause-well_formed : goal.returns-clause-well_formed
returns-clause-well_formed c =
    op_well_formed c.args.self.now.program (none_indeed _ c.args.self.now.well_typed) c.args.o.0 (resolved_of c.index.result.now)
    (formula_at c.args.self.now.op_formulas.items (op_contracts c.args.self.now.program.types) c.args.o.0 c.index.result.now c.args.self.now.of_ops
    (omega (arith, c.requires, length-map (all_ops c.args.self.now.program.types) (op_contract (op_words c.args.self.now.program.types)))) c.index.ensures)
