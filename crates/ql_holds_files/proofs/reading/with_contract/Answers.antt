use Rattle.std.proofs.Common.{[], arith}
use Rattle.ql_lang.specs.Formulas.{resolved_of}
use Rattle.ql_lang.specs.Trees.{sentence_of}
use Rattle.ql_typing.proofs.Growing.{ops_few}
use Rattle.ql_holds_files.proofs.Lines.{contract_read}
use Rattle.ql_holds_files.proofs.reading.with_contract.Goals as goal

pub returns-in-Ok : goal.returns-in-Ok
returns-in-Ok c =
    contract_read (sentence_of c.args.contract.now) c.in-Ok.ensures.typed c.new-ops.result c.resolve.new.ops c.new-ops.ensures c.in-Ok.ensures.numbered
    (resolved_of c.in-Ok.formula) c.items.result.now c.in_ok-names.names.items c.new.result c.new-in-Ok.result c.of.result
    c.in-Ok.ensures.formula c.items.ensures c.in_ok-names.ensures c.new.ensures c.new-in-Ok.ensures c.of.ensures

pub resolve-requires : goal.resolve-requires
resolve-requires c = rw c.new-ops.ensures (omega (arith, ops_few [] c.args.contract.now.vars, c.requires))
