use Rattle.std.proofs.Common.{arith, ap, length}
use Rattle.std.proofs.lemmas.List.{length-map}
use Rattle.ql_typing.specs.Operations.{all_ops}
use Rattle.ql_typing.proofs.Parts.{none_indeed}
use Rattle.ql_typing.proofs.FaultFree.{few_ops}
use Rattle.ql_typing.proofs.typed.Typed.ops.Goals as goal

pub returns-clause-few : goal.returns-clause-few
returns-clause-few c =
    omega (arith, few_ops c.args.self.now.program (none_indeed _ c.args.self.now.well_typed), c.len.ensures.count, ap length c.args.self.now.named, length-map (all_ops c.args.self.now.program.types) (λ o. o.name.word))
