use Rattle.ql_typing.proofs.Growing.{few_names}
use Rattle.ql_typing.proofs.build.build_formula.Goals as goal

pub build_body-requires : goal.build_body-requires
build_body-requires c = rw c.requires.vars (few_names c.args.contract.now.vars c.requires.few)
