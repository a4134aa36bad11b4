use Rattle.std.proofs.Common.{ap, ◌∙◌}
use Rattle.ql_judging.specs.Members.{first_name}
use Rattle.ql_judging.proofs.Begun.{is_declared, is_found}
use Rattle.ql_judging.proofs.member.declared_of.Goals as goal

pub unwrap-requires : goal.unwrap-requires
unwrap-requires c = is_found c.args.x.now c.effects.ensures.execution c.args.run.0 c.first_name.result (c.first_name.ensures ∙ ap (first_name c.args.run.0) c.effects.ensures.same) c.requires

pub returns : goal.returns
returns c =
    is_declared c.args.x.now c.effects.ensures.execution c.args.run.0 c.first_name.result c.unwrap.result
    (c.first_name.ensures ∙ ap (first_name c.args.run.0) c.effects.ensures.same) c.unwrap.ensures
