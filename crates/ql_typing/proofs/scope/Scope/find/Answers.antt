use Rattle.std.proofs.Common.{◌∙◌}
use Rattle.ql_typing.proofs.KindsIn.{kind_left, kind_right}
use Rattle.ql_typing.proofs.scope.Scope.find.Goals as goal

pub returns-in-Some : goal.returns-in-Some
returns-in-Some c = rw (← c.self.view_is) (kind_left c.self.inside.fields.now c.self.inside.others c.args.word.now c.in-Some.kind c.in-Some.ensures)

pub returns-in-None : goal.returns-in-None
returns-in-None c = rw (← c.self.view_is) (c.find-in-None.ensures ∙ kind_right c.self.inside.fields.now c.self.inside.others c.args.word.now c.in-None.ensures)
