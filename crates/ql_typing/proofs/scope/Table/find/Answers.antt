use Rattle.std.proofs.Common.{◌∙◌, ap}
use Rattle.indexmap.specs.IndexMap.{get_by}
use Rattle.ql_typing.proofs.WordEq.{word_eq}
use Rattle.ql_typing.proofs.scope.Table.find.Goals as goal

pub returns : goal.returns
returns c =
    rw (← c.self.view_is) (c.copied.ensures ∙ c.get.ensures.value
    ∙ ap (λ eq. get_by (eq c.args.word.now) c.self.inside.kinds) word_eq ∙ c.self.invariant c.args.word.now)
