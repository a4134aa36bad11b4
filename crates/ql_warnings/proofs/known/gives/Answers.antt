use Rattle.std.proofs.Common.{sym, ◌∙◌}
use Rattle.ql_warnings.proofs.Scenes.{other_way, same_way}
use Rattle.ql_warnings.proofs.known.gives.Goals as goal

pub returns-then-is_same_way : goal.returns-then-is_same_way
returns-then-is_same_way c = λ is.
    let same = c.is_same_way.ensures c.if-is_same_way.true in
    same_way c.args.known c.args.wanted (sym c.is_within.ensures ∙ c.if-not-is_within.false) same.0 same.1

pub returns : goal.returns
returns c = λ is.
    let turned = c.is_turned.ensures is in
    other_way c.args.known c.args.wanted (sym c.is_within.ensures ∙ c.if-not-is_within.false) (sym c.is_symmetric.ensures ∙ c.if-not-is_symmetric.false) turned.0 turned.1
