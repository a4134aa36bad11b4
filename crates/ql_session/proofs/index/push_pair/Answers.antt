use Rattle.std.proofs.Common.{◌∷◌, ◌++◌, [], None, Some, ◌∙◌, ap, subst, refl, IsSome}
use Rattle.indexmap.specs.IndexMap.{Updates}
use Rattle.ql_session.specs.Index.{same_pair}
use Rattle.ql_session.proofs.PairLaws.{pair-changed, pair-kept}
use Rattle.ql_session.proofs.RowLaws.{on_err}
use Rattle.ql_session.proofs.index.push_pair.Goals as goal

pub returns-in_err-push-clause-err : goal.returns-in_err-push-clause-err
returns-in_err-push-clause-err c =
    on_err _ _ (pair-kept c.args.pairs.now (c.get_mut.follows.lender c.push.new.self) c.args.note (Some c.in-Some.row.now) c.push.new.self
    c.in-Some.ensures.value ((c.get_mut.follows.holds c.push.new.self).3 (subst IsSome c.in-Some.ensures.value refl)) c.in_err-push.ensures.items)

pub returns-in-Some-clause-ok : goal.returns-in-Some-clause-ok
returns-in-Some-clause-ok c =
    pair-changed (λ list. list ++ c.args.note.effect.0 ∷ []) c.args.pairs.now (c.get_mut.follows.lender c.push.new.self) c.args.note (Some c.in-Some.row.now) c.push.new.self
    c.in-Some.ensures.value ((c.get_mut.follows.holds c.push.new.self).3 (subst IsSome c.in-Some.ensures.value refl)) c.in_ok-push.ensures.items

pub returns-clause-ok : goal.returns-clause-ok
returns-clause-ok c =
    pair-changed (λ list. list ++ c.args.note.effect.0 ∷ []) c.args.pairs.now c.insert.new.self c.args.note None c.push-2.new.self
    c.in_default.ensures.value (subst (λ before. Updates same_pair before c.insert.new.self (c.args.note.session.0, c.args.note.object.0) (Some c.push-2.new.self)) c.get_mut.follows.holds-at-none c.in_ok-insert.ensures.updates) (c.in_ok-push-2.ensures.items ∙ ap (λ ids. ids ++ c.args.note.effect.0 ∷ []) c.new-row.ensures.items)
