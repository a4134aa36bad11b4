use Rattle.std.proofs.Common.{◌≡◌, ◌∷◌, ◌++◌, [], List, ℕ, cond, nat_eq, subst, ◌∙◌}
use Rattle.std.proofs.Math.ListN.{set}
use Rattle.ql_session.specs.Rows.{row_at, lists_of}
use Rattle.ql_session.proofs.RowLaws.{row-changed, row-kept, on_err}
use Rattle.ql_session.proofs.rows.Rows.push.Goals as goal

pub returns-in_err-push-clause-err : goal.returns-in_err-push-clause-err
returns-in_err-push-clause-err c =
    let same : (q : ℕ) → row_at (lists_of (set c.grow.new.rows.items c.args.k c.push.new.self)) q ≡ row_at (lists_of c.self.inside.rows.items) q =
    (λ q. row-kept c.grow.new.rows.items c.args.k q c.push.new.self c.index_mut-row.result.now c.in_ok-grow.ensures.there c.index_mut-row.ensures.value c.in_err-push.ensures.items
    ∙ c.grow.ensures.same q) in
    rw (← c.self.view_is) (on_err _ _ same)

pub returns-clause-ok : goal.returns-clause-ok
returns-clause-ok c = rw (← c.self.view_is) (λ q.
    subst (λ (list : List ℕ). row_at (lists_of (set c.grow.new.rows.items c.args.k c.push.new.self)) q ≡ cond (nat_eq c.args.k q) (list ++ c.args.n ∷ []) list) (c.grow.ensures.same q)
    (row-changed (λ list. list ++ c.args.n ∷ []) c.grow.new.rows.items c.args.k q c.push.new.self c.index_mut-row.result.now c.in_ok-grow.ensures.there c.index_mut-row.ensures.value c.in_ok-push.ensures.items))
