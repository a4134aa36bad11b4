use Rattle.std.proofs.Common.{◌≡◌, ◌++◌, ◌∷◌, [], ℕ, Bool, Option, Some, sym, ap, subst, ◌∙◌}
use Rattle.std.specs.Prelude.{cond}
use Rattle.std.specs.HashMap.{get}
use Rattle.ql_formula.specs.Tables.{IsLastBefore, follows, group_of, same_group}
use Rattle.ql_formula.proofs.LastLaws.{last_with, same_group-follows}
use Rattle.ql_formula.proofs.lasts.Lasts.replace.Goals as goal

pub returns-clause-before : goal.returns-clause-before
returns-clause-before c = λ keys known.
    let closure = c.args.self.now.closure in
    let key = c.args.key in
    let was = c.in_ok-insert.ensures.old ∙ ap (λ group. get same_group c.args.self.now.indices group) c.group_of.ensures in
    subst (λ (o : Option ℕ). IsLastBefore closure keys key o) (sym was) (known key)

pub returns-clause-after : goal.returns-clause-after
returns-clause-after c = λ keys count known q.
    let closure = c.args.self.now.closure in
    let key = c.args.key in
    let before = get same_group c.args.self.now.indices (group_of closure q) in
    let same : same_group c.group_of.result (group_of closure q) ≡ follows closure key q =
    ap (λ group. same_group group (group_of closure q)) c.group_of.ensures ∙ same_group-follows closure key q in
    let now = c.in_ok-insert.ensures.updates.0 (group_of closure q)
    ∙ ap (λ (b : Bool). cond b (Some c.args.index) before) same ∙ ap (λ (n : ℕ). cond (follows closure key q) (Some n) before) (sym count) in
    subst (λ (o : Option ℕ). IsLastBefore closure (keys ++ key ∷ []) q o) (sym now) (last_with closure keys key q before (known q))
