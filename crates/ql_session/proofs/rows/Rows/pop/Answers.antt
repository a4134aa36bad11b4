use Rattle.std.proofs.Common.{◌≡◌, ◌<◌, ℕ, ◌-◌, length, take, ◌∙◌, ap, arith}
use Rattle.ql_session.specs.Rows.{all_but_last}
use Rattle.ql_session.proofs.RowLaws.{row-changed}
use Rattle.ql_session.proofs.rows.Rows.pop.Goals as goal

pub returns-then-k-len : goal.returns-then-k-len
returns-then-k-len c = rw (← c.self.view_is) (λ q.
    let count = c.len.ensures in
    let was = c.index_mut-row.result.now in
    let inside : c.args.k < length c.self.inside.rows.items = omega (arith, count, c.self.inside.rows.ok.0) in
    let made : c.pop.new.self.items ≡ all_but_last was.items = c.pop.ensures.rest ∙ ap (λ (n : ℕ). take (n - 1) was.items) was.ok.0 in
    row-changed (λ list. all_but_last list) c.self.inside.rows.items c.args.k q c.pop.new.self was inside c.index_mut-row.ensures.value made)
