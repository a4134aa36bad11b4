use Rattle.std.proofs.Common.{List, ℕ, ap, ◌∙◌}
use Rattle.ql_base.specs.IdLists.{has_id}
use Rattle.ql_holder.proofs.IdSets.{has_id-with}
use Rattle.ql_plain_holder.proofs.closing.insert_id.Goals as goal

pub returns : goal.returns
returns c = λ a. ap (λ (l : List ℕ). has_id l a) c.in_ok-insert.ensures.added ∙ has_id-with c.args.ids.now c.args.id a
