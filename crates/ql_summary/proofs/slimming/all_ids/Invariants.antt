use Rattle.std.proofs.Common.{◌≡◌, ℕ, take}
use Rattle.ql_base.specs.IdLists.{has_id}
use Rattle.ql_summary.specs.Keeping.{is_kept}
use Rattle.ql_summary.proofs.slimming.all_ids.Given as goal

abbrev pub invariant-loop-one : goal.invariant-loop-one
invariant-loop-one l = (a : ℕ) → has_id l.ids a ≡ is_kept (take l.one-index l.one-items) a
