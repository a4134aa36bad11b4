use Rattle.std.proofs.Common.{◌≡◌, ◌+◌, ◌≤◌, length, []}
use Rattle.std.specs.Vec.Iter.{into_iter_items, into_iter_len}
use Rattle.ql_exec.specs.Execution.{made_after}
use Rattle.ql_exec.proofs.execution.Execution.from_effects.Given as goal

abbrev pub invariant-loop-draft : goal.invariant-loop-draft
invariant-loop-draft l =
    (goal.iterator-loop-draft).can_next l.draft-iterator × (goal.iterator-loop-draft).is_finite l.draft-iterator
    × (made_after [] l.fn.drafts.items ≡ made_after l.execution (into_iter_items l.draft-iterator))
    × (length l.execution + length (into_iter_items l.draft-iterator) ≤ length l.fn.drafts.items)
    × (into_iter_len l.draft-iterator ≡ length (into_iter_items l.draft-iterator))
