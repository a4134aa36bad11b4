use Rattle.std.proofs.Common.{◌≡◌, ◌≤◌, ◌+◌, ◌-◌, ◌++◌, length, drop}
use Rattle.ql_base.specs.IdLists.{union_of}
use Rattle.ql_base.proofs.id_set.merged.Given as goal

-- what was taken, and the union of what is left, are the whole union
abbrev pub invariant-loop-i : goal.invariant-loop-i
invariant-loop-i l = record {
  inside : l.i ≤ length l.xs;
  within : l.j ≤ length l.ys;
  union : l.both.items ++ union_of (drop l.i l.xs) (drop l.j l.ys) ≡ union_of l.xs l.ys;
}

abbrev pub decreases-loop-i : goal.decreases-loop-i
decreases-loop-i l = (length l.xs - l.i) + (length l.ys - l.j)
