-- Sets of ids as ranges that aren't adjacent.
use Rattle.std.specs.Prelude.{ℕ, suc, ◌+◌, ◌-◌, ◌≤◌, List, [], ◌∷◌, ◌++◌}
use Rattle.std.specs.List.{range_with_len}
use Rattle.ql_ranges.specs.declared.ranges.IdRange.{IdRange}

-- the ids of a range
abbrev pub ids_in : IdRange → List ℕ
ids_in range = range_with_len range.from (suc range.to - range.from)

-- the ids of ranges, one range after the other
abbrev pub ids_of : List IdRange → List ℕ
ids_of [] = []
ids_of (range ∷ ranges) = ids_in range ++ ids_of ranges

-- the first range begins no lower than this
abbrev pub BeginAt : ℕ → List IdRange → Type 0
BeginAt least [] = Unit {0}
BeginAt least (range ∷ ranges) = least ≤ range.from

-- no range is empty, and each begins at least 2 above the end of the one before it
abbrev pub AreApart : List IdRange → Type 0
AreApart [] = Unit {0}
AreApart (range ∷ ranges) = (range.from ≤ range.to) × BeginAt (range.to + 2) ranges × AreApart ranges
