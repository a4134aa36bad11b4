use Rattle.std.specs.Prelude.{ℕ}
use Rattle.std.specs.Ordering.{bool_cmp, int_cmp, nat_cmp}
use Rattle.std.specs.Cmp.Lexicographic.{slice_cmp}
use Rattle.std.specs.declared.cmp.Ordering.{Ordering}
use Rattle.std.specs.declared.cmp.Ordering.TheVariants.{Equal}
use Rattle.ql_value.specs.declared.value.Value.{Value}
use Rattle.ql_value.specs.declared.value.Value.TheVariants.{Unit, Int, Bool, Text, Set, Map}
use Rattle.ql_value.specs.Order.{entry_cmp, scalar_cmp}

-- the rank of a kind of value in the order
abbrev pub kind_rank : Value → ℕ
kind_rank Unit = 0
kind_rank (Int a) = 1
kind_rank (Bool a) = 2
kind_rank (Text a) = 3
kind_rank (Set a) = 4
kind_rank (Map a) = 5

-- unit, numbers, truth values, texts, sets, maps, in this order; sets and maps entry by entry
abbrev pub value_cmp : Value → Value → Ordering
value_cmp Unit Unit = Equal
value_cmp (Int a) (Int b) = int_cmp a b
value_cmp (Bool a) (Bool b) = bool_cmp a b
value_cmp (Text a) (Text b) = slice_cmp nat_cmp a b
value_cmp (Set a) (Set b) = slice_cmp scalar_cmp a b
value_cmp (Map a) (Map b) = slice_cmp entry_cmp a b
value_cmp a b = nat_cmp (kind_rank a) (kind_rank b)
