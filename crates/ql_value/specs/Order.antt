use Rattle.std.specs.Ordering.{bool_cmp, int_cmp, nat_cmp, ordering_then}
use Rattle.std.specs.Cmp.Lexicographic.{slice_cmp}
use Rattle.std.specs.declared.cmp.Ordering.{Ordering}
use Rattle.std.specs.declared.cmp.Ordering.TheVariants.{Less, Greater}
use Rattle.ql_value.specs.declared.scalar.Scalar.{Scalar}
use Rattle.ql_value.specs.declared.scalar.Scalar.TheVariants.{Int, Bool as Truth, Text}

-- numbers before truth values before texts; texts by their bytes
abbrev pub scalar_cmp : Scalar → Scalar → Ordering
scalar_cmp (Int a) (Int b) = int_cmp a b
scalar_cmp (Int a) (Truth b) = Less
scalar_cmp (Int a) (Text b) = Less
scalar_cmp (Truth a) (Int b) = Greater
scalar_cmp (Truth a) (Truth b) = bool_cmp a b
scalar_cmp (Truth a) (Text b) = Less
scalar_cmp (Text a) (Int b) = Greater
scalar_cmp (Text a) (Truth b) = Greater
scalar_cmp (Text a) (Text b) = slice_cmp nat_cmp a b

-- entries of a map by key, then by value
abbrev pub entry_cmp : Scalar × Scalar → Scalar × Scalar → Ordering
entry_cmp a b = ordering_then (scalar_cmp a.0 b.0) (scalar_cmp a.1 b.1)

-- entries of a map by key alone
abbrev pub key_cmp : Scalar × Scalar → Scalar × Scalar → Ordering
key_cmp a b = scalar_cmp a.0 b.0
