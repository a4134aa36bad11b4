use Rattle.std.specs.Prelude.{List, []}
use Rattle.ql_value.specs.declared.scalar.Scalar.{Scalar}
use Rattle.ql_value.specs.declared.scalar.Scalar.TheVariants.{Int, Bool as Truth, Text}
use Rattle.ql_value.specs.declared.value.Value.{Value}
use Rattle.ql_value.specs.declared.value.Value.TheVariants.{Int as Number, Bool as TruthValue, Text as TextValue, Set, Map}
use Rattle.ql_value.specs.Collections.{keys}

-- the elements of a set, or the keys of a map
abbrev pub elements_of : Value → List Scalar
elements_of (Set s) = s
elements_of (Map m) = keys m
elements_of other = []

-- a scalar as a value
abbrev pub value_of_scalar : Scalar → Value
value_of_scalar (Int n) = Number n
value_of_scalar (Truth b) = TruthValue b
value_of_scalar (Text t) = TextValue t
