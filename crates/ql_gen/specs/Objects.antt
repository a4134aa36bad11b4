-- The objects of a generated schedule: two of each type, `o0_0` and `o0_1` of the first one.
use Rattle.std.specs.Prelude.{ℕ, zero, suc, ◌*◌, List, [], ◌∷◌, ◌++◌, codes, decimal}
use Rattle.ql_base.specs.declared.ids.TypeId.{TypeId}

abbrev pub drawn_object_name : ℕ → ℕ → List ℕ
drawn_object_name i k = codes "o" ++ decimal i ++ codes "_" ++ decimal k

-- the names of the objects of the first types
unfoldable pub drawn_object_names : ℕ → List (List ℕ)
drawn_object_names zero = []
drawn_object_names (suc i) = drawn_object_names i ++ drawn_object_name i 0 ∷ drawn_object_name i 1 ∷ []

-- their types
unfoldable pub object_kinds : ℕ → List TypeId
object_kinds zero = []
object_kinds (suc i) = object_kinds i ++ record { 0 = i } ∷ record { 0 = i } ∷ []

-- the first object of each of the first types
unfoldable pub first_objects : ℕ → List ℕ
first_objects zero = []
first_objects (suc i) = first_objects i ++ 2 * i ∷ []
