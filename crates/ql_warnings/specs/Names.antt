-- Which relations hold wherever others do.
use Rattle.std.specs.Prelude.{Bool, true, false}
use Rattle.ql_lang.specs.declared.relation.RelName.{RelName}
use Rattle.ql_lang.specs.declared.relation.RelName.TheVariants.{Vis, So, Soo, SameObj, Eq, Hb, Hbo}

-- wherever the first holds, the second does
abbrev pub is_within : RelName → RelName → Bool
is_within Vis Vis = true
is_within Vis SameObj = true
is_within Vis Hb = true
is_within Vis Hbo = true
is_within Vis So = false
is_within Vis Soo = false
is_within Vis Eq = false
is_within So So = true
is_within So Hb = true
is_within So Vis = false
is_within So Soo = false
is_within So SameObj = false
is_within So Eq = false
is_within So Hbo = false
is_within Soo So = true
is_within Soo Soo = true
is_within Soo SameObj = true
is_within Soo Hb = true
is_within Soo Hbo = true
is_within Soo Vis = false
is_within Soo Eq = false
is_within SameObj SameObj = true
is_within SameObj Vis = false
is_within SameObj So = false
is_within SameObj Soo = false
is_within SameObj Eq = false
is_within SameObj Hb = false
is_within SameObj Hbo = false
is_within Eq Eq = true
is_within Eq Vis = false
is_within Eq So = false
is_within Eq Soo = false
is_within Eq SameObj = false
is_within Eq Hb = false
is_within Eq Hbo = false
is_within Hb Hb = true
is_within Hb Vis = false
is_within Hb So = false
is_within Hb Soo = false
is_within Hb SameObj = false
is_within Hb Eq = false
is_within Hb Hbo = false
is_within Hbo SameObj = true
is_within Hbo Hb = true
is_within Hbo Hbo = true
is_within Hbo Vis = false
is_within Hbo So = false
is_within Hbo Soo = false
is_within Hbo Eq = false

-- the first effect is earlier than the second
abbrev pub is_order : RelName → Bool
is_order Vis = true
is_order So = true
is_order Soo = true
is_order SameObj = false
is_order Eq = false
is_order Hb = true
is_order Hbo = true

-- both effects are on one object, which has a type
abbrev pub is_on_object : RelName → Bool
is_on_object Vis = true
is_on_object So = false
is_on_object Soo = true
is_on_object SameObj = true
is_on_object Eq = false
is_on_object Hb = false
is_on_object Hbo = true

-- it holds in both directions or in neither
abbrev pub is_symmetric : RelName → Bool
is_symmetric Vis = false
is_symmetric So = false
is_symmetric Soo = false
is_symmetric SameObj = true
is_symmetric Eq = true
is_symmetric Hb = false
is_symmetric Hbo = false
