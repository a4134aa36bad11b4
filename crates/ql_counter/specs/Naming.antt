-- The named relations of constants, and those that an execution of blocks shows.
use Rattle.std.specs.Prelude.{ℕ, ◌≡◌, Bool, true, ◌&&◌}
use Rattle.ql_atoms.specs.declared.atoms.PairKind.TheVariants as kind
use Rattle.ql_lang.specs.declared.relation.RelName.{RelName}
use Rattle.ql_lang.specs.declared.relation.RelName.TheVariants.{Vis, So, Soo, SameObj, Eq, Hb, Hbo}
use Rattle.ql_counter.specs.declared.slot.Extra.{Extra}
use Rattle.ql_counter.specs.Patterns.{Pattern}

abbrev pub named_by : Pattern → RelName → ℕ → ℕ → Bool
named_by p Vis i j = p.rel kind.Vis i j
named_by p So i j = p.rel kind.So i j
named_by p Soo i j = p.rel kind.So i j && p.rel kind.SameObj i j
named_by p SameObj i j = p.rel kind.SameObj i j
named_by p Eq i j = p.rel kind.Eq i j
named_by p Hb i j = p.rel kind.Hb i j
named_by p Hbo i j = p.rel kind.Hbo i j

-- blocks have the parts that the chains of the relation need
abbrev pub Shows : Extra → RelName → Type 0
Shows extra Hb = extra.links ≡ true
Shows extra Hbo = extra.aides ≡ true
Shows extra _ = Unit {0}
