-- what is known of lines that break no rule
use Rattle.std.proofs.Common.{◌≡◌, Bool, true, false, None, refl}
use Rattle.std.specs.Prelude.{◌||◌}
use Rattle.ql_schedule.specs.declared.rules.Faults.{Faults}
use Rattle.ql_schedule.specs.Rules.{lowest}

pub record IsClean (f : Faults) : Type 0 where
  pub unknown : f.unknown ≡ false
  pub kind : f.kind ≡ false
  pub range : f.range ≡ false
  pub too_many : f.too_many ≡ false
  pub twice : f.twice ≡ false

clean_of : (u k r m t : Bool) → lowest (record { unknown = u; kind = k; range = r; too_many = m; twice = t }) ≡ None → IsClean (record { unknown = u; kind = k; range = r; too_many = m; twice = t })
clean_of true k r m t e = absurd cc
clean_of false true r m t e = absurd cc
clean_of false false true m t e = absurd cc
clean_of false false false true t e = absurd cc
clean_of false false false false true e = absurd cc
clean_of false false false false false e = record { unknown = refl; kind = refl; range = refl; too_many = refl; twice = refl }

pub clean : (f : Faults) → lowest f ≡ None → IsClean f
clean f e = clean_of f.unknown f.kind f.range f.too_many f.twice e

pub either : (a b : Bool) → (a || b) ≡ false → (a ≡ false) × (b ≡ false)
either true b e = absurd cc
either false b e = (refl, e)
