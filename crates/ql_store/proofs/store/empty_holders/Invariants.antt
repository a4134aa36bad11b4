use Rattle.std.proofs.Common.{◌≡◌, [], List, map, replicate, All}
use Rattle.ql_exec.specs.declared.effect.Effect.{Effect}
use Rattle.ql_store.proofs.store.empty_holders.Given as goal

abbrev pub invariant-loop-r : goal.invariant-loop-r
invariant-loop-r g l = (map g.H.Holder.received l.holders.items ≡ replicate l._r []) × ((x : List Effect) → All (λ h. g.H.Holder.fits h x) l.holders.items)
