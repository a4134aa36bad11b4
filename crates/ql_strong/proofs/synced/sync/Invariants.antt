use Rattle.std.proofs.Common.{◌≡◌, All, map, replicate}
use Rattle.ql_strong.proofs.synced.sync.Given as goal

abbrev pub invariant-loop-holder : goal.invariant-loop-holder
invariant-loop-holder g l =
    All (λ h. g.H.Holder.fits h l.x) l.synced.items × (map g.H.Holder.received l.synced.items ≡ replicate l.holder-index l.committed)
