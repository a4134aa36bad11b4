use Rattle.std.proofs.Common.{◌≡◌, false, List, ℕ, take}
use Rattle.ql_base.specs.IdLists.{has_id}
use Rattle.ql_exec.specs.declared.effect.Effect.{Effect}
use Rattle.ql_holder.specs.Closed.{Closed, Has}
use Rattle.ql_holder.specs.Needs.{Needs}
use Rattle.ql_shim.proofs.unapplied.first_unapplied.Given as goal

abbrev pub invariant-loop-a : goal.invariant-loop-a
invariant-loop-a g l =
    (x : List Effect) → g.H.Holder.fits l.holder x → (a : ℕ) → Has (take l.a-index l.saw) a → has_id l.own a ≡ false → Closed (Needs x) (Has (g.H.Holder.received l.holder)) a
