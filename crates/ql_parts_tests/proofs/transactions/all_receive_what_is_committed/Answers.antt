use Rattle.std.proofs.Common.{ℕ, zero, suc, ◌<◌, [], ◌∷◌, length, get_or, arith}
use Rattle.ql_replica.specs.contracts.replica.ReplicaHolder.TheImpl.{ghosts}
use Rattle.ql_parts_tests.proofs.transactions.all_receive_what_is_committed.Goals as goal

single : {A : Type 0} (P : A → Type 0) (h : A) → P h → (k : ℕ) (d : A) → k < length (h ∷ []) → P (get_or (h ∷ []) k d)
single P h is zero d inside = is
single P h is (suc k) d inside = absurd (omega (arith, inside))

pub sync-requires-clause-fit : goal.sync-requires-clause-fit
sync-requires-clause-fit g c =
    rw (c.deref.ensures.value, c.in_ok-push.ensures.items, c.new-holders.ensures.items) (single (λ h. ghosts.fits h c.in_ok-x.x) c.empty.result (c.empty.ensures.fits c.in_ok-x.x))
