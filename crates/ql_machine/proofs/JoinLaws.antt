-- A replica joins: what is kept where one has received committed effects in whole transactions, and each strong one with all
-- that it needs.
use Rattle.std.proofs.Common.{ℕ, zero, suc, ◌<◌, true, List, [], ◌∷◌, ◌++◌, length, inl, inr, arith, length-append}
use Rattle.std.proofs.lemmas.Bool.{false≢true}
use Rattle.ql_base.specs.IdLists.{IsAscending}
use Rattle.ql_base.specs.declared.ids.ReplicaId.{ReplicaId}
use Rattle.ql_exec.specs.declared.effect.Effect.{Effect}
use Rattle.ql_holder.specs.Closed.{Closed, Has}
use Rattle.ql_holder.proofs.ClosedLaws.{reached-along, reached-once}
use Rattle.ql_machine.specs.State.{Machine, NeedsNow, received_at, replicas}
use Rattle.ql_machine.specs.Rules.{Promises, Rules}
use Rattle.ql_machine.specs.Sets.{AreThose}
use Rattle.ql_machine.specs.Changes.{after_join}
use Rattle.ql_machine.specs.Steps.{IsUnderStrong}
use Rattle.ql_machine.specs.Kept.{AreDone, AreWholeTxns, IsStrong, Keeps}
use Rattle.ql_machine.proofs.StoredLaws.{spread-to}

-- ---- what each replica has received, where there is one more

-- what holds for each replica, and for the new one
joined-each : (holds : List ℕ → Type 0) (received : List (List ℕ)) (ids : List ℕ) → ((r : ℕ) → holds (received_at received r)) → holds ids → (r : ℕ) → holds (received_at (received ++ ids ∷ []) r)
joined-each holds [] ids each new zero = new
joined-each holds [] ids each new (suc r) = each r
joined-each holds (had ∷ received) ids each new zero = each zero
joined-each holds (had ∷ received) ids each new (suc r) = joined-each holds received ids (λ q. each (suc q)) new r

-- the same of replicas that there are
joined-within : (holds : List ℕ → Type 0) (received : List (List ℕ)) (ids : List ℕ) → ((r : ℕ) → r < length received → holds (received_at received r)) → holds ids
    → (r : ℕ) → r < length (received ++ ids ∷ []) → holds (received_at (received ++ ids ∷ []) r)
joined-within holds [] ids each new zero less = new
joined-within holds [] ids each new (suc r) less = absurd (omega (arith, less))
joined-within holds (had ∷ received) ids each new zero less = each zero (omega arith)
joined-within holds (had ∷ received) ids each new (suc r) less = joined-within holds received ids (λ q inside. each (suc q) (omega (arith, inside))) new r (omega (arith, less))

-- what a replica had it has
joined-kept : (received : List (List ℕ)) (ids : List ℕ) (r a : ℕ) → Has (received_at received r) a → Has (received_at (received ++ ids ∷ []) r) a
joined-kept [] ids r a has = absurd (false≢true has)
joined-kept (had ∷ received) ids zero a has = has
joined-kept (had ∷ received) ids (suc r) a has = joined-kept received ids r a has

-- ---- all that is kept

-- what a replica may join with
record IsJoining (promises : Promises) (s : Machine) (ids : List ℕ) : Type 0 where
  ascending : IsAscending ids
  done : AreDone s.effects s.open_txns ids
  whole : AreWholeTxns s.effects ids
  strong : (a : ℕ) (e : Effect) → IsStrong promises.level s.effects a e → Closed (NeedsNow s.effects s.open_txns) (Has ids) a

module _ (promises : Promises) (start : ℕ) (s : Machine) (keeps : Keeps promises start s) where
  keeps-join : (near : ReplicaId) (ids : List ℕ) → IsJoining promises s ids → Keeps promises start (after_join s near ids)
  keeps-join near ids joining =
      let long = length-append s.received (ids ∷ []) in
      let enough = keeps.replicas in record {
        replicas = omega (arith, long, enough);
        sound = keeps.sound;
        history = keeps.history;
        stored = record {
          held = joined-each (AreDone s.effects s.open_txns) s.received ids keeps.stored.held joining.done;
          carried = keeps.stored.carried;
          snapshot = keeps.stored.snapshot;
          snapshot_closed = keeps.stored.snapshot_closed;
        };
        strong = record {
          applied = λ a e is. joined-within (λ had. Closed (NeedsNow s.effects s.open_txns) (Has had) a) s.received ids (keeps.strong.applied a e is) (joining.strong a e is);
          snapshot = keeps.strong.snapshot;
          alone = keeps.strong.alone;
          sees = keeps.strong.sees;
          seen = keeps.strong.seen;
        };
        txns = keeps.txns;
        spread =
            spread-to s.effects s.effects s.open_txns s.open_txns s.received (s.received ++ ids ∷ []) s.messages s.messages start keeps.spread (joined-kept s.received ids) (λ r a sent. sent)
            (λ r a less done. inl done);
        whole = record {
          ascending = joined-each IsAscending s.received ids keeps.whole.ascending joining.ascending;
          held = joined-each (AreWholeTxns s.effects) s.received ids keeps.whole.held joining.whole;
          carried = keeps.whole.carried;
        };
      }

  -- a copy
  pub keeps-copy : (near : ReplicaId) → near.0 < replicas s → Keeps promises start (after_join s near (received_at s.received near.0))
  keeps-copy near less = keeps-join near (received_at s.received near.0) (record {
    ascending = keeps.whole.ascending near.0;
    done = keeps.stored.held near.0;
    whole = keeps.whole.held near.0;
    strong = λ a e is. keeps.strong.applied a e is near.0 less;
  })

-- A bare replica. Any replica has received all that it joins with.
pub keeps-bare : (rules : Rules) (start : ℕ) (s : Machine) → Keeps rules.promises start s → (near : ReplicaId) (ids : List ℕ) → near.0 < replicas s → AreThose (IsUnderStrong rules s) ids
    → Keeps rules.promises start (after_join s near ids)
keeps-bare rules start s keeps near ids less are = keeps-join rules.promises start s keeps near ids (record {
  ascending = are.ascending;
  done = done;
  whole = λ a b has same.
      let under = are.only a has in
      are.all b (under.0, under.1, reached-along (NeedsNow s.effects s.open_txns) under.0 a b under.2 (reached-once (NeedsNow s.effects s.open_txns) a b (inr (done a has, same))));
  strong = λ a e is b reached. are.all b (a, (e, is.0, is.1), reached);
})
  where
    done : AreDone s.effects s.open_txns ids
    done a has =
        let under = are.only a has in
        keeps.stored.held near.0 a (keeps.strong.applied under.0 under.1.0 (under.1.1, under.1.2) near.0 less a under.2)
