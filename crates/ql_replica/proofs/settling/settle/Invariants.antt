use Rattle.std.proofs.Common.{◌≡◌, ◌<◌, ◌≤◌, ℕ, get_or}
use Rattle.ql_ranges.specs.Ranges.{ids_of}
use Rattle.ql_replica.specs.Progress.{settled}
use Rattle.slab.specs.Slab.{HasRoomFor, get}
use Rattle.ql_replica.proofs.settling.settle.Given as goal

abbrev pub invariant-loop-key : goal.invariant-loop-key
invariant-loop-key l = record {
  done : (k : ℕ) → k < l.key → get l.waiting k ≡ settled (ids_of l.applied) (get_or l.watches.items k 0) (get l.initial.waiting k);
  rest : (k : ℕ) → l.key ≤ k → get l.waiting k ≡ get l.initial.waiting k;
  room : HasRoomFor l.initial.waiting 1 → HasRoomFor l.waiting 1;
}
