use Rattle.std.proofs.Common.{◌≡◌, ◌<◌, ◌≤◌, ℕ}
use Rattle.ql_replica.specs.Progress.{moved}
use Rattle.slab.specs.Slab.{HasRoomFor, get}
use Rattle.ql_replica.proofs.settling.move_watches.Given as goal

abbrev pub invariant-loop-key : goal.invariant-loop-key
invariant-loop-key l = record {
  done : (k : ℕ) → k < l.key → get l.waiting k ≡ moved l.pack l.missing (get l.initial.waiting k);
  rest : (k : ℕ) → l.key ≤ k → get l.waiting k ≡ get l.initial.waiting k;
  room : HasRoomFor l.initial.waiting 1 → HasRoomFor l.waiting 1;
}
