use Rattle.std.proofs.Common.{◌≡◌, length}
use Rattle.std.specs.List.{All, AllZip}
use Rattle.ql_base.specs.Ranges.{upto}
use Rattle.ql_classify.specs.Outcome.{Passes, txn_tests}
use Rattle.ql_classify.specs.Targets.{IsEvidence, txns_from}
use Rattle.ql_classify.proofs.judge.judge_txns.Given as goal

abbrev pub invariant-loop-d : goal.invariant-loop-d
invariant-loop-d l =
    (length l.levels.items ≡ l.d) × AllZip (IsEvidence l.t.program) (txns_from 0 l.levels.items) l.evidence.items
    × All (Passes l.t.program) (upto l.d (txn_tests l.t.program))
