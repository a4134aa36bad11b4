use Rattle.std.proofs.Common.{◌≡◌, length}
use Rattle.std.specs.List.{AllZip}
use Rattle.ql_classify.specs.Targets.{IsEvidence, ops_from}
use Rattle.ql_classify.proofs.judge.judge_ops.Given as goal

abbrev pub invariant-loop-o : goal.invariant-loop-o
invariant-loop-o l = (length l.levels.items ≡ l.o) × AllZip (IsEvidence l.t.program) (ops_from 0 l.levels.items) l.evidence.items
