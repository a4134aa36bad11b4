use Rattle.std.proofs.Common.{take, map}
use Rattle.std.specs.List.{All}
use Rattle.ql_classify.specs.Outcome.{Passes, UseIsWeak}
use Rattle.ql_classify.proofs.uses.check_uses.Given as goal

abbrev pub invariant-loop-name : goal.invariant-loop-name
invariant-loop-name l = All (Passes l.t.program) (map (λ n. UseIsWeak l.d.0 n.word) (take l.name-index l.name-items))
