use Rattle.ql_lang.specs.declared.operation.OpDecl.{OpDecl}
use Rattle.ql_typing.specs.Operations.{all_ops}
use Rattle.ql_warnings.specs.Kept.{IsLeastBetween}
use Rattle.ql_warnings.proofs.Following.{IsAmong}
use Rattle.ql_warnings.proofs.next.next_op.Given as goal

abbrev pub invariant-loop-o : goal.invariant-loop-o
invariant-loop-o l = IsLeastBetween (IsAmong (λ (d : OpDecl). d.name.at) (all_ops l.t.program.types) l.o) l.at l.end l.next
