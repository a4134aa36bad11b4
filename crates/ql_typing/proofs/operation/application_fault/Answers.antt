use Rattle.std.proofs.Common.{refl}
use Rattle.ql_typing.proofs.Mapped.{map-twice}
use Rattle.ql_typing.proofs.operation.application_fault.Goals as goal

pub returns : goal.returns
returns c =
    simp (c.first.ensures, c.above_limit.ensures, c.stmts_fault-applied.ensures, c.over-scope.ensures, c.in_ok-binds.ensures, c.items-stmts.ensures, c.items.ensures, map-twice) refl
