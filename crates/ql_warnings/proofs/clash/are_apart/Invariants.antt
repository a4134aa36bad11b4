use Rattle.std.specs.Prelude.{ℕ, ◌≡◌, ◌<◌, Some, slice_get, true}
use Rattle.ql_typing.specs.Operations.{op_kinds}
use Rattle.ql_warnings.specs.Clashes.{may_be}
use Rattle.ql_warnings.proofs.clash.are_apart.Given as goal

-- no type of the operations so far is possible for both
abbrev pub invariant-loop-o : goal.invariant-loop-o
invariant-loop-o l = (o kind : ℕ) → o < l.o → slice_get (op_kinds l.scene.program.now.program.types) o ≡ Some kind
    → may_be (op_kinds l.scene.program.now.program.types) l.scene.goal l.scene.vars.now l.first kind ≡ true → may_be (op_kinds l.scene.program.now.program.types) l.scene.goal l.scene.vars.now l.second kind ≡ true → ⊥
