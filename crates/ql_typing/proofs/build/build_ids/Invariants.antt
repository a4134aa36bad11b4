use Rattle.std.proofs.Common.{◌≡◌, [], drop}
use Rattle.ql_typing.specs.Resolved.{with_numbers}
use Rattle.ql_typing.proofs.build.build_ids.Given as goal

abbrev pub invariant-loop-name : goal.invariant-loop-name
invariant-loop-name l = with_numbers l.ops l.ids (drop l.name-index l.names) ≡ with_numbers l.ops [] l.names
