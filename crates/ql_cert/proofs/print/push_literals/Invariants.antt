use Rattle.std.proofs.Common.{◌≡◌, ◌++◌, map, take}
use Rattle.ql_lines.specs.Texts.{spaced_fields}
use Rattle.ql_cert.specs.Spelling.{lit_field}
use Rattle.ql_cert.proofs.print.push_literals.Given as goal

abbrev pub invariant-loop-literal : goal.invariant-loop-literal
invariant-loop-literal l = l.out.items ≡ l.initial.out.items ++ spaced_fields (map lit_field (take l.literal-index l.literals))
