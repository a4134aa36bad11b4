use Rattle.std.proofs.Common.{◌≡◌, ◌++◌, map, take}
use Rattle.ql_lines.specs.Texts.{spaced_fields}
use Rattle.ql_cert.specs.Spelling.{hint_field}
use Rattle.ql_cert.proofs.print.push_hints.Given as goal

abbrev pub invariant-loop-hint : goal.invariant-loop-hint
invariant-loop-hint l = l.out.items ≡ l.initial.out.items ++ spaced_fields (map hint_field (take l.hint-index l.hints))
