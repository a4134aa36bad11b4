use Rattle.std.proofs.Common.{◌≡◌, ◌++◌, length, map}
use Rattle.std.specs.List.{AllByRecursion}
use Rattle.ql_lines.specs.Fields.{fields_of}
use Rattle.ql_cert.specs.Spelling.{IsHint, hint_field}
use Rattle.ql_cert.proofs.line.hints.Given as goal

abbrev pub invariant-loop-field : goal.invariant-loop-field
invariant-loop-field l = (fields_of l.text ≡ map hint_field l.hints.items ++ fields_of l.rest) × AllByRecursion IsHint l.hints.items

abbrev pub decreases-loop-field : goal.decreases-loop-field
decreases-loop-field l = length (fields_of l.rest)
