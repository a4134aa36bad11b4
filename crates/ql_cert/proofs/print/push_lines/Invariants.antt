use Rattle.std.proofs.Common.{◌≡◌, ◌+◌, ◌++◌, take}
use Rattle.ql_lines.specs.Texts.{file_text}
use Rattle.ql_cert.specs.Spelling.{numbered_lines}
use Rattle.ql_cert.proofs.print.push_lines.Given as goal

abbrev pub invariant-loop-line : goal.invariant-loop-line
invariant-loop-line l = (l.number ≡ l.line-index + 1) × (l.out.items ≡ l.initial.out.items ++ file_text (numbered_lines 1 (take l.line-index l.lines)))
