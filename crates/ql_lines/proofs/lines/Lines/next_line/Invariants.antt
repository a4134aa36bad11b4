use Rattle.std.proofs.Common.{◌≡◌, ◌+◌, ◌<◌, ◌^◌, length}
use Rattle.ql_lines.specs.Lines.{ahead_from}
use Rattle.ql_lines.proofs.lines.Lines.next_line.Given as goal

abbrev pub invariant-loop-text : goal.invariant-loop-text
invariant-loop-text l =
    (ahead_from l.self-inside.next l.self-inside.rest.now ≡ l.fn.self) × (l.self-inside.next + length l.self-inside.rest.now < 2 ^ 64)

abbrev pub decreases-loop-text : goal.decreases-loop-text
decreases-loop-text l = length l.self-inside.rest.now
