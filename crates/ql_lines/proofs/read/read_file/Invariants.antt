use Rattle.std.proofs.Common.{◌≡◌, ◌++◌, List, length}
use Rattle.ql_lines.specs.Lines.{Numbered, ahead_from}
use Rattle.ql_lines.specs.Outcomes.{Leads}
use Rattle.ql_lines.proofs.read.read_file.Given as goal

abbrev pub invariant-loop-line : goal.invariant-loop-line
invariant-loop-line g l =
    (before : List Numbered) × ((ahead_from 1 l.bytes).lines ≡ before ++ l.lines.lines) × ((ahead_from 1 l.bytes).end ≡ l.lines.end)
    × Leads (g.F.LineFormat.gives l.format) (g.F.LineFormat.closes l.format) (g.F.LineFormat.start l.format) before l.state × g.F.LineFormat.sound l.format l.state (length l.lines.lines)

abbrev pub decreases-loop-line : goal.decreases-loop-line
decreases-loop-line g l = length l.lines.lines
