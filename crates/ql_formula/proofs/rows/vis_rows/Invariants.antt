use Rattle.std.proofs.Common.{◌≡◌, length}
use Rattle.ql_exec.specs.Relations.{vis}
use Rattle.ql_formula.specs.Tables.{AreRows}
use Rattle.ql_formula.proofs.rows.vis_rows.Given as goal

abbrev pub invariant-loop-k : goal.invariant-loop-k
invariant-loop-k l = (length l.rows.items ≡ l.k) × AreRows (vis l.effects) l.rows.items
