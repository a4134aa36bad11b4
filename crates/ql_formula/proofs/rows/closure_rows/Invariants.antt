use Rattle.std.proofs.Common.{◌≡◌, length, take}
use Rattle.ql_exec.specs.Relations.{leads}
use Rattle.ql_formula.specs.Tables.{AreRows, HasLasts, step_of}
use Rattle.ql_formula.proofs.rows.closure_rows.Given as goal

abbrev pub invariant-loop-k : goal.invariant-loop-k
invariant-loop-k l =
    (length l.rows.items ≡ l._k)
    × (l.lasts.closure ≡ l.fn.closure)
    × HasLasts l.lasts (take l._k l.keys)
    × AreRows (leads (step_of l.fn.closure l.effects)) l.rows.items
