use Rattle.std.proofs.Common.{◌≡◌, List, take}
use Rattle.std.specs.Vec.{vec_len}
use Rattle.ql_cnf.specs.Satisfaction.{ClauseList}
use Rattle.ql_refute.specs.declared.refutation.Line.{Line}
use Rattle.ql_sat.specs.Trail.{IsSearching}
use Rattle.ql_sat.proofs.trail.go_back.Given as goal

abbrev pub invariant-loop-trail : goal.invariant-loop-trail
invariant-loop-trail l = record {
  searching : (c : ClauseList) (lines : List Line) → IsSearching c lines l.fn.trail.steps.items l.fn.trail.marks.items → IsSearching c lines l.trail.steps.items l.trail.marks.items;
  front : take l.to l.trail.steps.items ≡ take l.to l.fn.trail.steps.items;
}

abbrev pub decreases-loop-trail : goal.decreases-loop-trail
decreases-loop-trail l = vec_len l.trail.steps
