use Rattle.std.proofs.Common.{◌≤◌, length, sym, ◌∙◌, arith}
use Rattle.std.proofs.lemmas.List.{take-append-le}
use Rattle.ql_sat.proofs.Searching.{searching_pop}
use Rattle.ql_sat.proofs.trail.go_back.Goals as goal

pub loop-trail-preserved-in-Some : goal.loop-trail-preserved-in-Some
loop-trail-preserved-in-Some c =
    let parts = rw c.in-Some.ensures.items at c.loop-trail.invariant in
    let enough : c.args.to ≤ length c.pop.new.self.items = omega (arith, c.in-Some.ensures.cases) in
    record {
      searching = λ d lines h. rw (c.unset.ensures.steps, c.unset.ensures.marks) (searching_pop d lines c.pop.new.self.items c.in-Some.step c.loop-trail.trail.marks.items (parts.searching d lines h));
      front = rw c.unset.ensures.steps (sym (take-append-le c.args.to c.pop.new.self.items _ enough) ∙ parts.front);
    }
