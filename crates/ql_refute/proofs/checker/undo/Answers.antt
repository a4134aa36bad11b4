use Rattle.ql_refute.proofs.Marking.{only_unmarked}
use Rattle.ql_refute.proofs.Steps.{undo_hint, undo_nothing}
use Rattle.ql_refute.proofs.checker.undo.Goals as goal
use Rattle.ql_refute.proofs.checker.undo.Goals.{in-Some, in_default}

pub loop-hint-init : goal.loop-hint-init
loop-hint-init c = rw (c.unmark.ensures, c.items.ensures.same) (only_unmarked c.args.marks.now c.args.line.now.clause _ c.requires.only)

pub loop-hint-preserved : goal.loop-hint-preserved
loop-hint-preserved c =
    let here = rw c.items-hint-items.ensures at c.loop-hint-test.true in
    let names = rw c.items-hint-items.ensures at c.hinted.ensures.clause in
    elim c.match-hinted.branch [
      | in-Some w ↦ rw (w.marks-is, w.unmark-in-Some.ensures) (undo_hint c.args.c.now c.args.earlier.now c.args.line.now.hints c.loop-hint.hint-index _ c.loop-hint.marks w.in-Some.clause.now here (rw w.in-Some.is at names) c.loop-hint.invariant)
      | in_default w ↦ rw w.marks-is (undo_nothing c.args.c.now c.args.earlier.now c.args.line.now.hints c.loop-hint.hint-index _ c.loop-hint.marks here (rw w.in_default.is at names) c.loop-hint.invariant)
    ]
